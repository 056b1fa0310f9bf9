use Rattle.std.proofs.Common.{length, ◌-◌}
use Rattle.arith_syntax.specs.Cut.{Progress}
use Rattle.arith_syntax.specs.Parts.{trees_of}
use Rattle.arith_syntax.proofs.reading.read_cell.Given as goal

abbrev pub invariant-loop-place : goal.invariant-loop-place
invariant-loop-place l = Progress l.text l.place (trees_of l.text l.trees)

abbrev pub decreases-loop-place : goal.decreases-loop-place
decreases-loop-place l = length l.text - l.place
