use Rattle.std.proofs.Common.{length, ◌-◌}
use Rattle.arith_syntax.proofs.CutLemmas.{Skipped}
use Rattle.arith_syntax.proofs.cutting.skip.Given as goal

abbrev pub invariant-loop-reached : goal.invariant-loop-reached
invariant-loop-reached l = Skipped l.text l.place l.reached

abbrev pub decreases-loop-reached : goal.decreases-loop-reached
decreases-loop-reached l = length l.text - l.reached
