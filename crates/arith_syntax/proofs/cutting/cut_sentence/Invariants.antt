use Rattle.std.proofs.Common.{length, ◌-◌}
use Rattle.arith_syntax.proofs.CutLemmas.{Cutting}
use Rattle.arith_syntax.proofs.cutting.cut_sentence.Given as goal

abbrev pub invariant-loop-at : goal.invariant-loop-at
invariant-loop-at l = Cutting l.text l.place l.at l.tokens.items

abbrev pub decreases-loop-at : goal.decreases-loop-at
decreases-loop-at l = length l.text - l.at
