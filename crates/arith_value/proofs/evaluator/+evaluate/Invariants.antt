use Rattle.std.proofs.Common.{length}
use Rattle.arith_value.proofs.evaluator.+evaluate.Given as goal

-- proposed from what the function passes where it calls itself
abbrev pub decreases-evaluate : goal.decreases-evaluate
decreases-evaluate l = length l.parts.now
