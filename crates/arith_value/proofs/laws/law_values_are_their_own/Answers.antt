use Rattle.arith_value.proofs.Theorems.{values_are_their_own}
use Rattle.arith_value.proofs.laws.law_values_are_their_own.Goals as goal

pub returns : goal.returns
returns c = values_are_their_own
