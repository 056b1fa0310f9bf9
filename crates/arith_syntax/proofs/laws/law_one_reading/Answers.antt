use Rattle.arith_syntax.proofs.Theorems.{one_reading}
use Rattle.arith_syntax.proofs.laws.law_one_reading.Goals as goal

pub returns : goal.returns
returns c = one_reading
