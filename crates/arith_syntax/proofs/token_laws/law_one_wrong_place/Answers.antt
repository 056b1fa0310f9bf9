use Rattle.arith_syntax.proofs.Theorems.{one_wrong_place}
use Rattle.arith_syntax.proofs.token_laws.law_one_wrong_place.Goals as goal

pub returns : goal.returns
returns c = one_wrong_place
