use Rattle.arith_syntax.proofs.Theorems.{one_lexing}
use Rattle.arith_syntax.proofs.token_laws.law_one_lexing.Goals as goal

pub returns : goal.returns
returns c = one_lexing
