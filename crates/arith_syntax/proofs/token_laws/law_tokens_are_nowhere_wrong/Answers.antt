use Rattle.arith_syntax.proofs.Theorems.{tokens_are_nowhere_wrong}
use Rattle.arith_syntax.proofs.token_laws.law_tokens_are_nowhere_wrong.Goals as goal

pub returns : goal.returns
returns c = tokens_are_nowhere_wrong
