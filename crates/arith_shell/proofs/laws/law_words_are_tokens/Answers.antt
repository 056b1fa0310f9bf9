use Rattle.std.proofs.Common.{arith}
use Rattle.std.proofs.lemmas.Bool.Decides.{nat_tests}
use Rattle.arith_shell.proofs.laws.law_words_are_tokens.Goals as goal

pub returns : goal.returns
returns c = λ c. (λ h. grind (arith, nat_tests), λ h. grind (arith, nat_tests))
