use Rattle.arith_syntax.proofs.Theorems.{one_tree}
use Rattle.arith_syntax.proofs.laws.law_one_tree.Goals as goal

pub returns : goal.returns
returns c = one_tree
