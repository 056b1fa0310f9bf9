use Rattle.arith_syntax.proofs.TreeLemmas.{name_behind}
use Rattle.arith_syntax.proofs.part.name_of.Goals as goal

pub returns-in-Some : goal.returns-in-Some
returns-in-Some c =
    name_behind c.args.text.now c.args.parts.now c.in-Some.part.now c.name.result.now c.in-Some.ensures.value
    c.name.ensures
