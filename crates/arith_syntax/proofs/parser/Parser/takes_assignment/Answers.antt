use Rattle.std.proofs.Common.{ap, ◌∙◌, length, ◌-◌}
use Rattle.std.specs.List.{slice_get}
use Rattle.arith_syntax.proofs.StackLemmas.{room_of_last}
use Rattle.arith_syntax.proofs.parser.Parser.takes_assignment.Goals as goal

pub returns-in-Some : goal.returns-in-Some
returns-in-Some c = λ trees.
    c.takes_assignment.ensures trees
    ∙ room_of_last c.args.self.now.frames.items c.in-Some.frame.now trees
    (c.in-Some.ensures.value ∙ ap (λ fs. slice_get fs (length fs - 1)) c.deref.ensures.value)
