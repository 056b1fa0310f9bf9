use Rattle.std.proofs.Common.{ap, ◌∙◌, nat_le, length, ◌-◌}
use Rattle.std.specs.List.{slice_get}
use Rattle.arith_syntax.proofs.StackLemmas.{ends_at_last}
use Rattle.arith_syntax.proofs.parser.Parser.ends_at.Goals as goal

pub returns-in-Some : goal.returns-in-Some
returns-in-Some c = λ trees.
    ap (λ rank. nat_le rank c.args.weakest) (c.rank.ensures trees)
    ∙ ends_at_last c.args.weakest c.args.self.now.frames.items c.in-Some.frame.now trees
    (c.in-Some.ensures.value ∙ ap (λ fs. slice_get fs (length fs - 1)) c.deref.ensures.value)
