use Rattle.std.proofs.Common.{sym, ◌∙◌}
use Rattle.arith_syntax.proofs.StackLemmas.{pops_ending}
use Rattle.arith_syntax.proofs.parser.Parser.pop_ending.Goals as goal

pub returns-then-ends_at-clause-frame : goal.returns-then-ends_at-clause-frame
returns-then-ends_at-clause-frame c =
    pops_ending c.args.weakest c.args.self.now.frames.items c.pop.new.self.frames.items c.pop.result
    (λ trees. sym (c.ends_at.ensures trees) ∙ c.if-ends_at.true) c.pop.ensures.frame
