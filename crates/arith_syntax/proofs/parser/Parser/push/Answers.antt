use Rattle.std.proofs.Common.{ap, ◌∙◌}
use Rattle.arith_syntax.specs.Machine.{turned}
use Rattle.arith_syntax.proofs.StackLemmas.{turned-push}
use Rattle.arith_syntax.proofs.parser.Parser.push.Goals as goal

pub returns-clause-frame : goal.returns-clause-frame
returns-clause-frame c = ap turned c.in_ok-push.ensures.items ∙ turned-push c.args.self.now.frames.items c.args.frame
