use Rattle.arith_syntax.proofs.StackLemmas.{whole_stack}
use Rattle.arith_syntax.proofs.parser.Parser.is_whole.Goals as goal

pub returns : goal.returns
returns c = rw c.is_empty.ensures (whole_stack c.args.self.now.frames.items c.args.self.now.frames.len
    c.args.self.now.frames.ok.0)
