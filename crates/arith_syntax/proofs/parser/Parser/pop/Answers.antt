use Rattle.arith_syntax.proofs.StackLemmas.{turned-pop}
use Rattle.arith_syntax.proofs.parser.Parser.pop.Goals as goal

pub returns-clause-frame : goal.returns-clause-frame
returns-clause-frame c =
    turned-pop c.args.self.now.frames.items c.pop.new.self.items c.pop.result c.args.self.now.frames.len
    c.pop.new.self.len
    c.args.self.now.frames.ok.0 c.pop.new.self.ok.0 c.pop.ensures.items c.pop.ensures.cases
