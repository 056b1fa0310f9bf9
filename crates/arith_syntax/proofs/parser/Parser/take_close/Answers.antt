use Rattle.arith_syntax.proofs.PartLemmas.{state_closed}
use Rattle.arith_syntax.proofs.parser.Parser.take_close.Goals as goal

pub returns : goal.returns
returns c =
    state_closed c.args.text.now c.args.self.now c.pop_open.new.self c.hold.new.self
    c.if-not-pop_open.ensures.frame c.if-not-pop_open.ensures.parts c.in_ok-hold.ensures
