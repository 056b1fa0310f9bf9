use Rattle.std.proofs.Common.{◌∙◌}
use Rattle.arith_syntax.proofs.PartLemmas.{settled_one}
use Rattle.arith_syntax.proofs.parser.Parser.settle.Goals as goal

pub loop-frame-preserved : goal.loop-frame-preserved
loop-frame-preserved c =
    rw (c.in_ok-push.ensures, c.in-Some.ensures.parts)
    (settled_one c.args.weakest c.args.text.now c.loop-frame.self.frames.items c.pop_ending.new.self.frames.items
    c.in-Some.frame c.loop-frame.self.parts c.part.result c.in-Some.ensures.frame.0 c.in-Some.ensures.frame.1
    c.part.ensures
    ∙ c.loop-frame.invariant)
