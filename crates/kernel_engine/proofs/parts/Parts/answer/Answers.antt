use Rattle.std.proofs.Common.{refl}
use Rattle.kernel_engine.specs.World.{world_of}
use Rattle.kernel_engine.proofs.HandleLemmas.{answers_cut, answers_unreplied, answers_whole}
use Rattle.kernel_engine.proofs.parts.Parts.answer.Goals as goal

pub returns-in_default : goal.returns-in_default
returns-in_default g c = (
  refl,
  answers_cut (world_of g.I.Interpreter.meaning g.P.Publish.sink g.S.Stamp.stamp)
      g.met.P.Publish.laws.same_on (g.T.Stop.may_ask c.args.stop.now) c.args.block.now.heading c.args.pending.does
      c.args.self.now c.respond.new.self c.in_default.ensures.responds c.in_default.ensures.rest,
)

pub returns-in_default-reply : goal.returns-in_default-reply
returns-in_default-reply g c = (
  refl,
  answers_unreplied (world_of g.I.Interpreter.meaning g.P.Publish.sink g.S.Stamp.stamp)
      g.met.P.Publish.laws.same_on (g.T.Stop.may_ask c.args.stop.now) c.args.block.now.heading c.args.pending.does
      c.args.self.now c.respond.new.self c.reply-reply.new.self c.in-Ok.answered c.in-Ok.ensures.responds
      c.in-Ok.ensures.rest c.in_default-reply.ensures.refused,
)

pub returns : goal.returns
returns g c =
    let made = rw c.as_str-named.ensures at c.in-Ok-reply.ensures.made in
    answers_whole (world_of g.I.Interpreter.meaning g.P.Publish.sink g.S.Stamp.stamp)
    g.met.P.Publish.laws.same_on (g.T.Stop.may_ask c.args.stop.now) c.args.block.now.heading c.args.pending.identities
    c.args.pending.msg_type c.args.pending.does c.args.self.now c.respond.new.self c.reply-reply.new.self
    c.in-Ok.answered c.in-Ok-reply.reply c.in-Ok.ensures.responds c.in-Ok.ensures.rest made c.in-Ok-reply.ensures.few
