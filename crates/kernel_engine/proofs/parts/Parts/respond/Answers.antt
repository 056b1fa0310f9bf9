use Rattle.std.proofs.Common.{[], refl, ◌∙◌, ap}
use Rattle.kernel_engine.specs.declared.does.Does.TheVariants.{Refuses}
use Rattle.kernel_engine.specs.declared.respond.Answered.{Answered}
use Rattle.kernel_engine.specs.Answer.{plain}
use Rattle.kernel_engine.specs.Growth.{PutsUnder}
use Rattle.kernel_engine.specs.Responds.{answer_of}
use Rattle.kernel_engine.proofs.GrowthLemmas.{puts_none}
use Rattle.kernel_engine.proofs.RespondLemmas.{executed_told, looked_at_once, responds_at_once, said_at_once}
use Rattle.kernel_engine.proofs.parts.Parts.respond.Goals as goal

pub returns-in-Says-clause-responds : goal.returns-in-Says-clause-responds
returns-in-Says-clause-responds g c =
    rw (c.in-Says.is) (said_at_once g.I.Interpreter.meaning c.in-Says.publication c.in-Says.reply c.in-Says.order
    (g.T.Stop.may_ask c.args.stop.now) c.args.self.now.interp c.args.self.now.count c.say.result
    (PutsUnder g.P.Publish.sink g.S.Stamp.stamp c.args.block.now.heading c.args.self.now.publishing
    c.say.new.publishing)
    c.say.ensures)

pub returns-in-Looks-clause-responds : goal.returns-in-Looks-clause-responds
returns-in-Looks-clause-responds g c =
    rw (c.in-Looks.is) (looked_at_once g.I.Interpreter.meaning c.in-Looks.look (g.T.Stop.may_ask c.args.stop.now)
    c.args.self.now.interp c.args.self.now.count c.look_up.result
    (PutsUnder g.P.Publish.sink g.S.Stamp.stamp c.args.block.now.heading c.args.self.now.publishing
    c.args.self.now.publishing)
    c.look_up.ensures
    (puts_none g.P.Publish.sink g.S.Stamp.stamp c.args.block.now.heading g.met.P.Publish.laws.same_itself
    c.args.self.now.publishing))

pub returns-in-Runs-clause-responds : goal.returns-in-Runs-clause-responds
returns-in-Runs-clause-responds g c =
    let silent = rw (c.in-Runs.is) at c.requires.silent in
    rw (c.in-Runs.is) (executed_told g.I.Interpreter.meaning c.in-Runs.code c.in-Runs.silent c.in-Runs.counts
    c.in-Runs.expressions (g.T.Stop.may_ask c.args.stop.now) c.args.self.now.interp c.run.new.self.interp
    c.args.self.now.count c.run.new.self.count c.run.result
    (PutsUnder g.P.Publish.sink g.S.Stamp.stamp c.args.block.now.heading c.args.self.now.publishing
    c.run.new.self.publishing)
    (ap (λ p. p.count) c.run.ensures.rest) (rw (silent) at c.run.ensures.ran))

pub returns-in-Refuses-clause-responds : goal.returns-in-Refuses-clause-responds
returns-in-Refuses-clause-responds g c =
    rw (c.in-Refuses.is) (responds_at_once g.I.Interpreter.meaning
    (Refuses c.in-Refuses.kind c.in-Refuses.ename c.in-Refuses.evalue)
    (g.T.Stop.may_ask c.args.stop.now) c.args.self.now.interp c.args.self.now.count
    (answer_of c.plain.result c.args.self.now.interp c.args.self.now.count)
    (PutsUnder g.P.Publish.sink g.S.Stamp.stamp c.args.block.now.heading c.args.self.now.publishing
    c.args.self.now.publishing) [] refl
    (ap (λ (a : Answered). answer_of a c.args.self.now.interp c.args.self.now.count) c.plain.ensures
    ∙ ap (λ r. plain c.args.self.now.interp c.args.self.now.count r) c.error_reply.ensures)
    (puts_none g.P.Publish.sink g.S.Stamp.stamp c.args.block.now.heading g.met.P.Publish.laws.same_itself
    c.args.self.now.publishing))
