use Rattle.kernel_engine.proofs.KeepLemmas.{keeps_handled}
use Rattle.kernel_engine.proofs.engine.Engine.finish.Goals as goal
use Rattle.kernel_engine.specs.World.{world_of}

pub invariant_of-self : goal.invariant_of-self
invariant_of-self g c =
    keeps_handled (world_of g.I.Interpreter.meaning g.P.Publish.sink g.S.Stamp.stamp) g.met.P.Publish.laws.same_on
    (λ a b same. (g.met.P.Publish.laws.same_may_refuse a b same).0)
    (g.T.Stop.may_ask c.args.stop.now) c.args.asked.request
    c.self.inside.parts c.finish.new.self c.finish.result c.self.invariant c.finish.ensures.handled
