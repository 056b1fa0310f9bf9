use Rattle.kernel_engine.proofs.KeepLemmas.{keeps_last}
use Rattle.kernel_engine.proofs.engine.Engine.handle_last.Goals as goal
use Rattle.kernel_engine.specs.World.{world_of}

pub invariant_of-self : goal.invariant_of-self
invariant_of-self g c =
    keeps_last (world_of g.I.Interpreter.meaning g.P.Publish.sink g.S.Stamp.stamp) g.met.P.Publish.laws.same_on
    (λ a b same. (g.met.P.Publish.laws.same_may_refuse a b same).0) g.P.PublishAfter.publisher c.args.word.list
    (g.T.Stop.may_ask c.args.stop.now) c.args.request c.self.inside.parts c.finish_last.new.self c.finish_last.result
    c.self.invariant c.finish_last.ensures.handled
