use Rattle.kernel_engine.proofs.KeepLemmas.{keeps_closed}
use Rattle.kernel_engine.proofs.engine.Engine.close.Goals as goal
use Rattle.kernel_engine.specs.World.{world_of}

pub new-requires : goal.new-requires
new-requires g c =
    keeps_closed (world_of g.I.Interpreter.meaning g.P.Publish.sink g.S.Stamp.stamp) g.met.P.Publish.laws.same_on
    (λ a b same. (g.met.P.Publish.laws.same_may_refuse a b same).0) c.self.inside.parts c.pay.new.self c.pay.result
    c.self.invariant c.pay.ensures
