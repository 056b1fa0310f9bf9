use Rattle.std.proofs.Common.{sym}
use Rattle.kernel_engine.proofs.StartLemmas.{keeps_started, says_started}
use Rattle.kernel_engine.proofs.engine.Engine.start.Goals as goal
use Rattle.kernel_engine.specs.World.{world_of}

pub invariant_of-self : goal.invariant_of-self
invariant_of-self g c =
    keeps_started (world_of g.I.Interpreter.meaning g.P.Publish.sink g.S.Stamp.stamp) g.met.P.Publish.laws.same_on
    c.self.inside.parts c.start.new.self
    c.start.result c.self.invariant c.start.ensures

pub returns : goal.returns
returns g c =
    rw (sym c.self.view_is) (says_started (world_of g.I.Interpreter.meaning g.P.Publish.sink g.S.Stamp.stamp)
    g.met.P.Publish.laws.same_on
    c.self.inside.parts c.start.new.self
    c.start.result c.self.invariant c.start.ensures)
