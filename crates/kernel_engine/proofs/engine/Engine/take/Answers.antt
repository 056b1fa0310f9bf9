use Rattle.kernel_engine.proofs.TakeLemmas.{taken, unread_taken}
use Rattle.kernel_engine.proofs.engine.Engine.take.Goals as goal
use Rattle.kernel_engine.specs.World.{world_of}

pub returns-in-Ok : goal.returns-in-Ok
returns-in-Ok g c =
    taken (world_of g.I.Interpreter.meaning g.P.Publish.sink g.S.Stamp.stamp) (g.T.Stop.may_ask c.args.stop.now)
    c.args.frames c.in-Ok.asked c.args.self.now c.finish.result c.finish.new.self c.in-Ok.ensures.opened
    c.finish.ensures

pub returns-in-Err : goal.returns-in-Err
returns-in-Err g c =
    unread_taken (world_of g.I.Interpreter.meaning g.P.Publish.sink g.S.Stamp.stamp) (g.T.Stop.may_ask c.args.stop.now)
    c.args.frames c.in-Err.unread c.args.self.now c.unread_done.result c.in-Err.ensures c.unread_done.ensures
