use Rattle.kernel_engine.specs.World.{world_of}
use Rattle.zmtp_connection.specs.Exchange.{devices_at}
use Rattle.kernel_session.proofs.SinkLemmas.{sink_of_session}
use Rattle.kernel_session.proofs.TellLemmas.{tells_session}
use Rattle.kernel_session.proofs.working.session.Goals as goal

pub returns-clause-tells : goal.returns-clause-tells
returns-clause-tells g c =
    tells_session (world_of g.I.Interpreter.meaning g.P.Publish.sink g.S.Stamp.stamp)
    (g.T.Stop.may_ask c.args.stop.now) c.args.engine.now c.employ.new.worker
    (devices_at (g.R.Inlet.inflow c.args.reader.now) c.args.turns (g.W.Outlet.outflow c.args.writer.now))
    (λ left. devices_at (g.R.Inlet.inflow c.employ.new.reader) left (g.W.Outlet.outflow c.employ.new.writer))
    c.employ.result c.employ.ensures

pub returns-clause-sink : goal.returns-clause-sink
returns-clause-sink g c =
    sink_of_session (world_of g.I.Interpreter.meaning g.P.Publish.sink g.S.Stamp.stamp)
    g.met.P.Publish.laws.same_itself g.met.P.Publish.laws.same_on
    (g.T.Stop.may_ask c.args.stop.now) c.args.engine.now c.employ.new.worker
    (devices_at (g.R.Inlet.inflow c.args.reader.now) c.args.turns (g.W.Outlet.outflow c.args.writer.now))
    (λ left. devices_at (g.R.Inlet.inflow c.employ.new.reader) left (g.W.Outlet.outflow c.employ.new.writer))
    c.employ.result c.employ.ensures
