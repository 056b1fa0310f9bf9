use Rattle.iopub_relay.proofs.DrainLemmas.{drained_whole, drained_empty}
use Rattle.iopub_relay.proofs.relay.Relay.drain.Goals as goal

pub returns-in-Complete : goal.returns-in-Complete
returns-in-Complete g c =
    drained_whole g.W.Outlet.outflow c.args.self.now c.loop.self c.pump.new.self c.args.limit c.loop.counter
    c.loop-test.true c.loop.invariant c.in-Complete.ensures

pub returns-in-Empty : goal.returns-in-Empty
returns-in-Empty g c =
    drained_empty g.W.Outlet.outflow c.args.self.now c.loop.self c.pump.new.self c.args.limit c.loop.counter
    c.loop-test.true c.loop.invariant c.in-Empty.ensures
