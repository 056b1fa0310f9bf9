use Rattle.listed.specs.Bodies.{bodies}
use Rattle.std.proofs.Common.{sym}
use Rattle.iopub_relay.proofs.ServeLemmas.{message_served}
use Rattle.iopub_relay.proofs.ReceiveLemmas.{rising_received}
use Rattle.iopub_relay.proofs.table.Table.message.Goals as goal

pub invariant_of-self : goal.invariant_of-self
invariant_of-self g c =
    rising_received g.W.Outlet.outflow (bodies c.as_slice-frames.result.now) c.self.inside.rows.items
    c.receive_all.new.rows.items c.receive_all.ensures c.self.invariant

pub returns : goal.returns
returns g c =
    rw (← c.self.view_is) (rw (sym c.as_slice-frames.ensures) (message_served g.W.Outlet.outflow
    (bodies c.as_slice-frames.result.now) c.self.inside.rows.items c.receive_all.new.rows.items c.receive_all.ensures))
