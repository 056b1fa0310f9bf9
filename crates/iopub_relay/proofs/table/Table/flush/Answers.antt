use Rattle.iopub_relay.proofs.FlushLemmas.{rising_alike}
use Rattle.iopub_relay.proofs.table.Table.flush.Goals as goal

pub invariant_of-self : goal.invariant_of-self
invariant_of-self g c =
    rising_alike g.W.Outlet.outflow c.self.inside.rows.items c.flush_all.new.subscribers.items c.flush_all.ensures
    c.self.invariant
