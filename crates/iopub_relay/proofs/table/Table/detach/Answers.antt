use Rattle.iopub_relay.proofs.TableLemmas.{detach_absent}
use Rattle.iopub_relay.proofs.EditLemmas.{rising_removed, detach_removed}
use Rattle.iopub_relay.proofs.table.Table.detach.Goals as goal

pub invariant_of-self : goal.invariant_of-self
invariant_of-self g c =
    rw c.remove.ensures.items (rising_removed c.args.id c.in-Ok.place c.self.inside.rows.items
    (rw c.deref.ensures.value at c.in-Ok.ensures.there) c.self.invariant)

pub returns-in-Ok : goal.returns-in-Ok
returns-in-Ok g c =
    rw (← c.self.view_is) (rw c.remove.ensures.items (detach_removed c.args.id c.in-Ok.place c.self.inside.rows.items
    g.W.Outlet.outflow (rw c.deref.ensures.value at c.in-Ok.ensures.there)))

pub returns-in_default : goal.returns-in_default
returns-in_default g c =
    rw (← c.self.view_is) (detach_absent g.W.Outlet.outflow c.args.id c.in_default.field-0 c.self.inside.rows.items
    (rw c.deref.ensures.value at c.in_default.ensures.absent))
