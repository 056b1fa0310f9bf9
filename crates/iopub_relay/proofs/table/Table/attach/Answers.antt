use Rattle.std.proofs.Common.{refl}
use Rattle.iopub_relay.proofs.TableLemmas.{attach_there, no_room}
use Rattle.iopub_relay.proofs.EditLemmas.{rising_inserted, attach_inserted}
use Rattle.iopub_relay.proofs.table.Table.attach.Goals as goal

pub returns-in_default : goal.returns-in_default
returns-in_default g c =
    rw (← c.self.view_is) (attach_there g.W.Outlet.outflow c.args.id c.in_default.field-0 c.self.inside.rows.items
    c.args.writer (rw c.deref.ensures.value at c.in_default.ensures.there))

pub invariant_of-self-2 : goal.invariant_of-self-2
invariant_of-self-2 g c =
    rw c.in_default-insert.ensures.items (rising_inserted c.args.id c.in-Err.place c.self.inside.rows.items
    (rw c.deref.ensures.value at c.in-Err.ensures.absent) _ refl c.self.invariant)

pub returns : goal.returns
returns g c =
    rw (← c.self.view_is) (rw c.in_default-insert.ensures.items (attach_inserted c.args.id c.in-Err.place
    c.self.inside.rows.items g.W.Outlet.outflow (rw c.deref.ensures.value at c.in-Err.ensures.absent) _ refl refl
    c.new.ensures))

pub returns-in-Err-insert : goal.returns-in-Err-insert
returns-in-Err-insert g c =
    rw (← c.self.view_is) (rw c.in-Err-insert.ensures.items (
      (c.args.writer, refl),
      (
        no_room g.W.Outlet.outflow c.args.id
            c.in-Err.place c.self.inside.rows.items (rw c.deref.ensures.value at c.in-Err.ensures.absent),
        refl,
      ),
    ))
