use Rattle.std.proofs.Common.{rules, sym}
use Rattle.iopub_relay.proofs.TableLemmas.{pong_absent}
use Rattle.iopub_relay.proofs.EditLemmas.{answered, is_row, rising_answered}
use Rattle.iopub_relay.proofs.table.Table.pong.Goals as goal

pub returns-in_default : goal.returns-in_default
returns-in_default g c =
    rw (← c.self.view_is) (pong_absent g.W.Outlet.outflow c.args.id c.in_default.field-0 c.self.inside.rows.items
    c.args.context (rw c.deref.ensures.value at c.in_default.ensures.absent))

pub invariant_of-self : goal.invariant_of-self
invariant_of-self g c =
    let stands = rw c.deref.ensures.value at c.in-Ok.ensures.there in
    let row = c.index_mut-row.result.now in
    let same = is_row c.args.id c.in-Ok.place c.self.inside.rows.items stands row (search rules) in
    rising_answered c.args.id c.in-Ok.place c.self.inside.rows.items g.W.Outlet.outflow stands c.as_slice.result.now
    row c.pong.new.self same c.pong.ensures c.self.invariant

pub returns : goal.returns
returns g c =
    let stands = rw c.deref.ensures.value at c.in-Ok.ensures.there in
    let row = c.index_mut-row.result.now in
    let same = is_row c.args.id c.in-Ok.place c.self.inside.rows.items stands row (search rules) in
    rw (← c.self.view_is) (rw (sym c.as_slice.ensures) (answered c.args.id c.in-Ok.place c.self.inside.rows.items
    g.W.Outlet.outflow stands row c.pong.new.self c.as_slice.result.now same c.pong.ensures))
