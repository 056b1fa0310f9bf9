use Rattle.std.proofs.Common.{rules, sym, ap, ◌∙◌}
use Rattle.iopub_relay.specs.declared.subscriber.Subscriber.{Subscriber}
use Rattle.iopub_relay.specs.Relay.{is_failed, has_failed}
use Rattle.iopub_relay.specs.Rows.{subscriber_at}
use Rattle.iopub_relay.proofs.RowLemmas.{found, missing}
use Rattle.iopub_relay.proofs.EditLemmas.{is_row}
use Rattle.iopub_relay.proofs.table.Table.failed.Goals as goal

pub returns-in-Ok : goal.returns-in-Ok
returns-in-Ok g c =
    let stands = rw c.deref.ensures.value at c.in-Ok.ensures.there in
    let same = is_row c.args.id c.in-Ok.place c.self.inside.rows.items stands c.index.result.now (search rules) in
    rw (← c.self.view_is) (c.has_failed.ensures
    ∙ ap (λ (row : Subscriber g.row.W.Denot). has_failed row.standing) same
    ∙ sym (ap is_failed (ap (subscriber_at c.args.id) stands.split
    ∙ found c.args.id stands.before stands.behind stands.row stands.is stands.below)))

pub returns-in-Err : goal.returns-in-Err
returns-in-Err g c =
    let free = rw c.deref.ensures.value at c.in-Err.ensures.absent in
    rw (← c.self.view_is) (sym (ap is_failed (ap (subscriber_at c.args.id) free.split
    ∙ missing c.args.id free.before free.behind free.below free.above)))
