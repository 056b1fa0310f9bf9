use Rattle.std.proofs.Common.{rules, ◌≡◌, ℕ, ◌+◌, List, if◌then◌else◌, bytes_eq, refl, sym, ap, subst, ◌∙◌}
use Rattle.iopub_relay.specs.Counts.{holding_of}
use Rattle.iopub_relay.specs.declared.subscriber.Subscriber.{Subscriber}
use Rattle.iopub_relay.proofs.TableLemmas.{subscribe_absent}
use Rattle.iopub_relay.proofs.EditLemmas.{is_row, rising_set, subscribe_set, failed_set, starved_set}
use Rattle.iopub_relay.proofs.table.Table.subscribe.Goals as goal

pub returns-in_default : goal.returns-in_default
returns-in_default g c =
    rw (← c.self.view_is) (subscribe_absent g.W.Outlet.outflow c.args.id c.in_default.field-0 c.self.inside.rows.items
    c.args.topic (rw c.deref.ensures.value at c.in_default.ensures.absent))

pub returns-in_default-standing : goal.returns-in_default-standing
returns-in_default-standing g c =
    let stands = rw c.deref.ensures.value at c.in-Ok.ensures.there in
    let row = c.index_mut-row.result.now in
    let same = is_row c.args.id c.in-Ok.place c.self.inside.rows.items stands row (search rules) in
    rw (← c.self.view_is) (failed_set c.args.id c.in-Ok.place c.self.inside.rows.items g.W.Outlet.outflow stands row
    c.args.topic same c.in_default-standing.not-Served)

pub invariant_of-self-then-is_err : goal.invariant_of-self-then-is_err
invariant_of-self-then-is_err g c =
    let stands = rw c.deref.ensures.value at c.in-Ok.ensures.there in
    let row = c.index_mut-row.result.now in
    let same = is_row c.args.id c.in-Ok.place c.self.inside.rows.items stands row (search rules) in
    rising_set c.args.id c.in-Ok.place c.self.inside.rows.items stands _
    (ap (λ (one : Subscriber g.row.W.Denot). one.id) same ∙ stands.is) c.self.invariant

pub returns-then-is_err : goal.returns-then-is_err
returns-then-is_err g c =
    let stands = rw c.deref.ensures.value at c.in-Ok.ensures.there in
    let row = c.index_mut-row.result.now in
    let same = is_row c.args.id c.in-Ok.place c.self.inside.rows.items stands row (search rules) in
    rw (← c.self.view_is) (starved_set c.args.id c.in-Ok.place c.self.inside.rows.items g.W.Outlet.outflow stands _
    c.args.topic (ap (λ (one : Subscriber g.row.W.Denot). one.id) same ∙ stands.is)
    (ap (λ (one : Subscriber g.row.W.Denot). one.writer) same)
    (sym (ap (λ (one : Subscriber g.row.W.Denot). one.standing) same) ∙ c.in-Served.is) refl)

pub invariant_of-self-2 : goal.invariant_of-self-2
invariant_of-self-2 g c =
    let stands = rw c.deref.ensures.value at c.in-Ok.ensures.there in
    let row = c.index_mut-row.result.now in
    let same = is_row c.args.id c.in-Ok.place c.self.inside.rows.items stands row (search rules) in
    rising_set c.args.id c.in-Ok.place c.self.inside.rows.items stands _
    (ap (λ (one : Subscriber g.row.W.Denot). one.id) same ∙ stands.is) c.self.invariant

pub returns : goal.returns
returns g c =
    let stands = rw c.deref.ensures.value at c.in-Ok.ensures.there in
    let row = c.index_mut-row.result.now in
    let same = is_row c.args.id c.in-Ok.place c.self.inside.rows.items stands row (search rules) in
    let topic = c.args.topic in
    let more : (other : List ℕ) → holding_of c.add.new.self other ≡ (if bytes_eq topic other
    then holding_of row.topics other + 1 else holding_of row.topics other) = search rules in
    rw (← c.self.view_is) (subscribe_set c.args.id c.in-Ok.place c.self.inside.rows.items g.W.Outlet.outflow stands _
    c.args.topic (sym (ap (λ (one : Subscriber g.row.W.Denot). one.standing) same) ∙ c.in-Served.is)
    (ap (λ (one : Subscriber g.row.W.Denot). one.id) same ∙ stands.is)
    (ap (λ (one : Subscriber g.row.W.Denot). one.writer) same)
    (ap (λ (one : Subscriber g.row.W.Denot). one.standing) same)
    (subst (λ (one : Subscriber g.row.W.Denot). (other : List ℕ) → holding_of c.add.new.self other
    ≡ (if bytes_eq topic other then holding_of one.topics other + 1 else holding_of one.topics other)) same more))
