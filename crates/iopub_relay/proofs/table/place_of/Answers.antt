use Rattle.std.proofs.Common.{rules, ◌≡◌, nat_lt, ◌∙◌, ap, get_or}
use Rattle.std.proofs.lemmas.List.Sorted.{IsPartitionPoint-from_clause}
use Rattle.iopub_relay.specs.declared.subscriber.Subscriber.{Subscriber}
use Rattle.iopub_relay.proofs.PlaceLemmas.{is_at, is_free, parted, first_behind, nothing_behind}
use Rattle.iopub_relay.proofs.table.place_of.Goals as goal

pub returns-in-Some-clause-there : goal.returns-in-Some-clause-there
returns-in-Some-clause-there g c =
    is_at c.args.id c.partition_point-place.result c.args.rows.now c.in-Some.row.now c.requires (search rules)
    (search rules) c.if-row-id.true

pub returns-in_default-clause-absent : goal.returns-in_default-clause-absent
returns-in_default-clause-absent g c =
    let point = IsPartitionPoint-from_clause (λ (row : Subscriber g.row.W.Denot). nat_lt row.id c.args.id)
    c.args.rows.now c.partition_point-place.result c.partition_point-place.ensures.partitioned
    (parted c.args.id c.args.rows.now c.requires) (λ a r f called. search rules) in
    is_free c.args.id c.partition_point-place.result c.args.rows.now c.requires c.partition_point-place.ensures.bound
    point.0 point.1 (λ row rest is same.
    let stands : c.in-Some.row.now ≡ get_or c.args.rows.now c.partition_point-place.result c.in-Some.row.now =
    search rules in
    c.if-row-id.false (ap (λ (one : Subscriber g.row.W.Denot). one.id) (stands
    ∙ first_behind c.args.rows.now rest c.partition_point-place.result row c.in-Some.row.now is) ∙ same))

pub returns-in_default-2-clause-absent : goal.returns-in_default-2-clause-absent
returns-in_default-2-clause-absent g c =
    let point = IsPartitionPoint-from_clause (λ (row : Subscriber g.row.W.Denot). nat_lt row.id c.args.id)
    c.args.rows.now c.partition_point-place.result c.partition_point-place.ensures.partitioned
    (parted c.args.id c.args.rows.now c.requires) (λ a r f called. search rules) in
    is_free c.args.id c.partition_point-place.result c.args.rows.now c.requires c.partition_point-place.ensures.bound
    point.0 point.1 (λ row rest is same.
    nothing_behind c.args.rows.now rest c.partition_point-place.result row (search rules) is)
