use Rattle.std.proofs.Common.{ℕ, List, sym, subst, ◌≡◌, ◌+◌, Some, bytes_eq, if◌then◌else◌, ap, ◌∙◌, arith}
use Rattle.std.specs.Global.{Vec}
use Rattle.std.specs.BTreeMap.{BTreeMap}
use Rattle.iopub_relay.specs.Counts.{counted, listed}
use Rattle.iopub_relay.proofs.CountLemmas.{changed, held_more}
use Rattle.iopub_relay.proofs.topics.Topics.add.Goals as goal

pub returns-in_ok-insert-in-Missing-clause-ok : goal.returns-in_ok-insert-in-Missing-clause-ok
returns-in_ok-insert-in-Missing-clause-ok c other =
    let topic = c.args.topic in
    let missing : (c.raise.new.counts ≡ c.self.inside.counts) × (counted c.self.inside.counts topic ≡ 0) =
    rw c.as_slice.ensures at c.in-Missing.ensures in
    let octets = c.into_vec.result.items in
    let none : counted c.raise.new.counts octets ≡ 0 =
    subst (λ (one : List ℕ). counted c.raise.new.counts one ≡ 0) (sym c.into_vec.ensures)
    (ap (λ (counts : BTreeMap (Vec ℕ) ℕ). counted counts topic) missing.0 ∙ missing.1) in
    let one : counted c.insert.new.self other ≡ (if bytes_eq topic other
    then counted c.raise.new.counts other + 1 else counted c.raise.new.counts other) =
    subst (λ (one : List ℕ). counted c.insert.new.self other ≡ (if bytes_eq one other
    then counted c.raise.new.counts other + 1 else counted c.raise.new.counts other)) c.into_vec.ensures
    (changed (λ count. count + 1) c.raise.new.counts c.insert.new.self octets (Some 1) (omega (arith, none))
    c.in_ok-insert-in-Missing.ensures.updates other) in
    rw (← c.self.view_is) (held_more (bytes_eq topic other) (counted c.insert.new.self other)
    (counted c.self.inside.counts other) (listed c.self.inside.further.items other) (one
    ∙ ap (λ (counts : BTreeMap (Vec ℕ) ℕ).
    if bytes_eq topic other then counted counts other + 1 else counted counts other) missing.0))
