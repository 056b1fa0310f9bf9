use Rattle.std.proofs.Common.{◌≡◌, ◌≢◌, List, ℕ, [], Option, Some, ◌∙◌, ap, inl, refl, rules}
use Rattle.std.specs.Borrow.{Bor}
use Rattle.std.specs.Option.{option_copied, option_or}
use Rattle.std.proofs.lemmas.Bool.{false≢true}
use Rattle.zmtp_wire.proofs.PropertyLemmas.{read_sought, read_other, read_broken, copied_or}
use Rattle.zmtp_wire.proofs.handshake.ready.announced_in.Goals as goal

pub returns-in_err-name-clause-none : goal.returns-in_err-name-clause-none
returns-in_err-name-clause-none c =
    let some : c.list.left.now ≢ [] = search rules in
    rw c.from_residual.ensures (inl (read_broken c.args.sought.now c.args.rest.now c.list.left.now
    (option_copied c.list.found) some c.in_err-name.ensures.none c.list.invariant))

pub list-preserved-then-eq_ignore_ascii_case : goal.list-preserved-then-eq_ignore_ascii_case
list-preserved-then-eq_ignore_ascii_case c =
    let found : option_copied c.or-found.result ≡ option_or (option_copied c.list.found) (Some c.in_ok-name.value.now) =
    ap (λ (o : Option (Bor (List ℕ))). option_copied o) c.or-found.ensures
    ∙ copied_or c.list.found (Some c.in_ok-name.value) in
    rw found (read_sought c.args.sought.now c.args.rest.now c.list.left.now c.in_ok-name.behind.now
    c.in_ok-name.name.now c.in_ok-name.value.now (option_copied c.list.found)
    c.list.invariant c.in_ok-name.ensures.found (c.if-eq_ignore_ascii_case.ensures.test.0 refl))

pub list-preserved : goal.list-preserved
list-preserved c =
    read_other c.args.sought.now c.args.rest.now c.list.left.now c.in_ok-name.behind.now c.in_ok-name.name.now
    c.in_ok-name.value.now (option_copied c.list.found)
    c.list.invariant c.in_ok-name.ensures.found (λ is. false≢true (c.if-eq_ignore_ascii_case.ensures.test.1 is))
