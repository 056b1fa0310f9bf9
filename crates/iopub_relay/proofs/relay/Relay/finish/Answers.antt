use Rattle.std.proofs.Common.{List, ℕ, Bool, sym, ap, subst, ◌∙◌}
use Rattle.iopub_relay.specs.Relay.{RelayIsLeft, left_by}
use Rattle.iopub_relay.specs.Within.{relaying}
use Rattle.iopub_relay.proofs.LeftLemmas.{left_over}
use Rattle.iopub_relay.proofs.relay.Relay.finish.Goals as goal

pub returns-clause-rows : goal.returns-clause-rows
returns-clause-rows g c = rw (← c.self.view_is) (c.list_up.ensures ∙ ap left_by c.into_rows.ensures.rows)

pub returns-clause-left : goal.returns-clause-left
returns-clause-left g c =
    rw (← c.self.view_is) (subst (λ (left : List (ℕ × g.row.W.Denot × Bool)).
    RelayIsLeft g.W.Outlet.outflow c.self.inside.taker.taken c.self.inside.no_room left)
    (sym (c.list_up.ensures ∙ ap left_by c.into_rows.ensures.rows))
    (left_over g.W.Outlet.outflow (relaying c.self.inside) c.self.invariant))
