use Rattle.std.proofs.Common.{◌≡◌, sym, ap, ◌∙◌, subst}
use Rattle.crossbeam_queue.specs.Passes.{view}
use Rattle.iopub_queue.specs.Entries.{HasNoClose}
use Rattle.iopub_queue.proofs.Moves.{publishes}
use Rattle.iopub_queue.proofs.line.push.Goals as goal

pub push_as-requires-clause-rule : goal.push_as-requires-clause-rule
push_as-requires-clause-rule g c =
    let same : view c.loop.seat ≡ view c.args.seat.now = c.loop.invariant.3 in (
      publishes _ _ _ _ (ap (λ v. v.role) same ∙ c.requires.role)
          (ap (λ (entry : _). entry.0) c.loop.invariant.0 ∙ c.requires.number ∙ sym (ap (λ v. v.number) same))
          (subst (λ v. HasNoClose v.published) (sym same) c.requires.open),
      λ _ _ _ _. tt,
    )
