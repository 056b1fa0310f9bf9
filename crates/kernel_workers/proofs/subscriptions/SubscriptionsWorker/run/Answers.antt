use Rattle.std.proofs.Common.{rules, ◌≡◌, ◌∷◌, ◌++◌, [], filter, List, Option, None, ap, sym, ◌∙◌, append_assoc, subst, All}
use Rattle.std.proofs.lemmas.List.Elements.{All-append, filter-append}
use Rattle.iopub_event.specs.declared.event.Event.{Event}
use Rattle.kernel_workers.specs.Ending.{IsNoMessage, PassesOn, is_passed_on}
use Rattle.kernel_workers.proofs.subscriptions.SubscriptionsWorker.run.Goals as goal

-- the end that came out of an inbox is passed on as the close
closes : {W : Type 0} (before inbox items all closed : List (Option (Event W))) → PassesOn before inbox items
    → all ≡ inbox ++ None ∷ [] → closed ≡ items ++ None ∷ [] → PassesOn before all closed
closes {W} before inbox items all closed passes ends last =
    ap (filter is_passed_on) ends ∙ filter-append is_passed_on inbox (None ∷ [])
    ∙ ap (λ (list : List (Option (Event W))). list ++ None ∷ []) passes
    ∙ append_assoc (filter is_passed_on before) items (None ∷ [])
    ∙ ap (λ (list : List (Option (Event W))). filter is_passed_on before ++ list) (sym last)

pub returns-in-None-next : goal.returns-in-None-next
returns-in-None-next g c = record {
  queue = search rules;
  number = search rules;
  passes = closes c.args.self.inbox c.loop.inbox c.loop.sink.published _ _ c.loop.invariant.passes c.in-None-next.ensures
      c.close.ensures.published;
  silent = subst (λ (list : List (Option (Event g.row.W.Denot))). All IsNoMessage list) (sym c.close.ensures.published)
      (All-append IsNoMessage c.loop.sink.published (None ∷ []) c.loop.invariant.silent (search rules));
  close_last = search rules;
}
