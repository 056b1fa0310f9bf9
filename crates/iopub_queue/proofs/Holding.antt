-- Which seat holds a number, where a view is changed, added or given up.
use Rattle.std.proofs.Common.{◌≡◌, ◌≢◌, ℕ, zero, suc, ◌⊎◌, List, [], ◌∷◌, ◌++◌, set, refl, sym, ap, ◌∙◌}
use Rattle.std.proofs.Common.{subst, ⊎_elim, inr}
use Rattle.std.specs.Prelude.{map, Contains, ◌==◌}
use Rattle.std.proofs.lemmas.Bool.{cases_Bool, eqb-true, eqb-false}
use Rattle.std.proofs.lemmas.List.{map-append}
use Rattle.std.proofs.lemmas.List.Elements.{Contains-push, Contains-append_left}
use mathlib.Core.Option.{some, some-injective, some-ne-none}
use lib.ListN.{get_elem?}
use Rattle.atomic_table.proofs.Lists.{set_else, at_longer}
use Rattle.iopub_queue.specs.declared.view.Role.TheVariants.{Publishes, Takes, Tells}
use Rattle.iopub_queue.specs.declared.view.Ended.{Ended}
use Rattle.iopub_queue.specs.declared.view.View.{View}
use Rattle.iopub_queue.specs.Views.{one_more, settled_with}
use Rattle.iopub_queue.specs.Rule.{PublishesAs, SettledWith, IsHeldBy}

-- what is put at a place that is there stands there
set_there : {A : Type 0} (l : List A) (place : ℕ) (old new : A) → get_elem? l place ≡ some old
    → get_elem? (set l place new) place ≡ some new
set_there [] place old new at = absurd (some-ne-none old (sym at))
set_there (x ∷ xs) zero old new at = refl
set_there (x ∷ xs) (suc place) old new at = set_there xs place old new at

module _ {T : Type 0} where
  -- a view has a number
  abbrev Has : ℕ → View T → Type 0
  Has number view = PublishesAs number view ⊎ SettledWith number view

  -- a seat's view is changed, and has the numbers that it had
  pub held_set : (views : List (View T)) (seat : ℕ) (old new : View T) (holder number : ℕ)
      → get_elem? views seat ≡ some old
      → (Has number old → Has number new) → IsHeldBy views holder number → IsHeldBy (set views seat new) holder number
  held_set views seat old new holder number at keeps held = ⊎_elim
      (λ is. let same : holder ≡ seat = eqb-true holder seat is in
      let its : held.view ≡ old =
      some-injective held.view old (sym held.there ∙ ap (get_elem? views) same ∙ at) in record {
        view = new;
        there = ap (get_elem? (set views seat new)) same ∙ set_there views seat old new at;
        holds = keeps (subst (Has number) its held.holds);
      })
      (λ is. record {
        view = held.view;
        there = set_else views seat holder new (eqb-false holder seat is) ∙ held.there;
        holds = held.holds;
      })
      (cases_Bool (holder == seat))

  -- a seat is given up that hasn't the number
  pub held_without : (views : List (View T)) (seat : ℕ) (gone new : View T) (holder number : ℕ)
      → get_elem? views seat ≡ some gone
      → (Has number gone → ⊥) → IsHeldBy views holder number → IsHeldBy (set views seat new) holder number
  held_without views seat gone new holder number at hasnt held =
      held_set views seat gone new holder number at (λ has. absurd (hasnt has)) held

  -- another seat is given up
  pub held_apart : (views : List (View T)) (seat : ℕ) (new : View T) (holder number : ℕ) → holder ≢ seat
      → IsHeldBy views holder number → IsHeldBy (set views seat new) holder number
  held_apart views seat new holder number apart held = record {
    view = held.view;
    there = set_else views seat holder new apart ∙ held.there;
    holds = held.holds;
  }

  -- one view is added
  pub held_more : (views : List (View T)) (new : View T) (holder number : ℕ) → IsHeldBy views holder number
      → IsHeldBy (views ++ new ∷ []) holder number
  held_more views new holder number held = record {
    view = held.view;
    there = at_longer views (new ∷ []) holder held.view held.there;
    holds = held.holds;
  }

  -- the taker's seat has the numbers that it had, where it counts one more
  pub taker_keeps : (view : View T) (number : ℕ) → view.role ≡ Takes → Has number view → Has number (one_more view)
  taker_keeps view number role has = ⊎_elim
      (λ (publishes : PublishesAs number view). absurd (let both : Publishes ≡ Takes = sym publishes.0 ∙ role in cc))
      (λ (settled : SettledWith number view). inr settled)
      has

  -- a word's seat has no number
  pub word_has_none : (word : View T) (number : ℕ) → word.role ≡ Tells → Has number word → ⊥
  word_has_none word number role has = ⊎_elim
      (λ (publishes : PublishesAs number word). let both : Tells ≡ Publishes = sym role ∙ publishes.0 in cc)
      (λ (settled : SettledWith number word). let both : Tells ≡ Takes = sym role ∙ settled.0 in cc)
      has

  -- a publisher's seat has no other number
  pub closed_has_no_other : (closed : View T) (number : ℕ) → closed.role ≡ Publishes → closed.number ≢ number
      → Has number closed → ⊥
  closed_has_no_other closed number role apart has = ⊎_elim
      (λ (publishes : PublishesAs number closed). apart publishes.1)
      (λ (settled : SettledWith number closed). let both : Publishes ≡ Takes = sym role ∙ settled.0 in cc)
      has

  -- the numbers of those that the taker settled with, with one more
  numbers_more : (settled : List (Ended T)) (last : Ended T)
      → map (λ ended. ended.number) (settled ++ last ∷ [])
      ≡ map (λ (ended : Ended T). ended.number) settled ++ last.number ∷ []
  numbers_more settled last = map-append (λ (ended : Ended T). ended.number) settled (last ∷ [])

  -- the taker settled with those that it had settled with
  pub settled_before : (view closed : View T) (number : ℕ) → view.role ≡ Takes → Has number view
      → Has number (settled_with view closed)
  settled_before view closed number role has = ⊎_elim
      (λ (publishes : PublishesAs number view). absurd (let both : Publishes ≡ Takes = sym publishes.0 ∙ role in cc))
      (λ (settled : SettledWith number view). inr (
        role,
        subst (λ l. Contains l number) (sym (numbers_more view.settled _))
            (Contains-append_left (map (λ ended. ended.number) view.settled) (closed.number ∷ []) number settled.1),
      ))
      has

  -- and with one more
  pub settled_now : (view closed : View T) → view.role ≡ Takes → Has closed.number (settled_with view closed)
  settled_now view closed role = inr (
    role,
    subst (λ l. Contains l closed.number) (sym (numbers_more view.settled _))
        (Contains-push (map (λ ended. ended.number) view.settled) closed.number),
  )

  -- the seat whose view was changed
  pub held_there : (views : List (View T)) (seat : ℕ) (old new : View T) (number : ℕ) → get_elem? views seat ≡ some old
      → Has number new → IsHeldBy (set views seat new) seat number
  held_there views seat old new number at has =
      record { view = new; there = set_there views seat old new at; holds = has }
