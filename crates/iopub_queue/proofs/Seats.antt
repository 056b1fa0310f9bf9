-- Lists of views, of which one is changed or one is added.
use Rattle.std.proofs.Common.{◌≡◌, ◌≢◌, ℕ, zero, suc, List, [], ◌∷◌, ◌++◌, length, set, refl, sym, ap, subst, ⊎_elim}
use Rattle.std.proofs.Common.{◌⊎◌, inl, inr}
use mathlib.Core.Option.{some, some-injective, some-ne-none}
use lib.ListN.{get_elem?}
use Rattle.atomic_table.proofs.Lists.{at_set}

module _ {V : Type 0} where
  -- what holds of each seat
  abbrev pub Each : (ℕ → V → Type 0) → List V → Type 0
  Each F views = (seat : ℕ) (view : V) → get_elem? views seat ≡ some view → F seat view

  -- one view is changed
  pub each_set : (F : ℕ → V → Type 0) (views : List V) (seat : ℕ) (new : V) → F seat new
      → ((other : ℕ) (view : V) → other ≢ seat → get_elem? views other ≡ some view → F other view)
      → Each F (set views seat new)
  each_set F views seat new own others other view at = ⊎_elim
      (λ (x : (other ≡ seat) × (new ≡ view)). subst (λ (y : ℕ × V). F y.0 y.1) (λ k. (sym x.0 k, x.1 k)) own)
      (λ (x : (other ≢ seat) × (get_elem? views other ≡ some view)). others other view x.0 x.1)
      (at_set views seat other new view at)

  -- the view of another seat is what it was
  pub was_there : (views : List V) (seat other : ℕ) (new view : V) → other ≢ seat
      → get_elem? (set views seat new) other ≡ some view
      → get_elem? views other ≡ some view
  was_there views seat other new view apart at = ⊎_elim
      (λ (x : (other ≡ seat) × (new ≡ view)). absurd (apart x.0))
      (λ (x : (other ≢ seat) × (get_elem? views other ≡ some view)). x.1)
      (at_set views seat other new view at)

  -- a seat of a longer list is one of the list, or the new one
  pub at_more : (views : List V) (new : V) (seat : ℕ) (view : V) → get_elem? (views ++ new ∷ []) seat ≡ some view
      → (get_elem? views seat ≡ some view) ⊎ ((seat ≡ length views) × (new ≡ view))
  at_more [] new zero view at = inr (refl, some-injective new view at)
  at_more [] new (suc seat) view at = absurd (some-ne-none view (sym at))
  at_more (x ∷ views) new zero view at = inl at
  at_more (x ∷ views) new (suc seat) view at =
      ⊎_elim (λ (old : get_elem? views seat ≡ some view). inl old)
      (λ (y : (seat ≡ length views) × (new ≡ view)). inr (ap suc y.0, y.1)) (at_more views new seat view at)

  -- one view is added
  pub each_more : (F : ℕ → V → Type 0) (views : List V) (new : V) → Each F views → F (length views) new
      → Each F (views ++ new ∷ [])
  each_more F views new old own seat view at =
      ⊎_elim (λ (there : get_elem? views seat ≡ some view). old seat view there)
      (λ (x : (seat ≡ length views) × (new ≡ view)). subst (λ (y : ℕ × V). F y.0 y.1) (λ k. (sym x.0 k, x.1 k)) own)
      (at_more views new seat view at)
