-- Settling with one publisher after the other.
use Rattle.std.proofs.Common.{◌≡◌, ◌↔◌, Bool, true, false, List, [], ◌∷◌, ◌++◌, refl, sym, subst, IsTrue, true≢false}
use Rattle.std.specs.List.{AllByRecursion}
use Rattle.iopub_queue.specs.Values.{Publishing, Taking}
use Rattle.iopub_queue.specs.Calls.{Settles}
use Rattle.iopub_queue.specs.declared.taken.Settled.TheVariants.{Whole, Beginning}
use Rattle.iopub_relay.specs.Relay.{Meets, AreWhole}

module _ {A : Type 0} (P : A → Type 0) where
  with_last : (items : List A) (last : A) → AllByRecursion P items → P last → AllByRecursion P (items ++ last ∷ [])
  with_last [] last all has = (has, tt)
  with_last (item ∷ items) last all has = (all.0, with_last items last all.1 has)

  last_of : (items : List A) (last : A) → AllByRecursion P (items ++ last ∷ []) → P last
  last_of [] last all = all.0
  last_of (item ∷ items) last all = last_of items last all.1

  front_of : (items : List A) (last : A) → AllByRecursion P (items ++ last ∷ []) → AllByRecursion P items
  front_of [] last all = tt
  front_of (item ∷ items) last all = (all.0, front_of items last all.1)

  first_of : (items rest : List A) (first : A) → items ≡ first ∷ rest → AllByRecursion P items → P first
  first_of items rest first same all = (subst (λ (list : List A). AllByRecursion P list) same all).0

  rest_of : (items rest : List A) (first : A) → items ≡ first ∷ rest → AllByRecursion P items → AllByRecursion P rest
  rest_of items rest first same all = (subst (λ (list : List A). AllByRecursion P list) same all).1

module _ {T : Type 0} where
  -- the tokens are of the taker's queue
  abbrev pub AreOf : Taking T → List (Publishing T) → Type 0
  AreOf taker tokens = AllByRecursion (λ closed. closed.queue ≡ taker.queue) tokens

  -- Tokens that were settled with: each met the taker, and the mark says whether the close of each was taken.
  pub record Settling (taker : Taking T) (tokens : List (Publishing T)) (whole : Bool) : Type 0 where
    pub meets : AllByRecursion (Meets taker) tokens
    pub decided : IsTrue whole ↔ AreWhole taker tokens

  -- none was settled with yet
  pub settling_none : (taker : Taking T) → Settling taker [] true
  settling_none taker = record { meets = tt; decided = (λ yes. tt, λ whole. refl) }

  -- one more is whole
  pub settling_whole : (taker : Taking T) (tokens : List (Publishing T)) (whole : Bool) (closed : Publishing T)
      → Settles taker closed Whole → Settling taker tokens whole → Settling taker (tokens ++ closed ∷ []) whole
  settling_whole taker tokens whole closed settles so_far = record {
    meets = with_last (Meets taker) tokens closed so_far.meets (Whole, settles);
    decided = (
      λ yes. with_last _ tokens closed (so_far.decided.0 yes) settles.decided.0,
      λ all. so_far.decided.1 (front_of _ tokens closed all),
    );
  }

  -- one more is a beginning
  pub settling_part : (taker : Taking T) (tokens : List (Publishing T)) (whole : Bool) (closed : Publishing T)
      → Settles taker closed Beginning → Settling taker tokens whole → Settling taker (tokens ++ closed ∷ []) false
  settling_part taker tokens whole closed settles so_far = record {
    meets = with_last (Meets taker) tokens closed so_far.meets (Beginning, settles);
    decided = (
      λ yes. absurd (true≢false (sym yes)),
      λ all. absurd (settles.decided (last_of _ tokens closed all)),
    );
  }

  -- the token that comes next is of the queue, and so are those behind it
  pub next_of : (taker : Taking T) (tokens rest : List (Publishing T)) (closed : Publishing T) → tokens ≡ closed ∷ rest
      → AreOf taker tokens → closed.queue ≡ taker.queue
  next_of taker tokens rest closed same all = first_of _ tokens rest closed same all

  pub others_of : (taker : Taking T) (tokens rest : List (Publishing T)) (closed : Publishing T)
      → tokens ≡ closed ∷ rest → AreOf taker tokens → AreOf taker rest
  others_of taker tokens rest closed same all = rest_of _ tokens rest closed same all
