-- Rows by rising ids: which one a search finds.
use Rattle.std.proofs.Common.{◌≡◌, inl, inr, ℕ, ◌<◌, nat_eq, Bool, true, false, List}
use Rattle.std.proofs.Common.{[], ◌∷◌, ◌++◌, length, Option, Some, None, refl, sym, ap, subst, ◌∙◌, arith, cond}
use Rattle.std.proofs.Common.{get_or}
use Rattle.std.specs.Bool.{⊤}
use Rattle.std.specs.List.{insert, remove, slice_set}
use Rattle.std.proofs.lemmas.Bool.Decides.{eqb_tells}
use Rattle.iopub_relay.specs.declared.subscriber.Subscriber.{Subscriber}
use Rattle.iopub_relay.specs.Rows.{subscriber_at, AreBelow, AreAbove, AreRising}

-- ids that differ
pub differ : (one other : ℕ) → (one ≡ other → ⊥) → nat_eq one other ≡ false
differ one other apart = elim (eqb_tells one other) [
  | inl (test, same) ↦ absurd (apart same)
  | inr (test, different) ↦ test
]

-- an id is itself
pub same_id : (id : ℕ) → nat_eq id id ≡ true
same_id id = elim (eqb_tells id id) [
  | inl (test, same) ↦ test
  | inr (test, different) ↦ absurd (different refl)
]

abbrev IsThere : {A : Type 0} → Option A → Type 0
IsThere (Some item) = ⊤
IsThere None = ⊥

-- what is there isn't missing
pub some_not_none : {A : Type 0} (item : A) → Some item ≡ None → ⊥
some_not_none {A} item same = subst (λ (found : Option A). IsThere found) same tt

module _ {Writer : Type 0} where
  none_below : (id : ℕ) (rows behind : List (Subscriber Writer)) → AreBelow id rows
      → subscriber_at id (rows ++ behind) ≡ subscriber_at id behind
  none_below id [] behind below = refl
  none_below id (row ∷ rows) behind below =
      let less = below.0 in
      let apart : nat_eq id row.id ≡ false = differ id row.id (λ same. omega (arith, less, same)) in
      ap (λ (b : Bool). cond b (Some row) (subscriber_at id (rows ++ behind))) apart ∙ none_below id rows behind below.1

  none_above : (id : ℕ) (rows : List (Subscriber Writer)) → AreAbove id rows → subscriber_at id rows ≡ None
  none_above id [] above = refl
  none_above id (row ∷ rows) above =
      let less = above.0 in
      let apart : nat_eq id row.id ≡ false = differ id row.id (λ same. omega (arith, less, same)) in
      ap (λ (b : Bool). cond b (Some row) (subscriber_at id rows)) apart ∙ none_above id rows above.1

  -- a row that stands at its place is found
  pub found : (id : ℕ) (before behind : List (Subscriber Writer)) (row : Subscriber Writer) → row.id ≡ id
      → AreBelow id before → subscriber_at id (before ++ row ∷ behind) ≡ Some row
  found id before behind row is below =
      none_below id before (row ∷ behind) below
      ∙ ap (λ (b : Bool). cond b (Some row) (subscriber_at id behind)) (ap (nat_eq id) is ∙ same_id id)

  -- no row is found where there is none
  pub missing : (id : ℕ) (before behind : List (Subscriber Writer)) → AreBelow id before → AreAbove id behind
      → subscriber_at id (before ++ behind) ≡ None
  missing id before behind below above = none_below id before behind below ∙ none_above id behind above

  -- another id finds the same, with a row or without it
  pub other_found : (id : ℕ) (before behind : List (Subscriber Writer)) (row : Subscriber Writer)
      → nat_eq id row.id ≡ false → subscriber_at id (before ++ row ∷ behind) ≡ subscriber_at id (before ++ behind)
  other_found id [] behind row apart = ap (λ (b : Bool). cond b (Some row) (subscriber_at id behind)) apart
  other_found id (first ∷ before) behind row apart =
      ap (λ (rest : Option (Subscriber Writer)). cond (nat_eq id first.id) (Some first) rest)
      (other_found id before behind row apart)

  above_with : (id : ℕ) (before behind : List (Subscriber Writer)) (row : Subscriber Writer)
      → AreAbove id (before ++ behind) → id < row.id → AreAbove id (before ++ row ∷ behind)
  above_with id [] behind row above less = (less, above)
  above_with id (first ∷ before) behind row above less = (above.0, above_with id before behind row above.1 less)

  above_without : (id : ℕ) (before behind : List (Subscriber Writer)) (row : Subscriber Writer)
      → AreAbove id (before ++ row ∷ behind) → AreAbove id (before ++ behind)
  above_without id [] behind row above = above.1
  above_without id (first ∷ before) behind row above = (above.0, above_without id before behind row above.1)

  above_here : (id : ℕ) (before behind : List (Subscriber Writer)) (row : Subscriber Writer)
      → AreAbove id (before ++ row ∷ behind) → id < row.id
  above_here id [] behind row above = above.0
  above_here id (first ∷ before) behind row above = above_here id before behind row above.1

  -- a row put at its place
  pub rising_with : (before behind : List (Subscriber Writer)) (row : Subscriber Writer)
      → AreRising (before ++ behind) → AreBelow row.id before → AreAbove row.id behind
      → AreRising (before ++ row ∷ behind)
  rising_with [] behind row rising below above = (above, rising)
  rising_with (first ∷ before) behind row rising below above =
      (above_with first.id before behind row rising.0 below.0, rising_with before behind row rising.1 below.1 above)

  -- a row taken out
  pub rising_without : (before behind : List (Subscriber Writer)) (row : Subscriber Writer)
      → AreRising (before ++ row ∷ behind) → AreRising (before ++ behind)
  rising_without [] behind row rising = rising.1
  rising_without (first ∷ before) behind row rising =
      (above_without first.id before behind row rising.0, rising_without before behind row rising.1)

  -- the rows before one are below it, and those behind it above
  pub around : (before behind : List (Subscriber Writer)) (row : Subscriber Writer)
      → AreRising (before ++ row ∷ behind) → AreBelow row.id before × AreAbove row.id behind
  around [] behind row rising = (tt, rising.0)
  around (first ∷ before) behind row rising =
      let rest = around before behind row rising.1 in
      ((above_here first.id before behind row rising.0, rest.0), rest.1)

  -- a row in another's place
  pub rising_at : (before behind : List (Subscriber Writer)) (old new : Subscriber Writer) → new.id ≡ old.id
      → AreRising (before ++ old ∷ behind) → AreRising (before ++ new ∷ behind)
  rising_at before behind old new same rising =
      let sides = around before behind old rising in
      rising_with before behind new (rising_without before behind old rising)
      (subst (λ (id : ℕ). AreBelow id before) (sym same) sides.0)
      (subst (λ (id : ℕ). AreAbove id behind) (sym same) sides.1)

-- what stands at the place behind a part of a list
pub here : {A : Type 0} (before behind : List A) (item default : A)
    → get_or (before ++ item ∷ behind) (length before) default ≡ item
here [] behind item default = refl
here (first ∷ before) behind item default = here before behind item default

pub set_here : {A : Type 0} (before behind : List A) (old new : A)
    → slice_set (before ++ old ∷ behind) (length before) new ≡ before ++ new ∷ behind
set_here [] behind old new = refl
set_here (first ∷ before) behind old new = ap (λ rest. first ∷ rest) (set_here before behind old new)

pub removed_here : {A : Type 0} (before behind : List A) (item : A)
    → remove (before ++ item ∷ behind) (length before) ≡ before ++ behind
removed_here [] behind item = refl
removed_here (first ∷ before) behind item = ap (λ rest. first ∷ rest) (removed_here before behind item)

pub inserted_here : {A : Type 0} (before behind : List A) (item : A)
    → insert (before ++ behind) (length before) item ≡ before ++ item ∷ behind
inserted_here [] behind item = refl
inserted_here (first ∷ before) behind item = ap (λ rest. first ∷ rest) (inserted_here before behind item)
