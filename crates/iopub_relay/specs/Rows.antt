-- The rows of a table: its subscribers by rising ids.
use Rattle.std.specs.Prelude.{◌≡◌, ⊤, ℕ, ◌<◌, nat_eq, List, [], ◌∷◌, ◌++◌, length, find, Option}
use Rattle.std.specs.List.{AllByRecursion}
use Rattle.iopub_relay.specs.declared.subscriber.Subscriber.{Subscriber}

-- the subscriber of this id in a table
abbrev pub subscriber_at : {Writer : Type 0} → ℕ → List (Subscriber Writer) → Option (Subscriber Writer)
subscriber_at id rows = find (λ row. nat_eq id row.id) rows

-- each id is below this one
abbrev pub AreBelow : {Writer : Type 0} → ℕ → List (Subscriber Writer) → Type 0
AreBelow id rows = AllByRecursion (λ row. row.id < id) rows

-- each id is above this one
abbrev pub AreAbove : {Writer : Type 0} → ℕ → List (Subscriber Writer) → Type 0
AreAbove id rows = AllByRecursion (λ row. id < row.id) rows

-- the ids rise
abbrev pub AreRising : {Writer : Type 0} → List (Subscriber Writer) → Type 0
AreRising [] = ⊤
AreRising (row ∷ rows) = AreAbove row.id rows × AreRising rows

-- The subscriber of this id stands at this place.
pub record IsAt {Writer : Type 0} (id place : ℕ) (rows : List (Subscriber Writer)) : Type 0 where
  pub before : List (Subscriber Writer)
  pub row : Subscriber Writer
  pub behind : List (Subscriber Writer)
  pub split : rows ≡ before ++ row ∷ behind
  pub at : length before ≡ place
  pub is : row.id ≡ id
  pub below : AreBelow id before
  pub above : AreAbove id behind

-- There is no subscriber of this id: it belongs at this place.
pub record IsFree {Writer : Type 0} (id place : ℕ) (rows : List (Subscriber Writer)) : Type 0 where
  pub before : List (Subscriber Writer)
  pub behind : List (Subscriber Writer)
  pub split : rows ≡ before ++ behind
  pub at : length before ≡ place
  pub below : AreBelow id before
  pub above : AreAbove id behind
