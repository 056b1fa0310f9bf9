-- The place of a row, by its id.
use Rattle.std.proofs.Common.{◌≡◌, ℕ, zero, suc, ◌<◌, ◌≤◌, nat_lt, true, false, List, [], ◌∷◌, ◌++◌, length, take}
use Rattle.std.proofs.Common.{drop, refl, sym, ap, subst, arith, get_or}
use Rattle.std.proofs.Common.{inl, inr}
use Rattle.std.proofs.Math.Nat.{eq-or-lt_of_le}
use Rattle.std.specs.List.{AllByRecursion, AllWithin}
use Rattle.std.specs.List.Sorted.{IsPartitionedBy}
use Rattle.std.proofs.lemmas.List.{take-append-drop, length-take-le}
use Rattle.std.proofs.lemmas.Bool.{lt-ltb, ltb-true, ltb-false}
use Rattle.iopub_relay.specs.declared.subscriber.Subscriber.{Subscriber}
use Rattle.iopub_relay.specs.Rows.{AreBelow, AreAbove, AreRising, IsAt, IsFree}
use Rattle.iopub_relay.proofs.RowLemmas.{around}

split_at : {A : Type 0} (items : List A) (place : ℕ) (item : A) → place < length items → item ≡ get_or items place item
    → items ≡ take place items ++ item ∷ drop (suc place) items
split_at [] place item within is = absurd (omega (arith, within))
split_at (first ∷ items) zero item within is = ap (λ it. it ∷ items) (sym is)
split_at (first ∷ items) (suc place) item within is =
    ap (λ rest. first ∷ rest) (split_at items place item (omega (arith, within)) is)

nil_not_cons : {A : Type 0} (item : A) (items : List A) → [] ≡ item ∷ items → ⊥
nil_not_cons {A} item items same =
    let none : 0 ≡ suc (length items) = ap (λ (all : List A). length all) same in
    omega (arith, none)

less_by : (one other : ℕ) → one ≤ other → (other ≡ one → ⊥) → one < other
less_by one other most apart = elim (eq-or-lt_of_le most) [
  | inl same ↦ absurd (apart (sym same))
  | inr less ↦ less
]

module _ {Writer : Type 0} where
  below_by : (id : ℕ) (rows : List (Subscriber Writer)) (place : ℕ)
      → AllWithin (λ row. nat_lt row.id id ≡ true) rows 0 place → AreBelow id (take place rows)
  below_by id [] zero within = tt
  below_by id [] (suc place) within = tt
  below_by id (row ∷ rows) zero within = tt
  below_by id (row ∷ rows) (suc place) within = (
    ltb-true row.id id (within 0 row (omega arith) (omega arith)),
    below_by id rows place (λ k d low high. within (suc k) d (omega arith) (omega (arith, high))),
  )

  from_by : (id : ℕ) (rows : List (Subscriber Writer)) (place : ℕ)
      → AllWithin (λ row. nat_lt row.id id ≡ false) rows place (length rows)
      → AllByRecursion (λ (row : Subscriber Writer). id ≤ row.id) (drop place rows)
  from_by id [] zero within = tt
  from_by id [] (suc place) within = tt
  from_by id (row ∷ rows) zero within = (
    ltb-false row.id id (within 0 row (omega arith) (omega arith)),
    from_by id rows zero (λ k d low high. within (suc k) d (omega arith) (omega (arith, high))),
  )
  from_by id (row ∷ rows) (suc place) within =
      from_by id rows place (λ k d low high. within (suc k) d (omega (arith, low)) (omega (arith, high)))

  rising_behind : (rows : List (Subscriber Writer)) (place : ℕ) → AreRising rows → AreRising (drop place rows)
  rising_behind [] zero rising = tt
  rising_behind [] (suc place) rising = tt
  rising_behind (row ∷ rows) zero rising = rising
  rising_behind (row ∷ rows) (suc place) rising = rising_behind rows place rising.1

  above_less : (id other : ℕ) (rows : List (Subscriber Writer)) → id < other → AreAbove other rows → AreAbove id rows
  above_less id other [] less above = tt
  above_less id other (row ∷ rows) less above =
      let more = above.0 in (omega (arith, less, more), above_less id other rows less above.1)

  above_by : (id : ℕ) (rows : List (Subscriber Writer)) → AreRising rows
      → AllByRecursion (λ (row : Subscriber Writer). id ≤ row.id) rows
      → ((row : Subscriber Writer) (rest : List (Subscriber Writer)) → rows ≡ row ∷ rest → row.id ≡ id → ⊥)
      → AreAbove id rows
  above_by id [] rising from apart = tt
  above_by id (row ∷ rows) rising from apart =
      let most = from.0 in
      let less : id < row.id = less_by id row.id most (λ same. apart row rows refl same) in
      (less, above_less id row.id rows less rising.0)

  above_at : (id : ℕ) (rows : List (Subscriber Writer)) (place : ℕ) (default : Subscriber Writer) → AreAbove id rows
      → place < length rows → id < (get_or rows place default).id
  above_at id [] place default above within = absurd (omega (arith, within))
  above_at id (row ∷ rows) zero default above within = above.0
  above_at id (row ∷ rows) (suc place) default above within =
      above_at id rows place default above.1 (omega (arith, within))

  rising_le : (rows : List (Subscriber Writer)) (i j : ℕ) (default : Subscriber Writer) → AreRising rows → i ≤ j
      → j < length rows → (get_or rows i default).id ≤ (get_or rows j default).id
  rising_le [] i j default rising below within = absurd (omega (arith, within))
  rising_le (row ∷ rows) zero zero default rising below within = omega arith
  rising_le (row ∷ rows) zero (suc j) default rising below within =
      let more = above_at row.id rows j default rising.0 (omega (arith, within)) in omega (arith, more)
  rising_le (row ∷ rows) (suc i) zero default rising below within = absurd (omega (arith, below))
  rising_le (row ∷ rows) (suc i) (suc j) default rising below within =
      rising_le rows i j default rising.1 (omega (arith, below)) (omega (arith, within))

  -- rows by rising ids are parted by any id
  pub parted : (id : ℕ) (rows : List (Subscriber Writer)) → AreRising rows
      → IsPartitionedBy (λ (row : Subscriber Writer). nat_lt row.id id) rows
  parted id rows rising i j default below within passes =
      let most = rising_le rows i j default rising below within in
      let less = ltb-true (get_or rows j default).id id passes in
      lt-ltb (get_or rows i default).id id (omega (arith, most, less))

  -- a row of this id stands at its place
  pub is_at : (id place : ℕ) (rows : List (Subscriber Writer)) (row : Subscriber Writer) → AreRising rows
      → place < length rows → row ≡ get_or rows place row → row.id ≡ id → IsAt id place rows
  is_at id place rows row rising within stands is =
      let split = split_at rows place row within stands in
      let sides = around (take place rows) (drop (suc place) rows) row
      (subst (λ (all : List (Subscriber Writer)). AreRising all) split rising) in record {
        before = take place rows;
        row = row;
        behind = drop (suc place) rows;
        split = split;
        at = length-take-le place rows (omega (arith, within));
        is = is;
        below = subst (λ (one : ℕ). AreBelow one (take place rows)) is sides.0;
        above = subst (λ (one : ℕ). AreAbove one (drop (suc place) rows)) is sides.1;
      }

  -- where no row of this id stands at the place that parts them there is none
  pub is_free : (id place : ℕ) (rows : List (Subscriber Writer)) → AreRising rows → place ≤ length rows
      → AllWithin (λ row. nat_lt row.id id ≡ true) rows 0 place
      → AllWithin (λ row. nat_lt row.id id ≡ false) rows place (length rows)
      → ((row : Subscriber Writer) (rest : List (Subscriber Writer)) → drop place rows ≡ row ∷ rest → row.id ≡ id → ⊥)
      → IsFree id place rows
  is_free id place rows rising within below from apart = record {
    before = take place rows;
    behind = drop place rows;
    split = sym (take-append-drop place rows);
    at = length-take-le place rows within;
    below = below_by id rows place below;
    above = above_by id (drop place rows) (rising_behind rows place rising) (from_by id rows place from) apart;
  }

  -- what stands behind a place begins with the row there
  pub first_behind : (rows rest : List (Subscriber Writer)) (place : ℕ) (row default : Subscriber Writer)
      → drop place rows ≡ row ∷ rest → get_or rows place default ≡ row
  first_behind [] rest zero row default is = absurd (nil_not_cons row rest is)
  first_behind [] rest (suc place) row default is = absurd (nil_not_cons row rest is)
  first_behind (first ∷ rows) rest zero row default is =
      ap (λ (all : List (Subscriber Writer)). get_or all 0 default) is
  first_behind (first ∷ rows) rest (suc place) row default is = first_behind rows rest place row default is

  -- nothing stands behind the last place
  pub nothing_behind : (rows rest : List (Subscriber Writer)) (place : ℕ) (row : Subscriber Writer)
      → length rows ≤ place → drop place rows ≡ row ∷ rest → ⊥
  nothing_behind [] rest zero row past is = nil_not_cons row rest is
  nothing_behind [] rest (suc place) row past is = nil_not_cons row rest is
  nothing_behind (first ∷ rows) rest zero row past is = absurd (omega (arith, past))
  nothing_behind (first ∷ rows) rest (suc place) row past is =
      nothing_behind rows rest place row (omega (arith, past)) is
