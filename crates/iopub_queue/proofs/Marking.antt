-- Marks of closes stay right as parts grow.
use Rattle.std.proofs.Common.{◌≡◌, ◌≢◌, ℕ, zero, suc, ◌+◌, ◌<◌, Bool, true, false, true≢false, List, [], ◌∷◌, length}
use Rattle.std.proofs.Common.{set, get_or, refl, sym, ◌∙◌, subst, ⊎_elim}
use Rattle.std.proofs.Common.{arith, length-set}
use Rattle.std.specs.Prelude.{Option, Some, None}
use Rattle.std.proofs.lemmas.List.{get_or-set_same, get_or-set_other}
use Rattle.std.proofs.lemmas.Bool.{cases_eq}
use Rattle.iopub_queue.specs.Entries.{HasNoClose, EndsWithClose}
use Rattle.iopub_queue.specs.Lawful.{grown}
use Rattle.iopub_queue.specs.Marks.{IsMarked, Marks, unmarked}
use Rattle.iopub_queue.proofs.Parts.{grown_own, grown_other, item_keeps_open, closed_is_not_open}

module _ {T : Type 0} where
  -- a mark says that the part ends with a close
  pub marked_ends : (mark : Bool) (part : List (Option T)) → mark ≡ true → IsMarked mark part → EndsWithClose part
  marked_ends true part is marked = marked
  marked_ends false part is marked = absurd (true≢false (sym is))

  -- no mark says that it has none
  pub unmarked_is_open : (mark : Bool) (part : List (Option T)) → mark ≡ false → IsMarked mark part → HasNoClose part
  unmarked_is_open true part is marked = absurd (true≢false is)
  unmarked_is_open false part is marked = marked

  -- a part without a close isn't marked
  pub open_is_unmarked : (mark : Bool) (part : List (Option T)) → HasNoClose part → IsMarked mark part → mark ≡ false
  open_is_unmarked true part free marked = absurd (closed_is_not_open part marked free)
  open_is_unmarked false part free marked = refl

  -- an item changes no mark
  pub marks_item : (n : ℕ) (marks : List Bool) (part : ℕ → List (Option T)) (number : ℕ) (item : T)
      → HasNoClose (part number) → Marks n marks part → Marks n marks (grown part number (Some item))
  marks_item n marks part number item free marked = record {
    counted = marked.counted;
    each = λ other below. ⊎_elim
        (λ (same : number ≡ other).
        let own : HasNoClose (grown part number (Some item) other) =
        subst (λ at. HasNoClose (grown part number (Some item) at)) same
        (rw (grown_own part number (Some item)) (item_keeps_open (part number) item free)) in
        let mark : get_or marks other false ≡ false = open_is_unmarked (get_or marks other false) (part other)
        (subst (λ at. HasNoClose (part at)) same free) (marked.each other below) in
        rw mark own)
        (λ (apart : number ≢ other). rw (grown_other part number (Some item) other apart) (marked.each other below))
        (cases_eq number other);
  }

  -- a close is marked
  pub marks_close : (n : ℕ) (marks : List Bool) (part : ℕ → List (Option T)) (number : ℕ)
      → number < n → Marks n marks part → Marks n (set marks number true) (grown part number None)
  marks_close n marks part number known marked = record {
    counted = length-set marks number true ∙ marked.counted;
    each = λ other below. ⊎_elim
        (λ (same : number ≡ other).
        subst (λ at. IsMarked (get_or (set marks number true) at false) (grown part number None at)) same
        (rw (get_or-set_same marks number true false (rw marked.counted known), grown_own part number None)
        (part number, refl)))
        (λ (apart : number ≢ other). rw (
          get_or-set_other marks number other true false
              (λ is. apart (sym is)),
          grown_other part number None other apart,
        )
        (marked.each other below))
        (cases_eq number other);
  }

-- one more mark
pub unmarked_less : (marks : List Bool) (number : ℕ) → number < length marks → get_or marks number false ≡ false
    → unmarked (set marks number true) + 1 ≡ unmarked marks
unmarked_less [] number within is = absurd (omega arith)
unmarked_less (true ∷ marks) zero within is = absurd (true≢false is)
unmarked_less (false ∷ marks) zero within is = omega arith
unmarked_less (true ∷ marks) (suc number) within is = unmarked_less marks number (omega arith) is
unmarked_less (false ∷ marks) (suc number) within is =
    let less : unmarked (set marks number true) + 1 ≡ unmarked marks = unmarked_less marks number (omega arith) is in
    omega arith

-- where none isn't marked, each is
pub all_marked : (marks : List Bool) → unmarked marks ≡ 0 → (number : ℕ) → number < length marks
    → get_or marks number false ≡ true
all_marked [] none number within = absurd (omega arith)
all_marked (true ∷ marks) none zero within = refl
all_marked (true ∷ marks) none (suc number) within = all_marked marks none number (omega arith)
all_marked (false ∷ marks) none number within = absurd (omega arith)

-- where each is marked, none isn't
pub none_unmarked : (marks : List Bool) → ((number : ℕ) → number < length marks → get_or marks number false ≡ true)
    → unmarked marks ≡ 0
none_unmarked [] each = refl
none_unmarked (true ∷ marks) each = none_unmarked marks (λ number within. each (suc number) (omega arith))
none_unmarked (false ∷ marks) each = absurd (true≢false (sym (each 0 (omega arith))))
