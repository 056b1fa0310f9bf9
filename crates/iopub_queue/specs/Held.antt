-- What is true of each token, by its type: publisher, closing token, word or taker.
use Rattle.std.specs.Prelude.{◌≡◌, ℕ, Bool, Option, List, []}
use Rattle.crossbeam_queue.specs.declared.array_queue.Doing.{Doing}
use Rattle.crossbeam_queue.specs.declared.array_queue.Slotted.{Slotted}
use Rattle.crossbeam_queue.specs.Passes.{Pass, view, IsPassOf}
use Rattle.iopub_queue.specs.declared.view.Role.TheVariants.{Publishes, Takes, Tells}
use Rattle.iopub_queue.specs.declared.view.View.{View}
use Rattle.iopub_queue.specs.Entries.{Entry, Agree, part_of, HasNoClose, CloseIsLast}
use Rattle.iopub_queue.specs.Views.{told_of}
use Rattle.iopub_queue.specs.Marks.{Marks, unmarked}

-- A word's seat tells, and none of the queue's slots is out with it.
pub record MayTell {T : Type 0} (seat : Pass (Entry T) (View T)) : Type 0 where
  pub back : seat.me.1 ≡ []
  pub role : (view seat).role ≡ Tells

module _ {T Q A : Type 0} where
  -- A publisher or a closing token holds the seat of its number at the queue. Among what it was told of is all that it
  -- published.
  pub record HoldsSeat (line : Slotted (Option (Entry T)) (Doing (Entry T) (View T)) Q A)
      (seat : Pass (Entry T) (View T)) (number : ℕ) : Type 0 where
    pub seat_of : IsPassOf line seat
    pub role : (view seat).role ≡ Publishes
    pub named : (view seat).number ≡ number
    pub own_part : part_of number (told_of (view seat)) ≡ (view seat).published

  -- a publisher holds the seat of its number and hasn't closed
  pub record MayPublish (line : Slotted (Option (Entry T)) (Doing (Entry T) (View T)) Q A)
      (seat : Pass (Entry T) (View T)) (number : ℕ) : Type 0 where
    pub holds : HoldsSeat line seat number
    pub open_list : HasNoClose (view seat).published

  -- The taker holds the taker's seat. It marked the numbers whose close it took, and counts the others. In the part of
  -- each number a close stands last. What it took agrees with what it was told of.
  pub record MayTake (line : Slotted (Option (Entry T)) (Doing (Entry T) (View T)) Q A) (seat : Pass (Entry T) (View T))
      (marks : List Bool) (left : ℕ) : Type 0 where
    pub seat_of : IsPassOf line seat
    pub role : (view seat).role ≡ Takes
    pub marked : Marks (view seat).number marks (λ number. part_of number (view seat).taken)
    pub counted : left ≡ unmarked marks
    pub closes : (number : ℕ) → CloseIsLast (part_of number (view seat).taken)
    pub agree : Agree (told_of (view seat)) (view seat).taken
