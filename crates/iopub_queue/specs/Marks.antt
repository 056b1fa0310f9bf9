-- Marks of the numbers whose close was met, which the code keeps in place of the numbers' lists.
use Rattle.std.specs.Prelude.{◌≡◌, ℕ, suc, ◌<◌, ◌≤◌, Bool, true, false, ⊤, Option, List, [], ◌∷◌, length, take, drop}
use Rattle.std.specs.Prelude.{slice_index_or, Result, Ok, Err}
use Rattle.iopub_queue.specs.declared.plain_core.Core.{Core}
use Rattle.iopub_queue.specs.declared.plain_core.CoreEvent.{CoreEvent}
use Rattle.iopub_queue.specs.declared.plain_core.CoreFault.{CoreFault}
use Rattle.iopub_queue.specs.declared.plain_core.CoreFault.TheVariants.{NotAllowed, OutOfMemory}
use Rattle.iopub_queue.specs.Entries.{HasNoClose, EndsWithClose}
use Rattle.iopub_queue.specs.Lawful.{Lists, Lawful, happened, IsAllowed}

module _ {T : Type 0} where
  -- the mark of a part says yes if a close ends the part, and no if no close stands in it
  abbrev pub IsMarked : Bool → List (Option T) → Type 0
  IsMarked true part = EndsWithClose part
  IsMarked false part = HasNoClose part

  -- there is a mark for each of n numbers, which tells whether its part ends with a close
  pub record Marks (n : ℕ) (marks : List Bool) (part : ℕ → List (Option T)) : Type 0 where
    pub counted : length marks ≡ n
    pub each : (number : ℕ) → number < n → IsMarked (slice_index_or marks number false) (part number)

  -- the running core holds the state: its marks, and all entries, with how many of them were taken
  pub record Follows (n : ℕ) (state : Lists T) (core : Core T) : Type 0 where
    pub marks : Marks n core.closed.items state.published
    pub within : core.taken ≤ length core.entries.items
    pub taken : state.taken ≡ take core.taken core.entries.items
    pub waiting : state.waiting ≡ drop core.taken core.entries.items
    pub lawful : Lawful n state

  -- A step does its event if that is allowed, and refuses it if it isn't. If memory was wanting nothing is said.
  abbrev pub Steps : ℕ → Core T → CoreEvent T → ℕ → Result (Unit {0}) CoreFault → Core T → Type 0
  Steps n old event place (Ok done) new =
      (state : Lists T) → Follows n state old → IsAllowed n state event × Follows n (happened state event) new
  Steps n old event place (Err (NotAllowed named)) new =
      (named ≡ place) × ((state : Lists T) → Follows n state old → ¬ IsAllowed n state event)
  Steps n old event place (Err OutOfMemory) new = ⊤

-- there is a mark of the number, which tells that it wasn't closed
abbrev pub IsOpenMark : List Bool → ℕ → Type 0
IsOpenMark marks number = (number < length marks) × (slice_index_or marks number false ≡ false)

-- how many numbers aren't marked
abbrev pub unmarked : List Bool → ℕ
unmarked [] = 0
unmarked (true ∷ marks) = unmarked marks
unmarked (false ∷ marks) = suc (unmarked marks)
