-- The rule of the queue. At each moment there is one lawful state of the core, and what waits in it is what the queue
-- holds. Each seat knows of that state what its role lets it know.
use Rattle.std.specs.Prelude.{◌≡◌, ℕ, ◌<◌, ◌⊎◌, Option, List, map, All, Contains}
use mathlib.Core.Option.{some}
use lib.ListN.{get_elem?}
use Rattle.iopub_queue.specs.declared.view.Role.TheVariants.{Publishes, Takes}
use Rattle.iopub_queue.specs.declared.view.Ended.{Ended}
use Rattle.iopub_queue.specs.declared.view.View.{View}
use Rattle.iopub_queue.specs.Entries.{Entry, StartsWith}
use Rattle.iopub_queue.specs.Lawful.{Lists, Lawful, history}

-- What the rule keeps beside what waits: how many numbers there are, the taker's seat, the seat of each number, what
-- each number published, and what was taken.
pub record Standing (T : Type 0) : Type 0 where
  pub numbers : ℕ
  pub taker : ℕ
  pub seat : ℕ → ℕ
  pub published : ℕ → List (Option T)
  pub taken : List (Entry T)

module _ {T : Type 0} where
  -- the core's state: what waits is what the queue holds
  abbrev pub core_of : Standing T → List (Entry T) → Lists T
  core_of standing waiting = record { taken = standing.taken; waiting = waiting; published = standing.published }

  -- A publisher's seat, or its closing token's, is the one seat of its number, and it knows what the number published.
  pub record HoldsNumber (standing : Standing T) (seat : ℕ) (view : View T) : Type 0 where
    pub known : view.number < standing.numbers
    pub own : standing.seat view.number ≡ seat
    pub list : standing.published view.number ≡ view.published

  -- The taker settled with a publisher: the number's seat is the taker's, and its list is what the publisher had.
  pub record SettlesWith (standing : Standing T) (waiting : List (Entry T)) (ended : Ended T) : Type 0 where
    pub known : ended.number < standing.numbers
    pub own : standing.seat ended.number ≡ standing.taker
    pub list : standing.published ended.number ≡ ended.published
    pub told : StartsWith (history (core_of standing waiting)) ended.told

  -- The taker's seat is the only one that takes. It knows how many numbers there are and what was taken.
  pub record HoldsTaken (standing : Standing T) (waiting : List (Entry T)) (seat : ℕ) (view : View T) : Type 0 where
    pub own : seat ≡ standing.taker
    pub numbers : standing.numbers ≡ view.number
    pub taken : standing.taken ≡ view.taken
    pub settled : All (SettlesWith standing waiting) view.settled

  -- What a seat saw and heard is a beginning of the history; a publisher and the taker know their own lists, too.
  pub record Knows (standing : Standing T) (waiting : List (Entry T)) (seat : ℕ) (view : View T) : Type 0 where
    pub seen : StartsWith (history (core_of standing waiting)) view.seen
    pub heard : StartsWith (history (core_of standing waiting)) view.heard
    pub publishes : view.role ≡ Publishes → HoldsNumber standing seat view
    pub takes : view.role ≡ Takes → HoldsTaken standing waiting seat view

  -- a publisher's seat, or its closing token's, has this number
  abbrev pub PublishesAs : ℕ → View T → Type 0
  PublishesAs number view = (view.role ≡ Publishes) × (view.number ≡ number)

  -- the seat is the taker's, and the taker has settled with the publisher of this number
  abbrev pub SettledWith : ℕ → View T → Type 0
  SettledWith number view = (view.role ≡ Takes) × Contains (map (λ ended. ended.number) view.settled) number

  -- A seat holds a number: it is the seat of that number's publisher or closing token, or the taker's if the taker
  -- settled with it.
  pub record IsHeldBy (views : List (View T)) (seat number : ℕ) : Type 0 where
    pub view : View T
    pub there : get_elem? views seat ≡ some view
    pub holds : PublishesAs number view ⊎ SettledWith number view

  -- The rule: the core's state is lawful, each seat knows its part of it, and each number that was split off is held by
  -- its seat.
  pub record Kept (waiting : List (Entry T)) (views : List (View T)) : Type 0 where
    pub standing : Standing T
    pub lawful : Lawful standing.numbers (core_of standing waiting)
    pub each : (seat : ℕ) (view : View T) → get_elem? views seat ≡ some view → Knows standing waiting seat view
    pub held : (number : ℕ) → number < standing.numbers → IsHeldBy views (standing.seat number) number
