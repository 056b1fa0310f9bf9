-- The life of a subscriber among the events of a relay: what happened since it came.
use Rattle.std.specs.Prelude.{ℕ, nat_eq, Bool, false, if◌then◌else◌, List, [], ◌∷◌, Option, Some, None}
use Rattle.std.specs.List.{list_any}
use Rattle.iopub_event.specs.declared.event.Event.{Event}
use Rattle.iopub_event.specs.declared.event.Event.TheVariants.{Message, Attach, Subscribe, Cancel, Pong, Detach}

-- whether an event is that this subscriber leaves
abbrev pub leaves : {Writer : Type 0} → ℕ → Event Writer → Bool
leaves id (Message frames) = false
leaves id (Attach other writer) = false
leaves id (Subscribe other topic) = false
leaves id (Cancel other topic) = false
leaves id (Pong other context) = false
leaves id (Detach other) = nat_eq id other

-- the writer with which this subscriber comes, if an event is that it comes
abbrev pub comes_with : {Writer : Type 0} → ℕ → Event Writer → Option Writer
comes_with id (Message frames) = None
comes_with id (Attach other writer) = if nat_eq id other then Some writer else None
comes_with id (Subscribe other topic) = None
comes_with id (Cancel other topic) = None
comes_with id (Pong other context) = None
comes_with id (Detach other) = None

-- The life of a subscriber: the writer that it came with, and what happened since.
pub record Life (Writer : Type 0) : Type 0 where
  pub writer : Writer
  pub events : List (Event Writer)

-- what stands after the last event by which a subscriber leaves, or all if it never does
abbrev pub since_it_left : {Writer : Type 0} → ℕ → List (Event Writer) → List (Event Writer)
since_it_left id [] = []
since_it_left id (event ∷ events) =
    if list_any (leaves id) events then since_it_left id events
    else (if leaves id event then events else event ∷ events)

-- the life that begins here if a subscriber came, with its writer, or else another one
abbrev pub life_begun : {Writer : Type 0} → Option Writer → List (Event Writer) → Option (Life Writer)
    → Option (Life Writer)
life_begun (Some writer) events other = Some (record { writer = writer; events = events })
life_begun None events other = other

-- the life that begins with the first event by which a subscriber comes
abbrev pub first_life : {Writer : Type 0} → ℕ → List (Event Writer) → Option (Life Writer)
first_life id [] = None
first_life id (event ∷ events) = life_begun (comes_with id event) events (first_life id events)

-- The life of a subscriber after events. It is what follows the first event by which the subscriber came since it last
-- left. There is none if it didn't come since.
abbrev pub life : {Writer : Type 0} → ℕ → List (Event Writer) → Option (Life Writer)
life id events = first_life id (since_it_left id events)
