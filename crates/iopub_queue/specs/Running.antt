-- What the core answers over a list of events.
use Rattle.std.specs.Prelude.{◌≡◌, ℕ, ⊤, List, Result, Ok, Err}
use Rattle.iopub_queue.specs.declared.plain_core.CoreEvent.{CoreEvent}
use Rattle.iopub_queue.specs.declared.plain_core.CoreState.{CoreState}
use Rattle.iopub_queue.specs.declared.plain_core.CoreFault.{CoreFault}
use Rattle.iopub_queue.specs.declared.plain_core.CoreFault.TheVariants.{NotAllowed, OutOfMemory}
use Rattle.iopub_queue.specs.Lawful.{Lawful, start, after, AreAllowed, IsFirstNotAllowed}

module _ {T : Type 0} where
  -- each event was allowed, the lists are those after the events, and the state after them is lawful
  pub record EndsIn (n : ℕ) (events : List (CoreEvent T)) (ended : CoreState T) : Type 0 where
    pub allowed : AreAllowed n start events
    pub taken : ended.taken ≡ (after start events).taken
    pub waiting : ended.waiting ≡ (after start events).waiting
    pub lawful : Lawful n (after start events)

  -- What the core answers: the lists after the events, or the first event that isn't allowed. If memory was wanting
  -- nothing is said.
  abbrev pub RunsEvents : ℕ → List (CoreEvent T) → Result (CoreState T) CoreFault → Type 0
  RunsEvents n events (Ok ended) = EndsIn n events ended
  RunsEvents n events (Err (NotAllowed place)) = IsFirstNotAllowed n events place
  RunsEvents n events (Err OutOfMemory) = ⊤
