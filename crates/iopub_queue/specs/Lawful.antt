-- A state of the queue's core, its events, and which states are lawful. Both the core that runs over a list of events
-- and the rule of the queue that threads share are told by these.
use Rattle.std.specs.Prelude.{◌≡◌, ℕ, ◌<◌, ◌≤◌, ⊤, Option, Some, None, List, [], ◌∷◌, ◌++◌, length, take, drop, ◌==◌}
use Rattle.std.specs.Prelude.{if◌then◌else◌}
use Rattle.iopub_queue.specs.declared.plain_core.CoreEvent.{CoreEvent}
use Rattle.iopub_queue.specs.declared.plain_core.CoreEvent.TheVariants.{Publish, Close, Take}
use Rattle.iopub_queue.specs.Entries.{Entry, part_of, HasNoClose, CloseIsLast}

-- A state of the core: what was taken, what waits, and what each number published, all in order.
pub record Lists (T : Type 0) : Type 0 where
  pub taken : List (Entry T)
  pub waiting : List (Entry T)
  pub published : ℕ → List (Option T)

module _ {T : Type 0} where
  -- all entries of a state, in the order in which they were published
  abbrev pub history : Lists T → List (Entry T)
  history state = state.taken ++ state.waiting

  -- A state is lawful for n publishers if three things hold. What was taken and what waits have of each number just
  -- what that number published. A number's close stands last, so that it stands there once at most. No entry has
  -- another number.
  pub record Lawful (n : ℕ) (state : Lists T) : Type 0 where
    pub parts : (number : ℕ) → number < n → part_of number (history state) ≡ state.published number
    pub closes : (number : ℕ) → number < n → CloseIsLast (state.published number)
    pub others : (number : ℕ) → n ≤ number → part_of number (history state) ≡ []

  -- the state at first: every list is empty
  abbrev pub start : Lists T
  start = record { taken = []; waiting = []; published = λ number. [] }

  -- the list of each number, if one part more stands at the end of one number's
  abbrev pub grown : (ℕ → List (Option T)) → ℕ → Option T → ℕ → List (Option T)
  grown published number part other =
      if number == other then published other ++ part ∷ [] else published other

  -- an entry is published: it stands last of what waits, and its second part last in its number's list
  abbrev pub entered : Lists T → Entry T → Lists T
  entered state entry = record {
    taken = state.taken;
    waiting = state.waiting ++ entry ∷ [];
    published = grown state.published entry.0 entry.1;
  }

  -- The state after an event. A take moves the first that waits to the end of what was taken, and changes nothing
  -- if nothing waits.
  abbrev pub happened : Lists T → CoreEvent T → Lists T
  happened state (Publish number item) = entered state (number, Some item)
  happened state (Close number) = entered state (number, None)
  happened state Take = record {
    taken = state.taken ++ take 1 state.waiting;
    waiting = drop 1 state.waiting;
    published = state.published;
  }

  -- a number may publish or close if it is one of n, and its list has no close
  pub record IsOpen (n : ℕ) (state : Lists T) (number : ℕ) : Type 0 where
    pub known : number < n
    pub open_list : HasNoClose (state.published number)

  -- an event is allowed in a state if its number may publish or close; a take always is
  abbrev pub IsAllowed : ℕ → Lists T → CoreEvent T → Type 0
  IsAllowed n state (Publish number item) = IsOpen n state number
  IsAllowed n state (Close number) = IsOpen n state number
  IsAllowed n state Take = ⊤

  -- the state after events, one after the other
  abbrev pub after : Lists T → List (CoreEvent T) → Lists T
  after state [] = state
  after state (event ∷ events) = after (happened state event) events

  -- each of the events is allowed in the state that those before it leave
  abbrev pub AreAllowed : ℕ → Lists T → List (CoreEvent T) → Type 0
  AreAllowed n state [] = ⊤
  AreAllowed n state (event ∷ events) = IsAllowed n state event × AreAllowed n (happened state event) events

  -- the event at this place, counted from 0, is the first that isn't allowed
  pub record IsFirstNotAllowed (n : ℕ) (events : List (CoreEvent T)) (place : ℕ) : Type 0 where
    pub before : List (CoreEvent T)
    pub event : CoreEvent T
    pub behind : List (CoreEvent T)
    pub whole : events ≡ before ++ event ∷ behind
    pub counted : length before ≡ place
    pub allowed : AreAllowed n start before
    pub refused : ¬ IsAllowed n (after start before) event

  -- the event that publishes an entry
  abbrev pub event_of : Entry T → CoreEvent T
  event_of (number, Some item) = Publish number item
  event_of (number, None) = Close number
