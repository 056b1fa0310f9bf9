-- What the steps of the queue tell. Each names an event of the core and the core's state before that.
use Rattle.std.specs.Prelude.{◌≡◌, ℕ, ◌<◌, Option, List, [], ◌∷◌, ◌++◌, All}
use Rattle.iopub_queue.specs.declared.plain_core.CoreEvent.TheVariants.{Take}
use Rattle.iopub_queue.specs.declared.view.Ended.{Ended}
use Rattle.iopub_queue.specs.declared.view.View.{View}
use Rattle.iopub_queue.specs.Entries.{Entry, StartsWith}
use Rattle.iopub_queue.specs.Lawful.{Lists, Lawful, history, happened, event_of, IsAllowed}

module _ {T : Type 0} where
  -- A push of an entry is the event that publishes it, in a lawful state in which it is allowed. The history began with
  -- what the seat saw and heard; after it the seat saw the whole history, which the entry ends.
  pub record Published (old : View T) (entry : Entry T) (new : View T) : Type 0 where
    pub numbers : ℕ
    pub state : Lists T
    pub lawful : Lawful numbers state
    pub allowed : IsAllowed numbers state (event_of entry)
    pub own : state.published entry.0 ≡ old.published
    pub seen : StartsWith (history state) old.seen
    pub heard : StartsWith (history state) old.heard
    pub after : new ≡ record old {
      published = (happened state (event_of entry)).published entry.0;
      seen = history (happened state (event_of entry));
      heard = [];
    }

  -- A pop is the event that takes, in a lawful state in which the entry waits first. What was taken is what the taker
  -- took, and the history begins with what it saw and heard.
  pub record Took (old : View T) (entry : Entry T) (new : View T) : Type 0 where
    pub state : Lists T
    pub behind : List (Entry T)
    pub lawful : Lawful old.number state
    pub taken : state.taken ≡ old.taken
    pub waiting : state.waiting ≡ entry ∷ behind
    pub seen : StartsWith (history state) old.seen
    pub heard : StartsWith (history state) old.heard
    pub after : new ≡ record old { taken = (happened state Take).taken }

  -- A publisher that the taker settled with published what its number did, and what it was told of is a beginning of
  -- the history.
  pub record IsEnded (numbers : ℕ) (state : Lists T) (ended : Ended T) : Type 0 where
    pub known : ended.number < numbers
    pub list : state.published ended.number ≡ ended.published
    pub told : StartsWith (history state) ended.told

  -- What the taker learns if the queue holds these entries. The state is lawful. What was taken is what the taker took.
  -- What it saw and heard are beginnings of the history.
  pub record Sees (view : View T) (waiting : List (Entry T)) : Type 0 where
    pub published : ℕ → List (Option T)
    pub lawful : Lawful view.number record { taken = view.taken; waiting = waiting; published = published }
    pub seen : StartsWith (view.taken ++ waiting) view.seen
    pub heard : StartsWith (view.taken ++ waiting) view.heard
    pub settled :
        All (IsEnded view.number record { taken = view.taken; waiting = waiting; published = published }) view.settled
