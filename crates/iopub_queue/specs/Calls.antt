-- What the calls of the queue promise.
use Rattle.std.specs.Prelude.{◌≡◌, ℕ, zero, suc, ◌+◌, ◌<◌, ◌≤◌, Option, Some, None, List, [], ◌∷◌, ◌++◌}
use Rattle.std.specs.Prelude.{Result, Ok, Err}
use Rattle.std.specs.Global.{Vec}
use Rattle.atomic_table.specs.Seated.{TableId}
use Rattle.iopub_queue.specs.declared.taken.Taken.{Taken}
use Rattle.iopub_queue.specs.declared.taken.Taken.TheVariants.{Item, Closed, Empty, Complete}
use Rattle.iopub_queue.specs.declared.taken.Settled.{Settled}
use Rattle.iopub_queue.specs.declared.taken.Settled.TheVariants.{Whole, Beginning}
use Rattle.iopub_queue.specs.declared.fault.OpenFault.{OpenFault}
use Rattle.iopub_queue.specs.declared.fault.OpenFault.TheVariants.{Count, Capacity, OutOfMemory}
use Rattle.iopub_queue.specs.Entries.{StartsWith, Agree, longer, part_of, HasNoClose, CloseIsLast, EndsWithClose}
use Rattle.iopub_queue.specs.Entries.{IsComplete, StandsBehind}
use Rattle.iopub_queue.specs.Values.{Publishing, Told, Taking}

-- a queue may have so many publishers: 1 to 64
abbrev pub IsCount : ℕ → Type 0
IsCount n = (1 ≤ n) × (n ≤ 64)

-- a queue may have so many places: 1 to 65,536
abbrev pub IsCapacity : ℕ → Type 0
IsCapacity capacity = (1 ≤ capacity) × (capacity ≤ 65536)

module _ {T : Type 0} where
  -- A publisher published one entry more: an item, or its close. It is the same publisher. In the queue's order the
  -- entry stands after all that it had published or was told of.
  pub record Adds (old : Publishing T) (part : Option T) (new : Publishing T) : Type 0 where
    pub queue : new.queue ≡ old.queue
    pub number : new.number ≡ old.number
    pub published : new.published ≡ old.published ++ part ∷ []
    pub behind : StandsBehind new.told (old.number, part) old.told
    pub own_part : part_of old.number new.told ≡ new.published

  -- The taker took one entry, of a number whose close wasn't taken. If it was told of more than it had taken, the entry
  -- is the next of that. In the part of each number a close stands last.
  pub record TakesOne (old : Taking T) (number : ℕ) (part : Option T) (new : Taking T) : Type 0 where
    pub added : new ≡ record old { taken = old.taken ++ (number, part) ∷ [] }
    pub known : number < old.count
    pub open_part : HasNoClose (part_of number old.taken)
    pub next : Agree new.told new.taken
    pub closes : (other : ℕ) → CloseIsLast (part_of other new.taken)

  -- the taker took nothing: all that it was told of has been taken, but not every number's close
  pub record FindsNothing (old new : Taking T) : Type 0 where
    pub same : new ≡ old
    pub told : StartsWith old.taken old.told
    pub incomplete : ¬ IsComplete old.count old.taken

  -- What a take answers, and what it leaves. It answers Complete exactly if the part of each number ends with its
  -- close.
  abbrev pub TakeGives : Taking T → Taken T → Taking T → Type 0
  TakeGives old (Item number item) new = TakesOne old number (Some item) new
  TakeGives old (Closed number) new = TakesOne old number None new
  TakeGives old Empty new = FindsNothing old new
  TakeGives old Complete new = (new ≡ old) × IsComplete old.count old.taken

  -- The taker learnt a word. It is then told the longer one of two lists: what it was told before, and the word's. Both
  -- are beginnings of that, and what it took agrees with it.
  pub record Learns (old : Taking T) (word : Told T) (new : Taking T) : Type 0 where
    pub rest : new ≡ record old { told = new.told }
    pub longest : new.told ≡ longer old.told word.list
    pub old_told : StartsWith new.told old.told
    pub word_told : StartsWith new.told word.list
    pub agree : Agree new.told new.taken

  -- A number is settled as Whole exactly if the part of it that was taken ends with its close. That part is then all
  -- that was published.
  abbrev pub NumberIsSettled : Settled → List (Option T) → List (Option T) → Type 0
  NumberIsSettled Whole part published = EndsWithClose part × (part ≡ published)
  NumberIsSettled Beginning part published = ¬ EndsWithClose part

  -- The taker settled with a closing token: of its number a beginning of what was published is taken. What was taken
  -- agrees with what the token was told of.
  pub record Settles (taker : Taking T) (closed : Publishing T) (answer : Settled) : Type 0 where
    pub known : closed.number < taker.count
    pub beginning : StartsWith closed.published (part_of closed.number taker.taken)
    pub agree : Agree closed.told taker.taken
    pub decided : NumberIsSettled answer (part_of closed.number taker.taken) closed.published

  -- publishers that were just opened, so many from a first number on: they published nothing and were told of nothing
  abbrev pub newcomers : TableId → ℕ → ℕ → List (Publishing T)
  newcomers queue first zero = []
  newcomers queue first (suc more) =
      record { queue = queue; number = first; published = []; told = [] } ∷ newcomers queue (first + 1) more

  -- a taker that was just opened: it took nothing and was told of nothing
  abbrev pub beginner : TableId → ℕ → Taking T
  beginner queue count = record { queue = queue; count = count; taken = []; told = [] }

  -- the publishers 0 to n - 1 and the taker of one queue, with all lists empty
  pub record Opens (n : ℕ) (publishers : List (Publishing T)) (taker : Taking T) : Type 0 where
    pub fresh : publishers ≡ newcomers taker.queue 0 n
    pub taking : taker ≡ beginner taker.queue n

  -- what opening gives: the number of publishers is judged first, then the capacity, then memory
  abbrev pub OpenGives : ℕ → ℕ → Result (Vec (Publishing T) × Taking T) OpenFault → Type 0
  OpenGives n capacity (Ok opened) = IsCount n × IsCapacity capacity × Opens n opened.0.items opened.1
  OpenGives n capacity (Err Count) = ¬ IsCount n
  OpenGives n capacity (Err Capacity) = IsCount n × (¬ IsCapacity capacity)
  OpenGives n capacity (Err OutOfMemory) = IsCount n × IsCapacity capacity
