-- What contracts see of the tokens: of a publisher and its closing token, of a word, and of the taker.
use Rattle.std.specs.Prelude.{ℕ, Option, List}
use Rattle.atomic_table.specs.Seated.{TableId}
use Rattle.crossbeam_queue.specs.Passes.{Pass, view}
use Rattle.iopub_queue.specs.declared.view.View.{View}
use Rattle.iopub_queue.specs.Entries.{Entry}
use Rattle.iopub_queue.specs.Views.{told_of}

-- A publisher, or its closing token. It has its queue, its number, and what it published, which ends with its close if
-- it closed. It also has all that it was told of, which is a beginning of what was taken and what waits, in the queue's
-- order. Among that is all that it published. A push tells it all that stands before its own entry, whoever pushed
-- that, and a word that it publishes after tells it more.
pub record Publishing (T : Type 0) : Type 0 where
  pub queue : TableId
  pub number : ℕ
  pub published : List (Option T)
  pub told : List (Entry T)

-- A word: its queue, and what it tells. When it is made, and at each later moment, that is a beginning of what was
-- taken and what waits.
pub record Told (T : Type 0) : Type 0 where
  pub queue : TableId
  pub list : List (Entry T)

-- The taker: its queue, how many publishers were opened, what it took, and the longest word that it learnt. Before it
-- learnt any, that is the empty list.
pub record Taking (T : Type 0) : Type 0 where
  pub queue : TableId
  pub count : ℕ
  pub taken : List (Entry T)
  pub told : List (Entry T)

module _ {T : Type 0} where
  -- what contracts see of a publisher's seat, or of its closing token's
  abbrev pub publishing : Pass (Entry T) (View T) → Publishing T
  publishing seat = record {
    queue = seat.table_id;
    number = (view seat).number;
    published = (view seat).published;
    told = told_of (view seat);
  }

  -- what contracts see of a word's seat
  abbrev pub telling : Pass (Entry T) (View T) → Told T
  telling seat = record { queue = seat.table_id; list = told_of (view seat) }

  -- what contracts see of the taker's seat
  abbrev pub taking_by : Pass (Entry T) (View T) → Taking T
  taking_by seat = record {
    queue = seat.table_id;
    count = (view seat).number;
    taken = (view seat).taken;
    told = told_of (view seat);
  }
