-- What the seats know, and what they know once a seat was split off another or taken in by it.
use Rattle.std.specs.Prelude.{◌+◌, List, [], ◌∷◌, ◌++◌}
use Rattle.iopub_queue.specs.declared.view.Role.TheVariants.{Publishes, Takes, Tells, Spent}
use Rattle.iopub_queue.specs.declared.view.View.{View}
use Rattle.iopub_queue.specs.Entries.{Entry, longer}

module _ {T : Type 0} where
  -- the taker at first: there are no numbers, and it took nothing
  abbrev pub taking : View T
  taking = record {
    role = Takes;
    number = 0;
    published = [];
    seen = [];
    heard = [];
    taken = [];
    settled = [];
  }

  -- a seat that was given up
  abbrev pub spent : View T
  spent = record {
    role = Spent;
    number = 0;
    published = [];
    seen = [];
    heard = [];
    taken = [];
    settled = [];
  }

  -- what a seat was told of: the longer of what it saw and what it heard
  abbrev pub told_of : View T → List (Entry T)
  told_of view = longer view.seen view.heard

  -- the taker, with one more number
  abbrev pub one_more : View T → View T
  one_more view = record view { number = view.number + 1 }

  -- the publisher that is split off the taker: it has the next number, and published nothing
  abbrev pub newcomer : View T → View T
  newcomer view = record {
    role = Publishes;
    number = view.number;
    published = [];
    seen = [];
    heard = [];
    taken = [];
    settled = [];
  }

  -- the word that is split off a seat: it tells all that the seat was told of
  abbrev pub word_of : View T → View T
  word_of view = record {
    role = Tells;
    number = 0;
    published = [];
    seen = told_of view;
    heard = [];
    taken = [];
    settled = [];
  }

  -- a seat after it took a word in
  abbrev pub learnt : View T → View T → View T
  learnt view word = record view { seen = told_of view; heard = told_of word }

  -- the taker after it took a publisher's seat in
  abbrev pub settled_with : View T → View T → View T
  settled_with view closed = record view {
    settled = view.settled ++ record {
      number = closed.number;
      published = closed.published;
      told = told_of closed;
    } ∷ [];
  }
