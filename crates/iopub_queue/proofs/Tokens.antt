-- What the steps of the queue mean for the tokens.
use Rattle.std.proofs.Common.{◌≡◌, ◌≢◌, ℕ, ◌+◌, ◌<◌, ◌≤◌, Bool, true, false, List, [], ◌∷◌, ◌++◌, length, take, get_or}
use Rattle.std.proofs.Common.{set, refl, sym, ap, ◌∙◌, subst, ⊎_elim, append_assoc}
use Rattle.std.proofs.Common.{arith, length-append}
use Rattle.std.specs.Prelude.{Option, Some, None, All}
use Rattle.std.proofs.lemmas.List.{append-nil, get_or_at, get_or_default}
use Rattle.std.proofs.lemmas.Bool.{cases_lt}
use Rattle.crossbeam_queue.specs.declared.array_queue.Doing.{Doing}
use Rattle.crossbeam_queue.specs.declared.array_queue.Slotted.{Slotted}
use Rattle.crossbeam_queue.specs.Passes.{Pass, view, IsSamePass, IsPassOf}
use Rattle.iopub_queue.specs.declared.taken.Settled.{Settled}
use Rattle.iopub_queue.specs.declared.taken.Settled.TheVariants.{Whole, Beginning}
use Rattle.iopub_queue.specs.declared.view.Role.TheVariants.{Publishes}
use Rattle.iopub_queue.specs.declared.view.Ended.{Ended}
use Rattle.iopub_queue.specs.declared.view.View.{View}
use Rattle.iopub_queue.specs.Entries.{Entry, StartsWith, Agree, longer, part_of, HasNoClose, CloseIsLast, EndsWithClose}
use Rattle.iopub_queue.specs.Entries.{IsComplete, StandsBehind}
use Rattle.iopub_queue.specs.Lawful.{Lists, history, grown, entered, happened, event_of}
use Rattle.iopub_queue.specs.Marks.{IsMarked, Marks, unmarked}
use Rattle.iopub_queue.specs.Views.{told_of, learnt, settled_with}
use Rattle.iopub_queue.specs.Steps.{Published, Took, IsEnded, Sees}
use Rattle.iopub_queue.specs.Values.{publishing, telling, taking_by}
use Rattle.iopub_queue.specs.Held.{HoldsSeat, MayPublish, MayTake}
use Rattle.iopub_queue.specs.Calls.{Adds, TakesOne, FindsNothing, Learns, NumberIsSettled, Settles}
use Rattle.iopub_queue.proofs.Lists.{longer_has, longer_starts, longer_starts_too, beginnings_agree}
use Rattle.iopub_queue.proofs.Parts.{of_append, of_own, of_more, grown_own, item_keeps_open, front_is_open}
use Rattle.iopub_queue.proofs.Parts.{front_is_last, nothing_behind, closed_is_not_open, empty_front}
use Rattle.iopub_queue.proofs.Lawfulness.{lawful_stays}
use Rattle.iopub_queue.proofs.Marking.{marked_ends, open_is_unmarked, marks_item, marks_close, unmarked_less}
use Rattle.iopub_queue.proofs.Marking.{all_marked, none_unmarked}

-- the longer of a list and none
pub longer_nil : {A : Type 0} (all : List A) → longer all [] ≡ all
longer_nil all = rw (Rattle.std.proofs.lemmas.Bool.le-ltb (length all) 0 (omega arith)) refl

module _ {T : Type 0} where
  -- the event that publishes an entry puts it behind
  pub enters : (state : Lists T) (entry : Entry T) → happened state (event_of entry) ≡ entered state entry
  enters state (number, None) = refl
  enters state (number, Some item) = refl

  -- after a push the whole history is told, which the entry ends
  pub pushed_told : (old new : View T) (entry : Entry T) (pushed : Published old entry new)
      → told_of new ≡ history pushed.state ++ entry ∷ []
  pushed_told old new entry pushed =
      ap told_of pushed.after ∙ longer_nil (history (happened pushed.state (event_of entry)))
      ∙ ap history (enters pushed.state entry) ∙ sym (append_assoc pushed.state.taken pushed.state.waiting (entry ∷ []))

  -- and the list has one more
  pub pushed_list : (old new : View T) (entry : Entry T) → Published old entry new
      → new.published ≡ old.published ++ entry.1 ∷ []
  pushed_list old new entry pushed = ap (λ (v : View T). v.published) pushed.after
      ∙ ap (λ (state : Lists T). state.published entry.0) (enters pushed.state entry)
      ∙ grown_own pushed.state.published entry.0 entry.1 ∙ ap (λ l. l ++ entry.1 ∷ []) pushed.own

  -- what is told has all that was published
  pub pushed_part : (old new : View T) (entry : Entry T) (known : Published old entry new) → entry.0 < known.numbers
      → part_of entry.0 (told_of new) ≡ new.published
  pushed_part old new entry pushed known =
      ap (λ v. part_of entry.0 (told_of v)) pushed.after
      ∙ ap (part_of entry.0) (longer_nil (history (happened pushed.state (event_of entry))))
      ∙ (lawful_stays pushed.numbers pushed.state (event_of entry) pushed.lawful pushed.allowed).parts entry.0 known
      ∙ ap (λ (v : View T). v.published) (sym pushed.after)

  known_by : (old new : View T) (entry : Entry T) (pushed : Published old entry new) → entry.0 < pushed.numbers
  known_by old new (number, None) pushed = pushed.allowed.known
  known_by old new (number, Some item) pushed = pushed.allowed.known

  -- the entry stands behind whatever the history began with
  pub pushed_behind : (old new : View T) (entry : Entry T) (pushed : Published old entry new) (front : List (Entry T))
      → StartsWith (history pushed.state) front → StandsBehind (told_of new) entry front
  pushed_behind old new entry pushed front starts = (history pushed.state, pushed_told old new entry pushed, starts)

  -- a push adds to what its seat is seen as
  pub adds_by : (old new : Pass (Entry T) (View T)) (number : ℕ) (part : Option T) → (view old).number ≡ number
      → IsSamePass old new
      → Published (view old) (number, part) (view new) → Adds (publishing old) part (publishing new)
  adds_by old new number part named same pushed = record {
    queue = same.0;
    number = ap (λ (v : View T). v.number) pushed.after;
    published = pushed_list (view old) (view new) (number, part) pushed;
    behind = subst (λ i. StandsBehind (told_of (view new)) (i, part) (told_of (view old))) (sym named)
        (pushed_behind (view old) (view new) (number, part) pushed (told_of (view old))
        (longer_has (StartsWith (history pushed.state)) (view old).seen (view old).heard pushed.seen pushed.heard));
    own_part = subst (λ i. part_of i (told_of (view new)) ≡ (view new).published) (sym named)
        (pushed_part (view old) (view new) (number, part) pushed
        (known_by (view old) (view new) (number, part) pushed));
  }

  -- the same after a word was taken in
  pub adds_after : (old heard new : Pass (Entry T) (View T)) (word : View T) (number : ℕ) (part : Option T)
      → (view old).number ≡ number → IsSamePass old heard → view heard ≡ learnt (view old) word → IsSamePass heard new
      → Published (view heard) (number, part) (view new)
      → Adds (publishing old) part (publishing new)
      × StandsBehind (told_of (view new)) ((view old).number, part) (told_of word)
  adds_after old heard new word number part named same is same_too pushed =
      let behind : (front : List (Entry T)) → StartsWith (history pushed.state) front → StandsBehind
      (told_of (view new)) ((view old).number, part) front =
      λ front starts. subst (λ i. StandsBehind (told_of (view new)) (i, part) front) (sym named)
      (pushed_behind (view heard) (view new) (number, part) pushed front starts) in (
        record {
          queue = same_too.0 ∙ same.0;
          number = ap (λ (v : View T). v.number) (pushed.after) ∙ ap (λ (v : View T). v.number) is;
          published = pushed_list (view heard) (view new) (number, part) pushed
              ∙ ap (λ (v : View T). v.published ++ part ∷ []) is;
          behind =
              behind (told_of (view old)) (subst (λ (v : View T). StartsWith (history pushed.state) v.seen) is
              pushed.seen);
          own_part = subst (λ i. part_of i (told_of (view new)) ≡ (view new).published) (sym named)
              (pushed_part (view heard) (view new) (number, part) pushed
              (known_by (view heard) (view new) (number, part) pushed));
        },
        behind (told_of word) (subst (λ (v : View T). StartsWith (history pushed.state) v.heard) is pushed.heard),
      )

  -- what a pop tells of the history
  took_history : (old new : View T) (entry : Entry T) (took : Took old entry new)
      → history took.state ≡ old.taken ++ entry ∷ took.behind
  took_history old new entry took = ap (λ l. l ++ took.state.waiting) took.taken ∙ ap (λ l. old.taken ++ l) took.waiting

  -- what was taken has one more
  pub took_list : (old new : View T) (entry : Entry T) → Took old entry new → new.taken ≡ old.taken ++ entry ∷ []
  took_list old new entry took = ap (λ (v : View T). v.taken) took.after
      ∙ ap (λ l. took.state.taken ++ take 1 l) took.waiting ∙ ap (λ l. l ++ entry ∷ []) took.taken

  took_whole : (old new : View T) (entry : Entry T) (took : Took old entry new)
      → history took.state ≡ new.taken ++ took.behind
  took_whole old new entry took =
      took_history old new entry took ∙ sym (append_assoc old.taken (entry ∷ []) took.behind)
      ∙ ap (λ l. l ++ took.behind) (sym (took_list old new entry took))

  not_nothing : (front : List (Option T)) (part : Option T) (behind : List (Option T)) → front ++ part ∷ behind ≡ [] → ⊥
  not_nothing [] part behind is = cc
  not_nothing (x ∷ front) part behind is = cc

  took_part : (old new : View T) (number : ℕ) (part : Option T) (took : Took old (number, part) new)
      → part_of number (history took.state) ≡ part_of number old.taken ++ part ∷ part_of number took.behind
  took_part old new number part took = ap (part_of number) (took_history old new (number, part) took)
      ∙ of_append number old.taken ((number, part) ∷ took.behind)
      ∙ ap (λ l. part_of number old.taken ++ l) (of_own number part took.behind)

  -- the number is known
  pub took_known : (old new : View T) (number : ℕ) (part : Option T) → Took old (number, part) new → number < old.number
  took_known old new number part took = ⊎_elim (λ (below : number < old.number). below)
      (λ (above : old.number ≤ number). absurd (not_nothing (part_of number old.taken) part (part_of number took.behind)
      (sym (took_part old new number part took) ∙ took.lawful.others number above)))
      (cases_lt number old.number)

  -- its close wasn't taken
  pub took_open : (old new : View T) (number : ℕ) (part : Option T) → Took old (number, part) new
      → HasNoClose (part_of number old.taken)
  took_open old new number part took = let known = took_known old new number part took in
      front_is_open (part_of number old.taken) part (part_of number took.behind)
      (subst CloseIsLast (sym (took.lawful.parts number known) ∙ took_part old new number part took)
      (took.lawful.closes number known))

  -- a close stands last in each part
  pub took_closes : (old new : View T) (entry : Entry T) → Took old entry new → (other : ℕ)
      → CloseIsLast (part_of other new.taken)
  took_closes old new entry took other =
      let whole : part_of other (history took.state) ≡ part_of other new.taken ++ part_of other took.behind =
      ap (part_of other) (took_whole old new entry took) ∙ of_append other new.taken took.behind in
      ⊎_elim
      (λ (below : other < old.number). front_is_last (part_of other new.taken) (part_of other took.behind)
      (subst CloseIsLast (sym (took.lawful.parts other below) ∙ whole) (took.lawful.closes other below)))
      (λ (above : old.number ≤ other). subst CloseIsLast
      (sym (empty_front (part_of other new.taken) (part_of other took.behind)
      (sym whole ∙ took.lawful.others other above))) tt)
      (cases_lt other old.number)

  -- what was told and what was taken agree
  pub took_agree : (old new : View T) (entry : Entry T) → Took old entry new → Agree (told_of old) new.taken
  took_agree old new entry took = beginnings_agree (history took.state) (told_of old) new.taken
      (longer_has (StartsWith (history took.state)) old.seen old.heard took.seen took.heard)
      (took.behind, took_whole old new entry took)

  same_told : (old new : View T) (entry : Entry T) → Took old entry new → told_of new ≡ told_of old
  same_told old new entry took = ap told_of took.after

  -- a pop, as what the taker is seen as
  pub takes_one : (old new : Pass (Entry T) (View T)) (number : ℕ) (part : Option T) → IsSamePass old new
      → Took (view old) (number, part) (view new) → TakesOne (taking_by old) number part (taking_by new)
  takes_one old new number part same took = record {
    added = λ k. record {
      queue = same.0 k;
      count = ap (λ (v : View T). v.number) took.after k;
      taken = took_list (view old) (view new) (number, part) took k;
      told = same_told (view old) (view new) (number, part) took k;
    };
    known = took_known (view old) (view new) number part took;
    open_part = took_open (view old) (view new) number part took;
    next = subst (λ l. Agree l (view new).taken) (sym (same_told (view old) (view new) (number, part) took))
        (took_agree (view old) (view new) (number, part) took);
    closes = took_closes (view old) (view new) (number, part) took;
  }

  -- what the taker knows where it learnt a word
  pub learns_by : (old new : View T) (word : View T) (waiting : List (Entry T)) → new ≡ learnt old word
      → Sees new waiting
      → (StartsWith (told_of new) (told_of old)) × (StartsWith (told_of new) (told_of word))
      × (Agree (told_of new) new.taken)
  learns_by old new word waiting is sees =
      let seen = sees.seen in let heard = sees.heard in
      let agree : Agree new.seen new.heard = beginnings_agree (new.taken ++ waiting) new.seen new.heard seen heard in (
        subst (λ l. StartsWith (told_of new) l) (ap (λ (v : View T). v.seen) is)
            (longer_starts new.seen new.heard agree),
        subst (λ l. StartsWith (told_of new) l) (ap (λ (v : View T). v.heard) is)
            (longer_starts_too new.seen new.heard agree),
        beginnings_agree (new.taken ++ waiting) (told_of new) new.taken
            (longer_has (StartsWith (new.taken ++ waiting)) new.seen new.heard seen heard) (waiting, refl),
      )

  -- a word that was learnt, as what the taker is seen as
  pub learns_of : (old heard new word : Pass (Entry T) (View T)) (waiting : List (Entry T)) → IsSamePass old heard
      → view heard ≡ learnt (view old) (view word) → IsSamePass heard new → view new ≡ view heard
      → Sees (view heard) waiting
      → Learns (taking_by old) (telling word) (taking_by new)
  learns_of old heard new word waiting same learns same_too stays sees =
      let is : view new ≡ learnt (view old) (view word) = stays ∙ learns in
      let facts = learns_by (view old) (view new) (view word) waiting is
      (subst (λ v. Sees v waiting) (sym stays) sees) in record {
        rest = λ k. record {
          queue = (same_too.0 ∙ same.0) k;
          count = (is k).number;
          taken = (is k).taken;
          told = told_of (view new);
        };
        longest = λ k. told_of (is k);
        old_told = facts.0;
        word_told = facts.1;
        agree = facts.2;
      }

  -- what the taker knows of a publisher that it settled with last
  pub ended_last : (old new closed : View T) (waiting : List (Entry T)) → new ≡ settled_with old closed
      → (sees : Sees new waiting)
      → IsEnded new.number record { taken = new.taken; waiting = waiting; published = sees.published }
      record { number = closed.number; published = closed.published; told = told_of closed }
  ended_last old new closed waiting is sees =
      let ended : Ended T = record { number = closed.number; published = closed.published; told = told_of closed } in
      let P : Ended T → Type 0 =
      IsEnded new.number record { taken = new.taken; waiting = waiting; published = sees.published } in
      let all : All P (old.settled ++ ended ∷ []) =
      subst (λ l. All P l) (ap (λ (v : View T). v.settled) is) sees.settled in
      let within : length old.settled < length (old.settled ++ ended ∷ []) =
      omega (arith, length-append old.settled (ended ∷ [])) in
      subst P (get_or_at old.settled ended [] ended (length old.settled) refl) (all (length old.settled) ended within)

  -- what was published is what was taken of it and what waits of it
  pub settled_whole : (view closed : View T) (waiting : List (Entry T)) (sees : Sees view waiting)
      → IsEnded view.number record { taken = view.taken; waiting = waiting; published = sees.published }
      record { number = closed.number; published = closed.published; told = told_of closed }
      → closed.published ≡ part_of closed.number view.taken ++ part_of closed.number waiting
  settled_whole view closed waiting sees ended =
      sym ended.list ∙ sym (sees.lawful.parts closed.number ended.known) ∙ of_append closed.number view.taken waiting

  settles_facts : (view closed : View T) (waiting : List (Entry T)) (sees : Sees view waiting)
      → (ended : IsEnded view.number record { taken = view.taken; waiting = waiting; published = sees.published }
      record { number = closed.number; published = closed.published; told = told_of closed })
      → EndsWithClose (part_of closed.number view.taken) → part_of closed.number view.taken ≡ closed.published
  settles_facts view closed waiting sees ended ends =
      let whole = settled_whole view closed waiting sees ended in
      let none : part_of closed.number waiting ≡ [] =
      nothing_behind (part_of closed.number view.taken) (part_of closed.number waiting)
      (subst CloseIsLast (ended.list ∙ whole) (sees.lawful.closes closed.number ended.known)) ends in
      sym (append-nil (part_of closed.number view.taken)) ∙ ap (λ l. part_of closed.number view.taken ++ l) (sym none)
      ∙ sym whole

  module _ {Q A : Type 0} (line : Slotted (Option (Entry T)) (Doing (Entry T) (View T)) Q A) where
    -- a seat stays one of the queue
    pub stays_of : (old new : Pass (Entry T) (View T)) → IsPassOf line old → IsSamePass old new → IsPassOf line new
    stays_of old new of_line same = (same.0 ∙ of_line.0, same.2 ∙ of_line.1)

    -- a publisher's seat after a push
    pub holds_after : (old new : Pass (Entry T) (View T)) (number : ℕ) (part : Option T) → IsPassOf line old
        → (view old).role ≡ Publishes
        → (view old).number ≡ number → IsSamePass old new → Published (view old) (number, part) (view new)
        → HoldsSeat line new number
    holds_after old new number part of_line role named same pushed = record {
      seat_of = stays_of old new of_line same;
      role = ap (λ (v : View T). v.role) pushed.after ∙ role;
      named = ap (λ (v : View T). v.number) pushed.after ∙ named;
      own_part = pushed_part (view old) (view new) (number, part) pushed
          (known_by (view old) (view new) (number, part) pushed);
    }

    -- a publisher that published an item may publish
    pub publishes_on : (old new : Pass (Entry T) (View T)) (number : ℕ) (item : T) → IsPassOf line old
        → (view old).role ≡ Publishes
        → (view old).number ≡ number → HasNoClose (view old).published → IsSamePass old new
        → Published (view old) (number, Some item) (view new) → MayPublish line new number
    publishes_on old new number item of_line role named free same pushed = record {
      holds = holds_after old new number (Some item) of_line role named same pushed;
      open_list = subst HasNoClose (sym (pushed_list (view old) (view new) (number, Some item) pushed))
          (item_keeps_open (view old).published item free);
    }

    -- the taker after a word
    pub takes_on : (old heard new : Pass (Entry T) (View T)) (word : View T) (marks : List Bool) (left : ℕ)
        (waiting : List (Entry T))
        → MayTake line old marks left → IsSamePass old heard → view heard ≡ learnt (view old) word
        → IsSamePass heard new
        → view new ≡ view heard → Sees (view heard) waiting → MayTake line new marks left
    takes_on old heard new word marks left waiting may same learns same_too stays sees =
        let is : view new ≡ learnt (view old) word = stays ∙ learns in record {
          seat_of = stays_of heard new (stays_of old heard may.seat_of same) same_too;
          role = ap (λ (v : View T). v.role) is ∙ may.role;
          marked = subst (λ (v : View T). Marks v.number marks (λ number. part_of number v.taken)) (sym is) may.marked;
          counted = may.counted;
          closes = subst (λ (v : View T). (number : ℕ) → CloseIsLast (part_of number v.taken)) (sym is) may.closes;
          agree = (learns_by (view old) (view new) word waiting is (subst (λ v. Sees v waiting) (sym stays) sees)).2;
        }

    -- the taker after it settled
    pub takes_settled : (old heard new : Pass (Entry T) (View T)) (closed : View T) (marks : List Bool) (left : ℕ)
        → MayTake line old marks left → IsSamePass old heard → view heard ≡ settled_with (view old) closed
        → IsSamePass heard new
        → view new ≡ view heard → MayTake line new marks left
    takes_settled old heard new closed marks left may same settles same_too stays =
        let is : view new ≡ settled_with (view old) closed = stays ∙ settles in record {
          seat_of = stays_of heard new (stays_of old heard may.seat_of same) same_too;
          role = ap (λ (v : View T). v.role) is ∙ may.role;
          marked = subst (λ (v : View T). Marks v.number marks (λ number. part_of number v.taken)) (sym is) may.marked;
          counted = may.counted;
          closes = subst (λ (v : View T). (number : ℕ) → CloseIsLast (part_of number v.taken)) (sym is) may.closes;
          agree = subst (λ (v : View T). Agree (told_of v) v.taken) (sym is) may.agree;
        }

    parts_after : (old new : View T) (number : ℕ) (part : Option T) → Took old (number, part) new
        → (other : ℕ) → grown (λ at. part_of at old.taken) number part other ≡ part_of other new.taken
    parts_after old new number part took other =
        sym (of_more old.taken (number, part) other) ∙ ap (part_of other) (sym (took_list old new (number, part) took))

    marks_after : (marks : List Bool) (n m : ℕ) → n ≡ m → (one other : ℕ → List (Option T))
        → ((at : ℕ) → one at ≡ other at)
        → Marks n marks one → Marks m marks other
    marks_after marks n m is one other same marked = record {
      counted = marked.counted ∙ is;
      each = λ number below. subst (IsMarked (get_or marks number false)) (same number)
          (marked.each number (subst (λ k. number < k) (sym is) below));
    }

    -- the taker after it took an entry, by its marks
    takes_marked : (old new : Pass (Entry T) (View T)) (number : ℕ) (part : Option T) (marks after : List Bool)
        (left now_left : ℕ)
        → MayTake line old marks left → IsSamePass old new → Took (view old) (number, part) (view new)
        → Marks (view old).number after (grown (λ at. part_of at (view old).taken) number part)
        → now_left ≡ unmarked after
        → MayTake line new after now_left
    takes_marked old new number part marks after left now_left may same took marked counted = record {
      seat_of = stays_of old new may.seat_of same;
      role = ap (λ (v : View T). v.role) took.after ∙ may.role;
      marked =
          marks_after after (view old).number (view new).number (ap (λ (v : View T). v.number) (sym took.after)) _ _
          (parts_after (view old) (view new) number part took) marked;
      counted = counted;
      closes = took_closes (view old) (view new) (number, part) took;
      agree = subst (λ l. Agree l (view new).taken) (sym (same_told (view old) (view new) (number, part) took))
          (took_agree (view old) (view new) (number, part) took);
    }

    -- the taker after an item
    pub takes_item : (old new : Pass (Entry T) (View T)) (number : ℕ) (item : T) (marks : List Bool) (left : ℕ)
        → MayTake line old marks left → IsSamePass old new → Took (view old) (number, Some item) (view new)
        → MayTake line new marks left
    takes_item old new number item marks left may same took =
        takes_marked old new number (Some item) marks marks left left may same took
        (marks_item (view old).number marks (λ at. part_of at (view old).taken) number item
        (took_open (view old) (view new) number (Some item) took) may.marked)
        may.counted

    -- the number's close isn't marked
    pub took_unmarked : (old new : Pass (Entry T) (View T)) (number : ℕ) (part : Option T) (marks : List Bool)
        (left : ℕ)
        → MayTake line old marks left → Took (view old) (number, part) (view new)
        → (number < length marks) × (get_or marks number false ≡ false)
    took_unmarked old new number part marks left may took =
        let known : number < (view old).number = took_known (view old) (view new) number part took in
        let wide : length marks ≡ (view old).number = may.marked.counted in (
          omega arith,
          open_is_unmarked (get_or marks number false) (part_of number (view old).taken)
              (took_open (view old) (view new) number part took)
              (may.marked.each number known),
        )

    -- the taker after a close
    pub takes_close : (old new : Pass (Entry T) (View T)) (number : ℕ) (marks : List Bool) (left now_left : ℕ)
        → MayTake line old marks left → IsSamePass old new → Took (view old) (number, None) (view new)
        → now_left + 1 ≡ left
        → MayTake line new (set marks number true) now_left
    takes_close old new number marks left now_left may same took one_less =
        let there = took_unmarked old new number None marks left may took in
        let less : unmarked (set marks number true) + 1 ≡ unmarked marks = unmarked_less marks number there.0 there.1 in
        let counted : left ≡ unmarked marks = may.counted in
        takes_marked old new number None marks (set marks number true) left now_left may same took
        (marks_close (view old).number marks (λ at. part_of at (view old).taken) number
        (took_known (view old) (view new) number None took) may.marked)
        (omega arith)

    -- where no close is left, all is complete
    pub complete_by : (seat : Pass (Entry T) (View T)) (marks : List Bool) (left : ℕ) → MayTake line seat marks left
        → left ≡ 0
        → IsComplete (view seat).number (view seat).taken
    complete_by seat marks left may none number below =
        let wide : length marks ≡ (view seat).number = may.marked.counted in
        marked_ends (get_or marks number false) (part_of number (view seat).taken)
        (all_marked marks (sym may.counted ∙ none) number (omega arith)) (may.marked.each number below)

    -- where one is left, it isn't
    pub incomplete_by : (seat : Pass (Entry T) (View T)) (marks : List Bool) (left : ℕ) → MayTake line seat marks left
        → left ≢ 0
        → IsComplete (view seat).number (view seat).taken → ⊥
    incomplete_by seat marks left may some complete =
        let wide : length marks ≡ (view seat).number = may.marked.counted in
        some (may.counted ∙ none_unmarked marks (λ number within.
        let below : number < (view seat).number = omega arith in
        ends_is_marked (get_or marks number false) (part_of number (view seat).taken) (complete number below)
        (may.marked.each number below)))
      where
        ends_is_marked : (mark : Bool) (part : List (Option T)) → EndsWithClose part → IsMarked mark part → mark ≡ true
        ends_is_marked true part ends marked = refl
        ends_is_marked false part ends marked = absurd (closed_is_not_open part ends marked)

    -- nothing waited
    pub finds_nothing : (old new : Pass (Entry T) (View T)) (marks : List Bool) (left : ℕ) → MayTake line old marks left
        → left ≢ 0
        → IsSamePass old new → view new ≡ view old → Sees (view old) [] → FindsNothing (taking_by old) (taking_by new)
    finds_nothing old new marks left may some same is sees = record {
      same = λ k. record {
        queue = same.0 k;
        count = (is k).number;
        taken = (is k).taken;
        told = told_of (is k);
      };
      told = subst (λ l. StartsWith l (told_of (view old))) (append-nil (view old).taken)
          (longer_has (StartsWith ((view old).taken ++ [])) (view old).seen (view old).heard sees.seen sees.heard);
      incomplete = incomplete_by old marks left may some;
    }

    -- what a settling answers, by the mark of the number
    abbrev pub settled_as : Bool → Settled
    settled_as true = Whole
    settled_as false = Beginning

    -- a settling, by the mark
    pub settles_by : (old heard closed : Pass (Entry T) (View T)) (marks : List Bool) (left : ℕ)
        (waiting : List (Entry T))
        (mark : Bool) → MayTake line old marks left → view heard ≡ settled_with (view old) (view closed)
        → Sees (view heard) waiting
        → mark ≡ get_or marks (view closed).number mark → Settles (taking_by old) (publishing closed) (settled_as mark)
    settles_by old heard closed marks left waiting mark may is sees mark_is =
        let i : ℕ = (view closed).number in
        let ended = ended_last (view old) (view heard) (view closed) waiting is sees in
        let of_taken : part_of i (view heard).taken ≡ part_of i (view old).taken =
        ap (λ (v : View T). part_of i v.taken) is in
        let known : i < (view old).number = subst (λ n. i < n) (ap (λ (v : View T). v.number) is) ended.known in
        let wide : length marks ≡ (view old).number = may.marked.counted in
        let marked : get_or marks i false ≡ mark =
        get_or_default marks i false mark (omega arith) ∙ sym mark_is in record {
          known = known;
          beginning = (
            part_of i waiting,
            settled_whole (view heard) (view closed) waiting sees ended
                ∙ ap (λ l. l ++ part_of i waiting) of_taken,
          );
          agree = subst (λ (v : View T). Agree (told_of (view closed)) v.taken) is
              (beginnings_agree ((view heard).taken ++ waiting) (told_of (view closed)) (view heard).taken ended.told
              (waiting, refl));
          decided =
              decides mark (part_of i (view old).taken) (subst (λ b. IsMarked b (part_of i (view old).taken)) marked
              (may.marked.each i known))
              (λ ends. sym of_taken ∙ settles_facts (view heard) (view closed) waiting sees ended
              (subst EndsWithClose (sym of_taken) ends));
        }
      where
        decides : (mark : Bool) (part : List (Option T)) → IsMarked mark part
            → (EndsWithClose part → part ≡ (view closed).published)
            → NumberIsSettled (settled_as mark) part (view closed).published
        decides true part marked whole = (marked, whole marked)
        decides false part marked whole = λ ends. closed_is_not_open part ends marked
