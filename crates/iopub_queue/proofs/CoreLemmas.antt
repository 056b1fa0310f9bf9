-- The running core follows the core's states.
use Rattle.std.proofs.Common.{◌≡◌, ℕ, zero, suc, ◌+◌, ◌<◌, ◌≤◌, false, List, [], ◌∷◌, ◌++◌, length, take, drop, get_or}
use Rattle.std.proofs.Common.{replicate, refl, sym, ap, ◌∙◌, subst, append_assoc}
use Rattle.std.proofs.Common.{arith, length-append}
use Rattle.std.proofs.lemmas.List.{append-nil, take-append-le, drop-append-le, drop-drop, length-replicate}
use Rattle.std.proofs.lemmas.List.{get_or-replicate}
use Rattle.iopub_queue.specs.declared.plain_core.Core.{Core}
use Rattle.iopub_queue.specs.declared.plain_core.CoreEvent.{CoreEvent}
use Rattle.iopub_queue.specs.declared.plain_core.CoreEvent.TheVariants.{Take}
use Rattle.iopub_queue.specs.Entries.{Entry}
use Rattle.iopub_queue.specs.Lawful.{Lists, Lawful, grown, entered, happened, IsOpen, IsAllowed, start, after}
use Rattle.iopub_queue.specs.Lawful.{AreAllowed, IsFirstNotAllowed}
use Rattle.iopub_queue.specs.declared.plain_core.CoreState.{CoreState}
use Rattle.iopub_queue.specs.Running.{EndsIn}
use Rattle.iopub_queue.specs.Marks.{Marks, IsOpenMark, Follows}
use Rattle.iopub_queue.proofs.Marking.{unmarked_is_open, open_is_unmarked}
use Rattle.iopub_queue.proofs.Lawfulness.{lawful_entered, lawful_take, lawful_start, after_more, allowed_more}

module _ {T : Type 0} where
  -- what the mark says of the state
  pub open_by_mark : (n : ℕ) (state : Lists T) (core : Core T) (number : ℕ) → length core.closed.items ≡ n
      → Follows n state core
      → IsOpenMark core.closed.items number → IsOpen n state number
  open_by_mark n state core number wide follows (within, is) = let known : number < n = omega arith in record {
    known = known;
    open_list = unmarked_is_open (get_or core.closed.items number false) (state.published number) is
        (follows.marks.each number known);
  }

  -- and the other way round
  pub mark_by_open : (n : ℕ) (state : Lists T) (core : Core T) (number : ℕ) → length core.closed.items ≡ n
      → Follows n state core
      → IsOpen n state number → IsOpenMark core.closed.items number
  mark_by_open n state core number wide follows free = let known : number < n = free.known in (
    omega arith,
    open_is_unmarked (get_or core.closed.items number false) (state.published number) free.open_list
        (follows.marks.each number known),
  )

  -- an entry behind the others
  pub follows_entered : (n : ℕ) (state : Lists T) (old new : Core T) (entry : Entry T) → Follows n state old
      → IsOpen n state entry.0
      → new.entries.items ≡ old.entries.items ++ entry ∷ [] → new.taken ≡ old.taken
      → Marks n new.closed.items (grown state.published entry.0 entry.1) → Follows n (entered state entry) new
  follows_entered n state old new entry follows free longer same marks =
      let within : old.taken ≤ length old.entries.items = follows.within in record {
        marks = marks;
        within = rw (longer, same) (omega (arith, length-append old.entries.items (entry ∷ [])));
        taken = rw (longer, same, take-append-le old.taken old.entries.items (entry ∷ []) within) follows.taken;
        waiting = rw (longer, same, drop-append-le old.taken old.entries.items (entry ∷ []) within)
            (ap (λ l. l ++ entry ∷ []) follows.waiting);
        lawful = lawful_entered n state entry follows.lawful free;
      }

  first_taken : (k : ℕ) (entries : List (Entry T)) → k < length entries
      → take k entries ++ take 1 (drop k entries) ≡ take (k + 1) entries
  first_taken zero [] within = absurd (omega arith)
  first_taken zero (x ∷ entries) within = refl
  first_taken (suc k) [] within = absurd (omega arith)
  first_taken (suc k) (x ∷ entries) within =
      rw (taken_further k x entries) (ap (λ l. x ∷ l) (first_taken k entries (omega arith))) where
        taken_further : (k : ℕ) (x : Entry T) (entries : List (Entry T))
            → take (suc k + 1) (x ∷ entries) ≡ x ∷ take (k + 1) entries
        taken_further k x entries =
            ap (λ m. take m (x ∷ entries)) (let same : suc k + 1 ≡ suc (k + 1) = omega arith in same)

  -- one more is taken
  pub follows_take : (n : ℕ) (state : Lists T) (old new : Core T) → Follows n state old
      → old.taken < length old.entries.items
      → new.entries.items ≡ old.entries.items → new.closed.items ≡ old.closed.items → new.taken ≡ old.taken + 1
      → Follows n (happened state Take) new
  follows_take n state old new follows below same marks one_more = record {
    marks = rw marks follows.marks;
    within = rw (same, one_more) (omega arith);
    taken = rw (same, one_more, follows.taken, follows.waiting) (first_taken old.taken old.entries.items below);
    waiting = rw (same, one_more, follows.waiting) (drop-drop 1 old.taken old.entries.items);
    lawful = lawful_take n state follows.lawful;
  }

  -- nothing waits
  pub follows_nothing : (n : ℕ) (state : Lists T) (core : Core T) → Follows n state core
      → length core.entries.items ≤ core.taken → Follows n (happened state Take) core
  follows_nothing n state core follows above =
      let none : state.waiting ≡ [] = follows.waiting ∙ nothing_left core.taken core.entries.items above in record {
        marks = follows.marks;
        within = follows.within;
        taken = rw none (append-nil state.taken ∙ follows.taken);
        waiting = rw none (sym (nothing_left core.taken core.entries.items above));
        lawful = lawful_take n state follows.lawful;
      }
    where
      nothing_left : (k : ℕ) (entries : List (Entry T)) → length entries ≤ k → drop k entries ≡ []
      nothing_left zero [] above = refl
      nothing_left zero (x ∷ entries) above = absurd (omega arith)
      nothing_left (suc k) [] above = refl
      nothing_left (suc k) (x ∷ entries) above = nothing_left k entries (omega arith)

  -- at first
  pub follows_start : (n : ℕ) (core : Core T) → core.closed.items ≡ replicate n false → core.entries.items ≡ []
      → core.taken ≡ 0
      → Follows n start core
  follows_start n core marks none zero_taken = record {
    marks = record {
      counted = rw marks (length-replicate n false);
      each = λ number below. rw (marks, get_or-replicate n number false false below) tt;
    };
    within = rw zero_taken (omega arith);
    taken = rw (none, zero_taken) refl;
    waiting = rw (none, zero_taken) refl;
    lawful = lawful_start n;
  }

  -- the events so far were allowed, and the core holds the state after them
  pub record Ran (n : ℕ) (events done left : List (CoreEvent T)) (place : ℕ) (core : Core T) : Type 0 where
    pub whole : events ≡ done ++ left
    pub counted : place ≡ length done
    pub allowed : AreAllowed n start done
    pub follows : Follows n (after start done) core

  -- one more event was done
  pub ran_more : (n : ℕ) (events done left rest : List (CoreEvent T)) (event : CoreEvent T) (place : ℕ)
      (old new : Core T)
      → Ran n events done left place old → left ≡ event ∷ rest
      → ((state : Lists T) → Follows (length old.closed.items) state old
      → IsAllowed (length old.closed.items) state event × Follows (length old.closed.items) (happened state event) new)
      → Ran n events (done ++ event ∷ []) rest (place + 1) new
  ran_more n events done left rest event place old new ran is step =
      let wide : length old.closed.items ≡ n = ran.follows.marks.counted in
      let stepped = step (after start done) (subst (λ m. Follows m (after start done) old) (sym wide) ran.follows) in
      let counted : place ≡ length done = ran.counted in record {
        whole = ran.whole ∙ ap (λ l. done ++ l) is ∙ sym (append_assoc done (event ∷ []) rest);
        counted = omega (arith, length-append done (event ∷ []));
        allowed =
            allowed_more n start done event ran.allowed (subst (λ m. IsAllowed m (after start done) event) wide
            stepped.0);
        follows = subst (λ state. Follows n state new) (sym (after_more start done event))
            (subst (λ m. Follows m (happened (after start done) event) new) wide stepped.1);
      }

  -- the next event isn't allowed
  pub ran_refused : (n : ℕ) (events done left rest : List (CoreEvent T)) (event : CoreEvent T) (place : ℕ)
      (core : Core T)
      → Ran n events done left place core → left ≡ event ∷ rest
      → ((state : Lists T) → Follows (length core.closed.items) state core → ¬ IsAllowed
      (length core.closed.items) state event)
      → IsFirstNotAllowed n events place
  ran_refused n events done left rest event place core ran is refused =
      let wide : length core.closed.items ≡ n = ran.follows.marks.counted in record {
        before = done;
        event = event;
        behind = rest;
        whole = ran.whole ∙ ap (λ l. done ++ l) is;
        counted = sym ran.counted;
        allowed = ran.allowed;
        refused =
            λ allowed. refused (after start done) (subst (λ m. Follows m (after start done) core)
            (sym wide) ran.follows)
            (subst (λ m. IsAllowed m (after start done) event) (sym wide) allowed);
      }

  -- all events were done
  pub ran_whole : (n : ℕ) (events done left : List (CoreEvent T)) (place : ℕ) (core : Core T) (ended : CoreState T)
      → Ran n events done left place core → left ≡ []
      → ended.taken ≡ take core.taken core.entries.items → ended.waiting ≡ drop core.taken core.entries.items
      → EndsIn n events ended
  ran_whole n events done left place core ended ran none taken waiting =
      let all : events ≡ done = ran.whole ∙ ap (λ l. done ++ l) none ∙ append-nil done in record {
        allowed = subst (AreAllowed n start) (sym all) ran.allowed;
        taken = taken ∙ sym ran.follows.taken ∙ ap (λ l. (after start l).taken) (sym all);
        waiting = waiting ∙ sym ran.follows.waiting ∙ ap (λ l. (after start l).waiting) (sym all);
        lawful = subst (λ l. Lawful n (after start l)) (sym all) ran.follows.lawful;
      }
