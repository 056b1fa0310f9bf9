-- Cells that are published: the cell itself, what it wrote, and what came of it.
use Rattle.std.proofs.Common.{arith, ◌≡◌, ◌≢◌, inl, inr, ℕ, List, [], ◌∷◌, ◌++◌, length, map, Bool, true, false, Option}
use Rattle.std.proofs.Common.{Result, Ok, Err, MatchResult}
use Rattle.std.proofs.Common.{refl, sym, ◌∙◌, ap, subst, append_assoc}
use Rattle.std.proofs.lemmas.Bool.{false≢true}
use Rattle.std.proofs.lemmas.List.{append-nil, length-append}
use Rattle.interp_core.specs.Interpreter.{Meaning}
use Rattle.interp_core.specs.declared.answer.Output.{Output}
use Rattle.interp_core.specs.declared.fault.InterpFault.{InterpFault}
use Rattle.interp_core.specs.declared.fault.InterpFault.TheVariants.{Interrupted, OutOfMemory}
use Rattle.jmsg_types.specs.declared.publication.Publication.{Publication}
use Rattle.jmsg_types.specs.declared.publication.Publication.TheVariants.{ExecuteInput}
use Rattle.kernel_engine.specs.Course.{Course, Ending, own, interrupted, memory, Outcome, Ends, MayEnd, TextRuns}
use Rattle.kernel_engine.specs.Publications.{publication_of, last_of}
use Rattle.kernel_engine.specs.Growth.{unless_silent}
use Rattle.kernel_engine.specs.Runs.{MayBeCut, RunsWhole, RunsCut, TellsWhole, TellsCut, failure_of}
use Rattle.kernel_engine.specs.Runs.{cell_publications}
use Rattle.kernel_engine.proofs.PuttingLemmas.{told_none}

-- nothing was published, and nothing ran
pub tells_nothing : {State Cell : Type 0} (m : Meaning State Cell) (state : State) (code : List ℕ) (count : ℕ)
    (Grew : List Publication → Type 0) (silent : Bool) (may : Type 0) → Grew []
    → TellsCut (TextRuns m state code) may code count state Grew silent
tells_nothing m state code count Grew silent may grew = record {
  course = record { steps = 0; ending = memory state };
  outputs = [];
  outcome = Err OutOfMemory;
  runs = inr (inl (record { course_is = refl; quiet = refl; outcome_is = refl; same = refl }));
  grew = record {
    front = [];
    rest = cell_publications code count [] (Err OutOfMemory);
    whole = refl;
    grew = subst Grew (sym (told_none silent)) grew;
  };
  ending = tt;
}

-- a list with something at its end isn't empty
not_empty : {A : Type 0} (l : List A) (last : A) → l ++ last ∷ [] ≢ []
not_empty l last none =
    let long = length-append l (last ∷ []) in
    let length_none = ap length none in absurd (omega (arith, long, length_none))

-- a course that may end so may be cut so
pub may_be_cut : {State : Type 0} (may : Type 0) (ending : Ending State) (publications rest : List Publication)
    → MayEnd may ending → MayBeCut may ending publications rest
may_be_cut may own publications rest ends = tt
may_be_cut may interrupted publications rest ends = inl ends
may_be_cut may (memory left) publications rest ends = tt

-- the error of an interruption that wasn't published
error_left : (count : ℕ) (outcome : Outcome) (rest : List Publication) → outcome ≡ Err Interrupted
    → rest ++ last_of count outcome ≢ []
error_left count outcome rest is = subst (λ o. rest ++ last_of count o ≢ []) (sym is) (not_empty rest _)

-- whether a course ended by an interruption
abbrev is_interrupted : {State : Type 0} → Ending State → Bool
is_interrupted own = false
is_interrupted interrupted = true
is_interrupted (memory left) = false

-- a cell that was interrupted has this outcome
interrupted_outcome : {State Cell : Type 0} (m : Meaning State Cell) (state : State) (code : List ℕ)
    (course : Course State) (outputs : List Output) (outcome : Outcome) (after : State)
    → TextRuns m state code course outputs outcome after → course.ending ≡ interrupted → outcome ≡ Err Interrupted
interrupted_outcome {State} m state code course outputs outcome after (inl no_cell) is =
    absurd (false≢true (sym (ap (λ (c : Course State). is_interrupted c.ending) no_cell.course_is)
    ∙ ap is_interrupted is))
interrupted_outcome {State} m state code course outputs outcome after (inr (inl unread)) is =
    absurd (false≢true (sym (ap (λ (c : Course State). is_interrupted c.ending) unread.course_is)
    ∙ ap is_interrupted is))
interrupted_outcome m state code course outputs outcome after (inr (inr begins)) is =
    (subst (λ e. Ends m e begins.runs.more begins.runs.at begins.runs.left begins.runs.last outcome after) is
    begins.runs.ends).1.outcome_is

-- so it is by the ending of the course
by_ending : {State Cell : Type 0} (m : Meaning State Cell) (state : State) (code : List ℕ) (may : Type 0)
    (count : ℕ) (ending : Ending State) (course : Course State) → course.ending ≡ ending → (outputs : List Output)
    (outcome : Outcome) (after : State) (publications rest : List Publication)
    → TextRuns m state code course outputs outcome after
    → MayBeCut may ending publications (rest ++ last_of count outcome)
by_ending m state code may count own course is outputs outcome after publications rest runs = tt
by_ending m state code may count interrupted course is outputs outcome after publications rest runs =
    inr (inl (error_left count outcome rest
    (interrupted_outcome m state code course outputs outcome after runs is)))
by_ending m state code may count (memory left) course is outputs outcome after publications rest runs = tt

-- what is left of a cell that was cut before what came of it was published
pub cut_before_last : {State Cell : Type 0} (m : Meaning State Cell) (state : State) (code : List ℕ) (may : Type 0)
    (count : ℕ) (course : Course State) (outputs : List Output) (outcome : Outcome) (after : State)
    (publications rest : List Publication) → TextRuns m state code course outputs outcome after
    → MayBeCut may course.ending publications (rest ++ last_of count outcome)
cut_before_last m state code may count course outputs outcome after publications rest runs =
    by_ending m state code may count course.ending course refl outputs outcome after publications rest runs

module _ {State : Type 0} (Runs : Course State → List Output → Outcome → State → Type 0) (may : Type 0)
    (code : List ℕ) (count : ℕ) (after : State) (A B C : List Publication → Type 0) (silent : Bool)
    (join : (xs ys : List Publication) → A (unless_silent silent xs) → B (unless_silent silent ys)
    → C (unless_silent silent (xs ++ ys))) where
  -- the cell was published, and a beginning of what it wrote
  pub tells_cut : A (unless_silent silent (ExecuteInput code count ∷ [])) → (ran : RunsCut Runs after B silent)
      → ((publications rest : List Publication)
      → MayBeCut may ran.course.ending publications (rest ++ last_of count ran.outcome))
      → TellsCut Runs may code count after C silent
  tells_cut input ran before = record {
    course = ran.course;
    outputs = ran.outputs;
    outcome = ran.outcome;
    runs = ran.runs;
    grew = record {
      front = ExecuteInput code count ∷ ran.grew.front;
      rest = ran.grew.rest ++ last_of count ran.outcome;
      whole = ap (λ l. ExecuteInput code count ∷ l) (ap (λ l. l ++ last_of count ran.outcome) ran.grew.whole
          ∙ append_assoc ran.grew.front ran.grew.rest (last_of count ran.outcome));
      grew = join (ExecuteInput code count ∷ []) ran.grew.front input ran.grew.grew;
    };
    ending = before _ ran.grew.rest;
  }

  module _ (L F : List Publication → Type 0)
      (behind : (xs ys : List Publication) → C (unless_silent silent xs) → L (unless_silent silent ys)
      → F (unless_silent silent (xs ++ ys)))
    where
      -- what came of the cell was published, or it wasn't
      pub tells_last : (outcome : Outcome) {E : Type 0} (result : Result (Option InterpFault) E)
          → A (unless_silent silent (ExecuteInput code count ∷ [])) → RunsWhole Runs may outcome after B silent
          → MatchResult result
          (λ failure. (failure ≡ failure_of outcome) × L (unless_silent silent (last_of count outcome)))
          (λ _. L [])
          → MatchResult result (λ failure. TellsWhole Runs may code count failure after F silent)
          (λ _. TellsCut Runs may code count after F silent)
      tells_last outcome (Ok failure) input ran (is, last) = record {
        course = ran.course;
        outputs = ran.outputs;
        outcome = outcome;
        runs = ran.runs;
        ending = ran.ending;
        failure_is = is;
        grew = behind (ExecuteInput code count ∷ map publication_of ran.outputs) (last_of count outcome)
            (join (ExecuteInput code count ∷ []) (map publication_of ran.outputs) input ran.grew) last;
      }
      tells_last outcome (Err refused) input ran last = record {
        course = ran.course;
        outputs = ran.outputs;
        outcome = outcome;
        runs = ran.runs;
        grew = record {
          front = ExecuteInput code count ∷ map publication_of ran.outputs;
          rest = last_of count outcome;
          whole = refl;
          grew = subst (λ l. F (unless_silent silent l))
              (append-nil (ExecuteInput code count ∷ map publication_of ran.outputs))
              (behind (ExecuteInput code count ∷ map publication_of ran.outputs) []
              (join (ExecuteInput code count ∷ []) (map publication_of ran.outputs) input ran.grew)
              (subst L (sym (told_none silent)) last));
        };
        ending = may_be_cut may ran.course.ending _ _ ran.ending;
      }
