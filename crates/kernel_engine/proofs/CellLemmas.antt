-- Cells that run step by step, as their courses tell it.
use Rattle.std.proofs.Common.{arith, ◌≡◌, inl, inr, ℕ, zero, suc, ◌+◌, ◌<◌, List, [], ◌∷◌, ◌++◌, length, map, Bool}
use Rattle.std.proofs.Common.{Option}
use Rattle.std.proofs.Common.{Some, None, Ok, Err, MatchOption, refl, sym, ◌∙◌, ap, subst}
use Rattle.std.proofs.Common.{append_assoc}
use Rattle.std.proofs.lemmas.List.{append-nil, map-append, length-append}
use Rattle.std.proofs.lemmas.Grind.{flat_map-append}
use Rattle.interp_core.specs.Interpreter.{Meaning, ByMemory, IsEnd, Answers, OnMemory}
use Rattle.interp_core.specs.declared.answer.Next.{Next}
use Rattle.interp_core.specs.declared.answer.Next.TheVariants.{More, Done, Failed}
use Rattle.interp_core.specs.declared.answer.Output.{Output}
use Rattle.interp_core.specs.declared.answer.Stepped.{Stepped}
use Rattle.interp_core.specs.declared.fault.InterpFault.{InterpFault}
use Rattle.interp_core.specs.declared.fault.InterpFault.TheVariants.{Syntax, Overflow, ZeroDivision, Shift, TooDeep}
use Rattle.interp_core.specs.declared.fault.InterpFault.TheVariants.{Interrupted, OutOfMemory, Raised}
use Rattle.jmsg_types.specs.declared.publication.Publication.{Publication}
use Rattle.kernel_engine.specs.Course.{Course, own, interrupted, memory, Outcome, IsOutcome, outputs_of, Goes}
use Rattle.kernel_engine.specs.Course.{CellRuns, TextRuns, MayEnd}
use Rattle.kernel_engine.specs.Publications.{publication_of}
use Rattle.kernel_engine.specs.Growth.{InFront, unless_silent}
use Rattle.kernel_engine.specs.Runs.{RunsWhole, RunsCut, Underway}
use Rattle.kernel_engine.proofs.PuttingLemmas.{told_none}

-- what is published of what two lists of steps wrote
published_outputs : (xs ys : List Output)
    → map publication_of (xs ++ ys) ≡ map publication_of xs ++ map publication_of ys
published_outputs xs ys = map-append publication_of xs ys

-- a number that isn't 0 is greater
positive : (n : ℕ) → (n ≡ 0 → ⊥) → 0 < n
positive zero none = absurd (none refl)
positive (suc n) none = omega arith

module _ {State Cell : Type 0} (m : Meaning State Cell) where
  -- steps one after the other
  pub goes_on : (state : State) (cell : Cell) (xs : List Stepped) (at : State) (left : Cell) (ys : List Stepped)
      (after : State) (rest : Cell) → Goes m state cell xs at left → Goes m at left ys after rest
      → Goes m state cell (xs ++ ys) after rest
  goes_on state cell [] at left ys after rest (a, b) second =
      subst (λ s. Goes m s cell ys after rest) a (subst (λ c. Goes m at c ys after rest) b second)
  goes_on state cell (x ∷ xs) at left ys after rest (next, between, runs, more, goes) second =
      (next, between, runs, more, goes_on next between xs at left ys after rest goes second)

  -- the cell is interrupted before a step
  pub stopped_whole : (state : State) (cell : Cell) (may : Type 0) (Grew : List Publication → Type 0) (silent : Bool)
      → 0 < m.steps cell → may → Grew []
      → RunsWhole (CellRuns m state cell) may (Err Interrupted) state Grew silent
  stopped_whole state cell may Grew silent more comes grew = record {
    course = record { steps = 0; ending = interrupted };
    outputs = [];
    runs = record {
      steps = [];
      at = state;
      left = cell;
      goes = (refl, refl);
      more = 0;
      last = [];
      ends = (refl, record { more = more; quiet = refl; outcome_is = refl; same = refl });
      steps_are = refl;
      outputs_are = refl;
    };
    ending = comes;
    grew = subst Grew (sym (told_none silent)) grew;
  }

  module _ (state : State) (cell : Cell) (may : Type 0) (outputs : List Output) (after : State) (left : Cell)
      (Grew : List Publication → Type 0) (silent : Bool) where
    -- the cell runs by its last step
    ran_last : (next : Next) (outcome : Outcome)
        → m.runs state cell (record { outputs = outputs; next = next }) after left → IsOutcome next outcome
        → CellRuns m state cell (record { steps = 1; ending = own }) outputs outcome after
    ran_last next outcome runs is = record {
      steps = [];
      at = state;
      left = cell;
      goes = (refl, refl);
      more = 1;
      last = outputs;
      ends = inr (
        refl,
        record {
          step = record { outputs = outputs; next = next };
          left = left;
          runs = runs;
          outputs_are = refl;
          outcome_is = is;
        },
      );
      steps_are = refl;
      outputs_are = refl;
    }

    -- the cell is broken off for want of memory
    ran_out : 0 < m.steps cell → (outputs ≡ []) × m.breaks_off state cell after
        → CellRuns m state cell (record { steps = 0; ending = memory after }) outputs (Err OutOfMemory) after
    ran_out more (quiet, breaks) = record {
      steps = [];
      at = state;
      left = cell;
      goes = (refl, refl);
      more = 0;
      last = outputs;
      ends = (refl, refl, record { more = more; quiet = quiet; outcome_is = refl; breaks_off = breaks });
      steps_are = refl;
      outputs_are = refl;
    }

    -- the course by which a cell ran whose step was the last
    ran_to_end : (next : Next) (outcome : Outcome) → 0 < m.steps cell
        → ByMemory next ((outputs ≡ []) × m.breaks_off state cell after)
        (m.runs state cell (record { outputs = outputs; next = next }) after left)
        → IsOutcome next outcome
        → (course : Course State) × CellRuns m state cell course outputs outcome after × MayEnd may course.ending
    ran_to_end More outcome more stepped is = absurd is
    ran_to_end (Done value) outcome more stepped is =
        (record { steps = 1; ending = own }, ran_last (Done value) outcome stepped is, tt)
    ran_to_end (Failed (Syntax place)) outcome more stepped is =
        (record { steps = 1; ending = own }, ran_last (Failed (Syntax place)) outcome stepped is, tt)
    ran_to_end (Failed Overflow) outcome more stepped is =
        (record { steps = 1; ending = own }, ran_last (Failed Overflow) outcome stepped is, tt)
    ran_to_end (Failed ZeroDivision) outcome more stepped is =
        (record { steps = 1; ending = own }, ran_last (Failed ZeroDivision) outcome stepped is, tt)
    ran_to_end (Failed Shift) outcome more stepped is =
        (record { steps = 1; ending = own }, ran_last (Failed Shift) outcome stepped is, tt)
    ran_to_end (Failed TooDeep) outcome more stepped is =
        (record { steps = 1; ending = own }, ran_last (Failed TooDeep) outcome stepped is, tt)
    ran_to_end (Failed Interrupted) outcome more stepped is =
        (record { steps = 1; ending = own }, ran_last (Failed Interrupted) outcome stepped is, tt)
    ran_to_end (Failed (Raised name value)) outcome more stepped is =
        (record { steps = 1; ending = own }, ran_last (Failed (Raised name value)) outcome stepped is, tt)
    ran_to_end (Failed OutOfMemory) outcome more stepped is = (
      record { steps = 0; ending = memory after },
      subst (λ o. CellRuns m state cell (record { steps = 0; ending = memory after }) outputs o after) (sym is)
          (ran_out more stepped),
      tt,
    )

    -- a step that left more to run
    ran_on : (next : Next) → next ≡ More
        → ByMemory next ((outputs ≡ []) × m.breaks_off state cell after)
        (m.runs state cell (record { outputs = outputs; next = next }) after left)
        → m.runs state cell (record { outputs = outputs; next = More }) after left
    ran_on next is stepped =
        subst (λ n. ByMemory n ((outputs ≡ []) × m.breaks_off state cell after)
        (m.runs state cell (record { outputs = outputs; next = n }) after left)) is stepped

    -- a step ran, and what it wrote was published
    pub step_whole : (next : Next) (ended : Option Outcome) → 0 < m.steps cell
        → ByMemory next ((outputs ≡ []) × m.breaks_off state cell after)
        (m.runs state cell (record { outputs = outputs; next = next }) after left)
        → MatchOption ended (next ≡ More) (λ outcome. IsOutcome next outcome)
        → Grew (unless_silent silent (map publication_of outputs))
        → MatchOption ended (Underway m state cell after left Grew silent)
        (λ outcome. RunsWhole (CellRuns m state cell) may outcome after Grew silent)
    step_whole next None more stepped is grew = record {
      steps = record { outputs = outputs; next = More } ∷ [];
      goes = (after, left, ran_on next is stepped, refl, (refl, refl));
      grew = subst (λ o. Grew (unless_silent silent (map publication_of o))) (sym (append-nil outputs)) grew;
    }
    step_whole next (Some outcome) more stepped is grew =
        let (course, runs, ending) = ran_to_end next outcome more stepped is in
        record { course = course; outputs = outputs; runs = runs; ending = ending; grew = grew }

    -- a step ran that left more to run, as the course that is interrupted behind it
    ran_and_stopped : 0 < m.steps left
        → m.runs state cell (record { outputs = outputs; next = More }) after left
        → CellRuns m state cell (record { steps = 1; ending = interrupted }) outputs (Err Interrupted) after
    ran_and_stopped more runs = record {
      steps = record { outputs = outputs; next = More } ∷ [];
      at = after;
      left = left;
      goes = (after, left, runs, refl, (refl, refl));
      more = 0;
      last = [];
      ends = (refl, record { more = more; quiet = refl; outcome_is = refl; same = refl });
      steps_are = refl;
      outputs_are = sym (append-nil (outputs ++ []) ∙ append-nil outputs);
    }

    -- a step ran, and only a beginning of what it wrote was published
    pub step_cut : (next : Next) → 0 < m.steps cell
        → ByMemory next ((outputs ≡ []) × m.breaks_off state cell after)
        (m.runs state cell (record { outputs = outputs; next = next }) after left)
        → (m.steps left ≡ 0 → IsEnd next) → InFront Grew silent (map publication_of outputs)
        → RunsCut (CellRuns m state cell) after Grew silent
    step_cut More more stepped ended grew =
        let some : 0 < m.steps left = positive (m.steps left) ended in
        record { course = _; outputs = outputs; outcome = _; runs = ran_and_stopped some stepped; grew = grew }
    step_cut (Done value) more stepped ended grew =
        let (course, runs, ending) = ran_to_end (Done value) (Ok value) more stepped refl in
        record { course = course; outputs = outputs; outcome = _; runs = runs; grew = grew }
    step_cut (Failed fault) more stepped ended grew =
        let (course, runs, ending) = ran_to_end (Failed fault) (Err fault) more stepped refl in
        record { course = course; outputs = outputs; outcome = _; runs = runs; grew = grew }

  -- at first no step ran
  pub none_underway : (state : State) (cell : Cell) (Grew : List Publication → Type 0) (silent : Bool) → Grew []
      → Underway m state cell state cell Grew silent
  none_underway state cell Grew silent grew =
      record { steps = []; goes = (refl, refl); grew = subst Grew (sym (told_none silent)) grew }

  -- no step is left
  pub done_whole : (state : State) (cell : Cell) (at : State) (left : Cell) (may : Type 0)
      (Grew : List Publication → Type 0) (silent : Bool) → m.steps left ≡ 0
      → Underway m state cell at left Grew silent → RunsWhole (CellRuns m state cell) may (Ok None) at Grew silent
  done_whole state cell at left may Grew silent none so_far = record {
    course = record { steps = length so_far.steps + 0; ending = own };
    outputs = outputs_of so_far.steps;
    runs = record {
      steps = so_far.steps;
      at = at;
      left = left;
      goes = so_far.goes;
      more = 0;
      last = [];
      ends = inl (refl, record { done = none; quiet = refl; outcome_is = refl; same = refl });
      steps_are = refl;
      outputs_are = sym (append-nil (outputs_of so_far.steps));
    };
    ending = tt;
    grew = so_far.grew;
  }

  module _ (state : State) (cell : Cell) (at : State) (left : Cell) (after : State) (rest : Cell)
      (A B C : List Publication → Type 0) (silent : Bool)
      (join : (xs ys : List Publication) → A (unless_silent silent xs) → B (unless_silent silent ys)
      → C (unless_silent silent (xs ++ ys))) where
    -- more steps ran
    pub underway_on : Underway m state cell at left A silent → Underway m at left after rest B silent
        → Underway m state cell after rest C silent
    underway_on first second = record {
      steps = first.steps ++ second.steps;
      goes = goes_on state cell first.steps at left second.steps after rest first.goes second.goes;
      grew = subst (λ l. C (unless_silent silent l))
          (sym (ap (map publication_of) (flat_map-append (λ step. step.outputs)
          first.steps second.steps) ∙ published_outputs _ _)) (join _ _ first.grew second.grew);
    }

    -- the course of what ran before and of what ran then
    joined : (first : Underway m state cell at left A silent) (course : Course State) (outputs : List Output)
        (outcome : Outcome) → CellRuns m at left course outputs outcome after
        → CellRuns m state cell (record course { steps = length first.steps + course.steps })
        (outputs_of first.steps ++ outputs) outcome after
    joined first course outputs outcome runs = record {
      steps = first.steps ++ runs.steps;
      at = runs.at;
      left = runs.left;
      goes = goes_on state cell first.steps at left runs.steps runs.at runs.left first.goes runs.goes;
      more = runs.more;
      last = runs.last;
      ends = runs.ends;
      steps_are = let long = length-append first.steps runs.steps in let are = runs.steps_are in
          omega (arith, long, are);
      outputs_are = ap (λ l. outputs_of first.steps ++ l) runs.outputs_are
          ∙ sym (append_assoc (outputs_of first.steps) (outputs_of runs.steps) runs.last)
          ∙ ap (λ l. l ++ runs.last) (sym (flat_map-append (λ step. step.outputs) first.steps runs.steps));
    }

    -- the cell ran to its end
    pub whole_on : (may : Type 0) (outcome : Outcome) → Underway m state cell at left A silent
        → RunsWhole (CellRuns m at left) may outcome after B silent
        → RunsWhole (CellRuns m state cell) may outcome after C silent
    whole_on may outcome first second = record {
      course = record second.course { steps = length first.steps + second.course.steps };
      outputs = outputs_of first.steps ++ second.outputs;
      runs = joined first second.course second.outputs outcome second.runs;
      ending = second.ending;
      grew = subst (λ l. C (unless_silent silent l)) (sym (published_outputs _ _)) (join _ _ first.grew second.grew);
    }

    -- only a beginning of what the cell wrote was published
    pub cut_on : Underway m state cell at left A silent → RunsCut (CellRuns m at left) after B silent
        → RunsCut (CellRuns m state cell) after C silent
    cut_on first second = record {
      course = record second.course { steps = length first.steps + second.course.steps };
      outputs = outputs_of first.steps ++ second.outputs;
      outcome = second.outcome;
      runs = joined first second.course second.outputs second.outcome second.runs;
      grew = record {
        front = map publication_of (outputs_of first.steps) ++ second.grew.front;
        rest = second.grew.rest;
        whole = published_outputs _ _ ∙ ap (λ l. map publication_of (outputs_of first.steps) ++ l) second.grew.whole
            ∙ sym (append_assoc (map publication_of (outputs_of first.steps)) second.grew.front second.grew.rest);
        grew = join _ _ first.grew second.grew.grew;
      };
    }

  -- the text is no cell
  no_cell : (state : State) (code : List ℕ) (after : State) (may : Type 0) (fault : InterpFault)
      → m.begins state code (Err fault) after
      → (course : Course State) × TextRuns m state code course [] (Err fault) after × MayEnd may course.ending
  no_cell state code after may fault begins = (
    record { steps = 0; ending = own },
    inl (record { fault = fault; refused = begins; course_is = refl; quiet = refl; outcome_is = refl }),
    tt,
  )

  -- the text is no cell, or no memory was found to read it
  refused_by : (state : State) (code : List ℕ) (after : State) (may : Type 0) (fault : InterpFault)
      → Answers (λ answer. m.begins state code answer after) (Err fault)
      → OnMemory {T = Cell} (Err fault) (after ≡ state)
      → (course : Course State) × TextRuns m state code course [] (Err fault) after × MayEnd may course.ending
  refused_by state code after may (Syntax place) answered refused = no_cell state code after may (Syntax place) answered
  refused_by state code after may Overflow answered refused = no_cell state code after may Overflow answered
  refused_by state code after may ZeroDivision answered refused = no_cell state code after may ZeroDivision answered
  refused_by state code after may Shift answered refused = no_cell state code after may Shift answered
  refused_by state code after may TooDeep answered refused = no_cell state code after may TooDeep answered
  refused_by state code after may Interrupted answered refused = no_cell state code after may Interrupted answered
  refused_by state code after may (Raised name value) answered refused =
      no_cell state code after may (Raised name value) answered
  refused_by state code after may OutOfMemory answered refused = (
    record { steps = 0; ending = memory state },
    inr (inl (record { course_is = refl; quiet = refl; outcome_is = refl; same = refused })),
    tt,
  )

  -- so it is published: nothing of it was written
  pub text_refused : (state : State) (code : List ℕ) (fault : InterpFault) (after : State) (may : Type 0)
      (Grew : List Publication → Type 0) (silent : Bool)
      → Answers (λ answer. m.begins state code answer after) (Err fault)
      → OnMemory {T = Cell} (Err fault) (after ≡ state) → Grew []
      → RunsWhole (TextRuns m state code) may (Err fault) after Grew silent
  text_refused state code fault after may Grew silent answered refused grew =
      let none = subst Grew (sym (told_none silent)) grew in
      let (course, runs, ending) = refused_by state code after may fault answered refused in
      record { course = course; outputs = []; runs = runs; ending = ending; grew = none }
