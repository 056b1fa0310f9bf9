-- The steps of a cell, printed one after the other.
use Rattle.std.proofs.Common.{◌≡◌, ℕ, List, [], ◌++◌, true, false, Option, subst, sym, append_assoc}
use Rattle.std.proofs.lemmas.List.{append-nil}
use Rattle.std.specs.Io.KnownBytes.{Appends}
use Rattle.std.proofs.KnownBytes.{Appends-nil}
use Rattle.interp_core.specs.declared.answer.Stepped.{Stepped}
use Rattle.interp_core.specs.Interpreter.{ByMemory, Meaning}
use Rattle.arith_cells.specs.Printed.{FoundMemory, Prints, StepsPrint, goes_on, step_text}
use Rattle.arith_cells.specs.Printed.StepsPrint.{none, more, last}
use Rattle.arith_cells.proofs.PrintedLemmas.{appends_then, of_answered, is_more, is_end}

-- what was printed so far stands in front of what the steps that are left print
pub record IsBegun {State Cell : Type 0} (m : Meaning State Cell) (start : State) (whole : Cell)
    (old new : Option (List ℕ)) (state : State) (cell : Cell) : Type 0 where
  pub text : List ℕ
  pub appended : Appends old new text
  pub in_front : (rest : List ℕ) (end : State) → StepsPrint m state cell rest end
      → StepsPrint m start whole (text ++ rest) end

-- no step has run yet
pub not_begun : {State Cell : Type 0} (m : Meaning State Cell) (start : State) (whole : Cell) (known : Option (List ℕ))
    → IsBegun m start whole known known start whole
not_begun m start whole known = record {
  text = [];
  appended = Appends-nil known;
  in_front = λ rest end printed. printed;
}

-- one more step, behind which the cell goes on
pub one_more : {State Cell : Type 0} (m : Meaning State Cell) (start : State) (whole : Cell)
    (old middle new : Option (List ℕ)) (state after : State) (cell left : Cell) (stepped : Stepped)
    → IsBegun m start whole old middle state cell → FoundMemory stepped.next → goes_on stepped.next ≡ true
    → (memory : Type 0) → ByMemory stepped.next memory (m.runs state cell stepped after left)
    → Appends middle new (step_text stepped)
    → IsBegun m start whole old new after left
one_more m start whole old middle new state after cell left stepped begun answered on memory ran printed = record {
  text = begun.text ++ step_text stepped;
  appended = appends_then old middle new begun.text (step_text stepped) begun.appended printed;
  in_front = λ rest end behind.
      let runs = of_answered stepped.next memory (m.runs state cell stepped after left) answered ran in
      subst (λ (t : List ℕ). StepsPrint m start whole t end) (sym (append_assoc begun.text (step_text stepped) rest))
      (begun.in_front (step_text stepped ++ rest) end (more state after end cell left stepped rest runs
      (is_more stepped.next on) behind));
}

-- one more step, which ends the cell
pub one_last : {State Cell : Type 0} (m : Meaning State Cell) (start : State) (whole : Cell)
    (old middle new : Option (List ℕ)) (state after : State) (cell left : Cell) (stepped : Stepped)
    → IsBegun m start whole old middle state cell → FoundMemory stepped.next → goes_on stepped.next ≡ false
    → (memory : Type 0) → ByMemory stepped.next memory (m.runs state cell stepped after left)
    → Appends middle new (step_text stepped)
    → Prints (StepsPrint m start whole) old new after
one_last m start whole old middle new state after cell left stepped begun answered ends memory ran printed = record {
  text = begun.text ++ step_text stepped;
  appended = appends_then old middle new begun.text (step_text stepped) begun.appended printed;
  said =
      let runs = of_answered stepped.next memory (m.runs state cell stepped after left) answered ran in
      begun.in_front (step_text stepped) after (last state after cell left stepped runs (is_end stepped.next ends));
}

-- no step is left
pub all_run : {State Cell : Type 0} (m : Meaning State Cell) (start : State) (whole : Cell) (old new : Option (List ℕ))
    (state : State) (cell : Cell)
    → IsBegun m start whole old new state cell → m.steps cell ≡ 0 → Prints (StepsPrint m start whole) old new state
all_run m start whole old new state cell begun none_left = record {
  text = begun.text;
  appended = begun.appended;
  said = subst (λ (t : List ℕ). StepsPrint m start whole t state) (append-nil begun.text)
      (begun.in_front [] state (none state cell none_left));
}
