-- What is printed of a cell: the texts that its steps write, in their order, and what the last of them comes to.
use Rattle.std.specs.Prelude.{◌≡◌, ◌≢◌, ⊤, ℕ, Bool, true, false, List, [], ◌++◌, codes, Option, Some, None, Ok, Err}
use Rattle.std.specs.List.{flat_map}
use Rattle.std.specs.Io.BufRead.{first_piece, drop_through}
use Rattle.std.specs.Io.KnownBytes.{Appends}
use Rattle.interp_core.specs.declared.fault.InterpFault.{InterpFault}
use Rattle.interp_core.specs.declared.answer.Next.{Next}
use Rattle.interp_core.specs.declared.answer.Next.TheVariants.{More, Done, Failed}
use Rattle.interp_core.specs.declared.answer.Output.{Output}
use Rattle.interp_core.specs.declared.answer.Output.TheVariants.{Stdout, Stderr, Display, DisplayHtml}
use Rattle.interp_core.specs.declared.answer.Stepped.{Stepped}
use Rattle.interp_core.specs.Fault.{fault_name, fault_value}
use Rattle.interp_core.specs.Interpreter.{ByMemory, IfMemory, IsEnd, Meaning}

-- a text on a line of its own
abbrev pub line : List ℕ → List ℕ
line text = text ++ codes "\n"

-- the line that is printed of a fault: its name, a colon and a blank, what is said of it, and a line feed
abbrev pub fault_line : InterpFault → List ℕ
fault_line fault = fault_name fault ++ codes ": " ++ line (fault_value fault)

-- a fault isn't want of memory
abbrev pub IsReported : InterpFault → Type 0
IsReported fault = IfMemory fault ⊥ ⊤

-- a step didn't fail for want of memory
abbrev pub FoundMemory : Next → Type 0
FoundMemory next = ByMemory next ⊥ ⊤

-- whether a cell goes on after a step
abbrev pub goes_on : Next → Bool
goes_on More = true
goes_on (Done value) = false
goes_on (Failed fault) = false

-- what is printed of an output: only what goes to standard output
abbrev pub output_text : Output → List ℕ
output_text (Stdout text) = text
output_text (Stderr text) = []
output_text (Display text shown) = []
output_text (DisplayHtml text html) = []

-- what is printed of the way a step ends: a value or a fault
abbrev pub next_text : Next → List ℕ
next_text More = []
next_text (Done None) = []
next_text (Done (Some value)) = line value
next_text (Failed fault) = fault_line fault

-- what is printed of a step
abbrev pub step_text : Stepped → List ℕ
step_text stepped = flat_map output_text stepped.outputs ++ next_text stepped.next

-- what is printed of the steps that a cell has left, and the interpreter after them
pub data StepsPrint {State Cell : Type 0} (m : Meaning State Cell) : State → Cell → List ℕ → State → Type 0 where
  none : (state : State) (cell : Cell) → m.steps cell ≡ 0 → StepsPrint m state cell [] state
  more : (state after end : State) (cell left : Cell) (stepped : Stepped) (rest : List ℕ)
      → m.runs state cell stepped after left → stepped.next ≡ More → StepsPrint m after left rest end
      → StepsPrint m state cell (step_text stepped ++ rest) end
  last : (state after : State) (cell left : Cell) (stepped : Stepped)
      → m.runs state cell stepped after left → IsEnd stepped.next
      → StepsPrint m state cell (step_text stepped) after

-- what is printed of a text that is read as a cell, and the interpreter after it
pub data CellPrints {State Cell : Type 0} (m : Meaning State Cell) : State → List ℕ → List ℕ → State → Type 0 where
  read : (state begun end : State) (code text : List ℕ) (cell : Cell)
      → m.begins state code (Ok cell) begun → StepsPrint m begun cell text end → CellPrints m state code text end
  refused : (state end : State) (code : List ℕ) (fault : InterpFault)
      → m.begins state code (Err fault) end → CellPrints m state code (fault_line fault) end

-- a run of a cell printed what its meaning says: this text came onto the output, and the interpreter is then this one
pub record Prints {State : Type 0} (Says : List ℕ → State → Type 0) (old new : Option (List ℕ)) (end : State) : Type 0
  where
    pub text : List ℕ
    pub appended : Appends old new text
    pub said : Says text end

-- what is printed of an input whose lines are cells, each without its line feed, and the interpreter after them
pub data InputPrints {State Cell : Type 0} (m : Meaning State Cell) : State → List ℕ → List ℕ → State → Type 0 where
  end : (state : State) → InputPrints m state [] [] state
  next_line : (state after last : State) (input text rest : List ℕ)
      → input ≢ [] → CellPrints m state (first_piece 10 input) text after
      → InputPrints m after (drop_through 10 input) rest last
      → InputPrints m state input (text ++ rest) last

-- the first line of an input was run and printed, and what follows it is left; or the input was empty and nothing
-- changed
abbrev pub LinePrints : {State Cell : Type 0} → Meaning State Cell → Bool → List ℕ → State → Option (List ℕ)
    → Option (List ℕ) → State → Option (List ℕ) → Type 0
LinePrints m true input state old new after left =
    (input ≢ []) × Prints (CellPrints m state (first_piece 10 input)) old new after
    × (left ≡ Some (drop_through 10 input))
LinePrints m false input state old new after left = (input ≡ []) × (new ≡ old) × (after ≡ state)
