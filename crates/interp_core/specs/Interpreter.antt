-- What is known of an interpreter: what each of its calls answers, and the laws of its definitions.
use Rattle.std.specs.Prelude.{◌≡◌, ⊤, ℕ, suc, List, Option, Result, Ok, Err}
use Rattle.interp_core.specs.declared.fault.InterpFault.{InterpFault}
use Rattle.interp_core.specs.declared.fault.InterpFault.TheVariants as fault
use Rattle.interp_core.specs.declared.answer.Info.{Info}
use Rattle.interp_core.specs.declared.answer.Next.{Next}
use Rattle.interp_core.specs.declared.answer.Next.TheVariants.{More, Done, Failed}
use Rattle.interp_core.specs.declared.answer.Stepped.{Stepped}
use Rattle.interp_core.specs.declared.answer.Completion.{Completion}
use Rattle.interp_core.specs.declared.answer.Completeness.{Completeness}

-- what an interpreter's calls answer, by its language's definitions. `State` is the interpreter, a text is its octets
pub record Meaning (State Cell : Type 0) : Type 1 where
  -- what `info` says
  pub tells : State → Result Info InterpFault → Type 0
  -- what `begin` makes of a text, and the interpreter after it
  pub begins : State → List ℕ → Result Cell InterpFault → State → Type 0
  -- how many steps a cell has left
  pub steps : Cell → ℕ
  -- what a step does: the interpreter and the cell before, what came of it, the interpreter and the cell after
  pub runs : State → Cell → Stepped → State → Cell → Type 0
  -- what a step may leave that found no memory: the interpreter and the cell before, the interpreter after
  pub breaks_off : State → Cell → State → Type 0
  -- what may stand for the word before a cursor
  pub completes : State → List ℕ → ℕ → Result Completion InterpFault → Type 0
  -- what is known of the word at a cursor
  pub inspects : State → List ℕ → ℕ → Result (Option (List ℕ)) InterpFault → Type 0
  -- whether a text is a whole cell
  pub judges : State → List ℕ → Result Completeness InterpFault → Type 0
  -- what an expression is worth, and the interpreter after it
  pub evaluates : State → List ℕ → Result (List ℕ) InterpFault → State → Type 0
  -- what `evaluate` may leave that found no memory
  pub gives_up : State → List ℕ → State → Type 0

-- one fact if a fault is want of memory, and another if it is any other
abbrev pub IfMemory : InterpFault → Type 0 → Type 0 → Type 0
IfMemory (fault.Syntax place) memory other = other
IfMemory fault.Overflow memory other = other
IfMemory fault.ZeroDivision memory other = other
IfMemory fault.Shift memory other = other
IfMemory fault.TooDeep memory other = other
IfMemory fault.Interrupted memory other = other
IfMemory fault.OutOfMemory memory other = memory
IfMemory (fault.Raised name value) memory other = other

-- an answer is one that a definition has, or want of memory
abbrev pub Answers : {T : Type 0} → (Result T InterpFault → Type 0) → Result T InterpFault → Type 0
Answers Has (Ok answer) = Has (Ok answer)
Answers Has (Err fault) = IfMemory fault ⊤ (Has (Err fault))

-- a fact that has to hold if an answer is want of memory
abbrev pub OnMemory : {T : Type 0} → Result T InterpFault → Type 0 → Type 0
OnMemory (Ok answer) P = ⊤
OnMemory (Err fault) P = IfMemory fault P ⊤

-- a step is the last one
abbrev pub IsEnd : Next → Type 0
IsEnd More = ⊥
IsEnd (Done value) = ⊤
IsEnd (Failed fault) = ⊤

-- one fact of a step that found no memory, and another of any other step
abbrev pub ByMemory : Next → Type 0 → Type 0 → Type 0
ByMemory More memory other = other
ByMemory (Done value) memory other = other
ByMemory (Failed fault) memory other = IfMemory fault memory other

-- A fault that a language's definition may have. It isn't an interruption, which is for whoever runs the cell to tell,
-- nor want of memory, which is for the program.
abbrev pub IsOwnFault : InterpFault → Type 0
IsOwnFault (fault.Syntax place) = ⊤
IsOwnFault fault.Overflow = ⊤
IsOwnFault fault.ZeroDivision = ⊤
IsOwnFault fault.Shift = ⊤
IsOwnFault fault.TooDeep = ⊤
IsOwnFault fault.Interrupted = ⊥
IsOwnFault fault.OutOfMemory = ⊥
IsOwnFault (fault.Raised name value) = ⊤

-- an answer that is no fault, or one that a definition may have
abbrev pub HasOwn : {T : Type 0} → Result T InterpFault → Type 0
HasOwn (Ok answer) = ⊤
HasOwn (Err fault) = IsOwnFault fault

-- if a step failed, then by a fault that a definition may have
abbrev pub FailsOwn : Next → Type 0
FailsOwn More = ⊤
FailsOwn (Done value) = ⊤
FailsOwn (Failed fault) = IsOwnFault fault

-- The laws of an interpreter. A step takes one from the steps that are left. A step that leaves none ends the cell. No
-- definition has a fault that isn't its own.
pub record Laws {State Cell : Type 0} (m : Meaning State Cell) : Type 0 where
  pub lessened : (state : State) (cell : Cell) (stepped : Stepped) (after : State) (left : Cell)
      → m.runs state cell stepped after left → m.steps cell ≡ suc (m.steps left)
  pub ended : (state : State) (cell : Cell) (stepped : Stepped) (after : State) (left : Cell)
      → m.runs state cell stepped after left → m.steps left ≡ 0 → IsEnd stepped.next
  pub own_info : (state : State) (answer : Result Info InterpFault) → m.tells state answer → HasOwn answer
  pub own_begin : (state : State) (text : List ℕ) (answer : Result Cell InterpFault) (after : State)
      → m.begins state text answer after → HasOwn answer
  pub own_step : (state : State) (cell : Cell) (stepped : Stepped) (after : State) (left : Cell)
      → m.runs state cell stepped after left → FailsOwn stepped.next
  pub own_completion : (state : State) (text : List ℕ) (cursor : ℕ) (answer : Result Completion InterpFault)
      → m.completes state text cursor answer → HasOwn answer
  pub own_inspection : (state : State) (text : List ℕ) (cursor : ℕ) (answer : Result (Option (List ℕ)) InterpFault)
      → m.inspects state text cursor answer → HasOwn answer
  pub own_judgement : (state : State) (text : List ℕ) (answer : Result Completeness InterpFault)
      → m.judges state text answer → HasOwn answer
  pub own_evaluation : (state : State) (text : List ℕ) (answer : Result (List ℕ) InterpFault) (after : State)
      → m.evaluates state text answer after → HasOwn answer

-- each definition of a language has at most one value
pub record HasOneValue {State Cell : Type 0} (m : Meaning State Cell) : Type 0 where
  pub one_info : (state : State) (a b : Result Info InterpFault) → m.tells state a → m.tells state b → a ≡ b
  pub one_begin : (state : State) (text : List ℕ) (a b : Result Cell InterpFault) (after other : State)
      → m.begins state text a after → m.begins state text b other → (a ≡ b) × (after ≡ other)
  pub one_step : (state : State) (cell : Cell) (a b : Stepped) (after other : State) (left rest : Cell)
      → m.runs state cell a after left → m.runs state cell b other rest → (a ≡ b) × (after ≡ other) × (left ≡ rest)
  pub one_completion : (state : State) (text : List ℕ) (cursor : ℕ) (a b : Result Completion InterpFault)
      → m.completes state text cursor a → m.completes state text cursor b → a ≡ b
  pub one_inspection : (state : State) (text : List ℕ) (cursor : ℕ) (a b : Result (Option (List ℕ)) InterpFault)
      → m.inspects state text cursor a → m.inspects state text cursor b → a ≡ b
  pub one_judgement : (state : State) (text : List ℕ) (a b : Result Completeness InterpFault) → m.judges state text a
      → m.judges state text b → a ≡ b
  pub one_evaluation : (state : State) (text : List ℕ) (a b : Result (List ℕ) InterpFault) (after other : State)
      → m.evaluates state text a after → m.evaluates state text b other → (a ≡ b) × (after ≡ other)
