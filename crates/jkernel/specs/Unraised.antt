-- A language that raises no fault of its own: each of its faults is one that the interface names.
use Rattle.std.specs.Prelude.{⊤, ℕ, List, Option, Result, Ok, Err}
use Rattle.interp_core.specs.declared.fault.InterpFault.{InterpFault}
use Rattle.interp_core.specs.declared.fault.InterpFault.TheVariants as fault
use Rattle.interp_core.specs.declared.answer.Completeness.{Completeness}
use Rattle.interp_core.specs.declared.answer.Completion.{Completion}
use Rattle.interp_core.specs.declared.answer.Info.{Info}
use Rattle.interp_core.specs.declared.answer.Next.{Next}
use Rattle.interp_core.specs.declared.answer.Next.TheVariants.{More, Done, Failed}
use Rattle.interp_core.specs.declared.answer.Stepped.{Stepped}
use Rattle.interp_core.specs.Interpreter.{Meaning}

-- a fault isn't one that a language raises, 57
abbrev pub IsUnraised : InterpFault → Type 0
IsUnraised (fault.Syntax place) = ⊤
IsUnraised fault.Overflow = ⊤
IsUnraised fault.ZeroDivision = ⊤
IsUnraised fault.Shift = ⊤
IsUnraised fault.TooDeep = ⊤
IsUnraised fault.Interrupted = ⊤
IsUnraised fault.OutOfMemory = ⊤
IsUnraised (fault.Raised name value) = ⊥

-- an answer is no fault, or one that isn't raised
abbrev pub HasUnraised : {T : Type 0} → Result T InterpFault → Type 0
HasUnraised (Ok answer) = ⊤
HasUnraised (Err fault) = IsUnraised fault

-- a step didn't fail, or by a fault that isn't raised
abbrev pub FailsUnraised : Next → Type 0
FailsUnraised More = ⊤
FailsUnraised (Done value) = ⊤
FailsUnraised (Failed fault) = IsUnraised fault

-- no definition of a language has a fault that is raised
pub record NeverRaises {State Cell : Type 0} (m : Meaning State Cell) : Type 0 where
  pub info : (state : State) (answer : Result Info InterpFault) → m.tells state answer → HasUnraised answer
  pub begin : (state : State) (text : List ℕ) (answer : Result Cell InterpFault) (after : State)
      → m.begins state text answer after → HasUnraised answer
  pub step : (state : State) (cell : Cell) (stepped : Stepped) (after : State) (left : Cell)
      → m.runs state cell stepped after left → FailsUnraised stepped.next
  pub completion : (state : State) (text : List ℕ) (cursor : ℕ) (answer : Result Completion InterpFault)
      → m.completes state text cursor answer → HasUnraised answer
  pub inspection : (state : State) (text : List ℕ) (cursor : ℕ) (answer : Result (Option (List ℕ)) InterpFault)
      → m.inspects state text cursor answer → HasUnraised answer
  pub judgement : (state : State) (text : List ℕ) (answer : Result Completeness InterpFault)
      → m.judges state text answer → HasUnraised answer
  pub evaluation : (state : State) (text : List ℕ) (answer : Result (List ℕ) InterpFault) (after : State)
      → m.evaluates state text answer after → HasUnraised answer
