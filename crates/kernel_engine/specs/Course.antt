-- How the cell of a request runs ('Messaging in Jupyter' 5.3, "Execute"): step by step to its own end, or up to an
-- interruption, or until no memory is found.
use Rattle.std.specs.Prelude.{◌≡◌, ◌⊎◌, ⊤, ◌<◌, ℕ, ◌+◌, List, [], ◌∷◌, ◌++◌, length, Option, None, Result, Ok, Err}
use Rattle.std.specs.List.{flat_map}
use Rattle.interp_core.specs.Interpreter.{Meaning}
use Rattle.interp_core.specs.declared.answer.Next.{Next}
use Rattle.interp_core.specs.declared.answer.Next.TheVariants.{More, Done, Failed}
use Rattle.interp_core.specs.declared.answer.Output.{Output}
use Rattle.interp_core.specs.declared.answer.Stepped.{Stepped}
use Rattle.interp_core.specs.declared.fault.InterpFault.{InterpFault}
use Rattle.interp_core.specs.declared.fault.InterpFault.TheVariants.{Interrupted, OutOfMemory}

-- How a course ends: as the cell itself does, by an interruption before a further step, or by a step that found no
-- memory and left this state.
pub data Ending (State : Type 0) : Type 0 where
  own : Ending State
  interrupted : Ending State
  memory : State → Ending State

-- The course of a request: how many steps of its cell ran, and how it ended.
pub record Course (State : Type 0) : Type 0 where
  pub steps : ℕ
  pub ending : Ending State

-- what came of a cell: its last value or none, or why it failed
abbrev pub Outcome : Type 0
Outcome = Result (Option (List ℕ)) InterpFault

-- what came of a cell by its last step
abbrev pub IsOutcome : Next → Outcome → Type 0
IsOutcome More outcome = ⊥
IsOutcome (Done value) outcome = outcome ≡ Ok value
IsOutcome (Failed fault) outcome = outcome ≡ Err fault

-- what steps wrote, in their order
abbrev pub outputs_of : List Stepped → List Output
outputs_of steps = flat_map (λ step. step.outputs) steps

-- Each definition from here on speaks of a run. It says by which language, from what it begins, and what it comes to.
-- That is what was written, what came of the cell, and the state then. So they have one argument for each of these.
module _ {State Cell : Type 0} where
  -- Steps run one after the other, and after each there is more to run. They lead from a state and a cell to a state
  -- and what is left of the cell.
  abbrev pub Goes : Meaning State Cell → State → Cell → List Stepped → State → Cell → Type 0
  Goes m state cell [] after left = (after ≡ state) × (left ≡ cell)
  Goes m state cell (step ∷ steps) after left =
      (next : State) × (rest : Cell) × m.runs state cell step next rest × (step.next ≡ More)
      × Goes m next rest steps after left

  -- no step is left: the cell is done, without a value
  pub record HasNoStep (m : Meaning State Cell) (state : State) (cell : Cell) (outputs : List Output)
      (outcome : Outcome) (after : State) : Type 0 where
    pub done : m.steps cell ≡ 0
    pub quiet : outputs ≡ []
    pub outcome_is : outcome ≡ Ok None
    pub same : after ≡ state

  -- one more step runs, and it is the last: the cell is done, or it failed
  pub record RunsLast (m : Meaning State Cell) (state : State) (cell : Cell) (outputs : List Output)
      (outcome : Outcome) (after : State) : Type 0 where
    pub step : Stepped
    pub left : Cell
    pub runs : m.runs state cell step after left
    pub outputs_are : outputs ≡ step.outputs
    pub outcome_is : IsOutcome step.next outcome

  -- a further step was due, and the cell was interrupted before it
  pub record IsInterrupted (m : Meaning State Cell) (state : State) (cell : Cell) (outputs : List Output)
      (outcome : Outcome) (after : State) : Type 0 where
    pub more : 0 < m.steps cell
    pub quiet : outputs ≡ []
    pub outcome_is : outcome ≡ Err Interrupted
    pub same : after ≡ state

  -- a further step was due, and it found no memory
  pub record CourseIsBrokenOff (m : Meaning State Cell) (state : State) (cell : Cell) (outputs : List Output)
      (outcome : Outcome) (after : State) : Type 0 where
    pub more : 0 < m.steps cell
    pub quiet : outputs ≡ []
    pub outcome_is : outcome ≡ Err OutOfMemory
    pub breaks_off : m.breaks_off state cell after

  -- How a course ends, from a state and a cell on, in which so many steps still run. It says what is still written,
  -- what came of the cell, and the state then.
  abbrev pub Ends : Meaning State Cell → Ending State → ℕ → State → Cell → List Output → Outcome → State → Type 0
  Ends m own count state cell outputs outcome after =
      ((count ≡ 0) × HasNoStep m state cell outputs outcome after)
      ⊎ ((count ≡ 1) × RunsLast m state cell outputs outcome after)
  Ends m interrupted count state cell outputs outcome after =
      (count ≡ 0) × IsInterrupted m state cell outputs outcome after
  Ends m (memory left) count state cell outputs outcome after =
      (count ≡ 0) × (left ≡ after) × CourseIsBrokenOff m state cell outputs outcome after

  -- A cell runs by a course: what it writes, what comes of it, and the state then.
  pub record CellRuns (m : Meaning State Cell) (state : State) (cell : Cell) (course : Course State)
      (outputs : List Output) (outcome : Outcome) (after : State) : Type 0 where
    pub steps : List Stepped
    pub at : State
    pub left : Cell
    pub goes : Goes m state cell steps at left
    pub more : ℕ
    pub last : List Output
    pub ends : Ends m course.ending more at left last outcome after
    pub steps_are : course.steps ≡ length steps + more
    pub outputs_are : outputs ≡ outputs_of steps ++ last

  -- the text is no cell: it fails with its fault, and no step runs
  pub record IsNoCell (m : Meaning State Cell) (state : State) (code : List ℕ) (course : Course State)
      (outputs : List Output) (outcome : Outcome) (after : State) : Type 0 where
    pub fault : InterpFault
    pub refused : m.begins state code (Err fault) after
    pub course_is : course ≡ record { steps = 0; ending = own }
    pub quiet : outputs ≡ []
    pub outcome_is : outcome ≡ Err fault

  -- the text is a cell, which runs
  pub record BeginsCell (m : Meaning State Cell) (state : State) (code : List ℕ) (course : Course State)
      (outputs : List Output) (outcome : Outcome) (after : State) : Type 0 where
    pub cell : Cell
    pub at : State
    pub begins : m.begins state code (Ok cell) at
    pub runs : CellRuns m at cell course outputs outcome after

-- no memory was found to read the text as a cell, and the state stays as it was
pub record IsUnread {State : Type 0} (state : State) (course : Course State) (outputs : List Output)
    (outcome : Outcome) (after : State) : Type 0 where
  pub course_is : course ≡ record { steps = 0; ending = memory state }
  pub quiet : outputs ≡ []
  pub outcome_is : outcome ≡ Err OutOfMemory
  pub same : after ≡ state

-- The cell of a text runs by a course: what it writes, what comes of it, and the state then.
abbrev pub TextRuns : {State Cell : Type 0} → Meaning State Cell → State → List ℕ → Course State → List Output → Outcome
    → State → Type 0
TextRuns m state code course outputs outcome after =
    IsNoCell m state code course outputs outcome after
    ⊎ (IsUnread state course outputs outcome after ⊎ BeginsCell m state code course outputs outcome after)

-- A course may end so. It may end by an interruption only if one may come.
abbrev pub MayEnd : {State : Type 0} → Type 0 → Ending State → Type 0
MayEnd may own = ⊤
MayEnd may interrupted = may
MayEnd may (memory left) = ⊤
