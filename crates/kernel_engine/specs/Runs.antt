-- A cell that runs and is published, by how far its publications came.
use Rattle.std.specs.Prelude.{◌≡◌, ◌≢◌, ◌⊎◌, ⊤, ℕ, List, [], ◌∷◌, ◌++◌, map, Bool, Option, Some, None, Ok, Err}
use Rattle.interp_core.specs.Interpreter.{Meaning}
use Rattle.interp_core.specs.declared.answer.Output.{Output}
use Rattle.interp_core.specs.declared.answer.Stepped.{Stepped}
use Rattle.interp_core.specs.declared.fault.InterpFault.{InterpFault}
use Rattle.jmsg_types.specs.declared.publication.Publication.{Publication}
use Rattle.jmsg_types.specs.declared.publication.Publication.TheVariants.{ExecuteInput}
use Rattle.kernel_engine.specs.Course.{Course, Ending, own, interrupted, memory, Outcome, Goes, MayEnd, outputs_of}
use Rattle.kernel_engine.specs.Publications.{publication_of, last_of}
use Rattle.kernel_engine.specs.Growth.{InFront, unless_silent}

-- A cell ran by a course, and all that it wrote was published. The course ends by an interruption only if one may come.
pub record RunsWhole {State : Type 0} (Runs : Course State → List Output → Outcome → State → Type 0) (may : Type 0)
    (outcome : Outcome) (after : State) (Grew : List Publication → Type 0) (silent : Bool) : Type 0 where
  pub course : Course State
  pub outputs : List Output
  pub runs : Runs course outputs outcome after
  pub ending : MayEnd may course.ending
  pub grew : Grew (unless_silent silent (map publication_of outputs))

-- A cell ran by a course, and a beginning of what it wrote was published.
pub record RunsCut {State : Type 0} (Runs : Course State → List Output → Outcome → State → Type 0) (after : State)
    (Grew : List Publication → Type 0) (silent : Bool) : Type 0 where
  pub course : Course State
  pub outputs : List Output
  pub outcome : Outcome
  pub runs : Runs course outputs outcome after
  pub grew : InFront Grew silent (map publication_of outputs)

-- Steps ran that left more to run, and all that they wrote was published.
pub record Underway {State Cell : Type 0} (m : Meaning State Cell) (state : State) (cell : Cell) (at : State)
    (left : Cell) (Grew : List Publication → Type 0) (silent : Bool) : Type 0 where
  pub steps : List Stepped
  pub goes : Goes m state cell steps at left
  pub grew : Grew (unless_silent silent (map publication_of (outputs_of steps)))

-- A course may end so if its publications were cut and `rest` wasn't published. It ends by an interruption only if one
-- may come, or if the error that tells of it wasn't published.
abbrev pub MayBeCut : {State : Type 0} → Type 0 → Ending State → List Publication → List Publication → Type 0
MayBeCut may own publications rest = ⊤
MayBeCut may interrupted publications rest = may ⊎ ((rest ≢ []) ⊎ (publications ≡ []))
MayBeCut may (memory left) publications rest = ⊤

-- why a cell failed, by what came of it
abbrev pub failure_of : Outcome → Option InterpFault
failure_of (Ok value) = None
failure_of (Err fault) = Some fault

-- what is published of a cell in all
abbrev pub cell_publications : List ℕ → ℕ → List Output → Outcome → List Publication
cell_publications code count outputs outcome =
    ExecuteInput code count ∷ (map publication_of outputs ++ last_of count outcome)

-- A cell ran by a course, and all that is published of it was published.
pub record TellsWhole {State : Type 0} (Runs : Course State → List Output → Outcome → State → Type 0) (may : Type 0)
    (code : List ℕ) (count : ℕ) (failure : Option InterpFault) (after : State) (Grew : List Publication → Type 0)
    (silent : Bool) : Type 0 where
  pub course : Course State
  pub outputs : List Output
  pub outcome : Outcome
  pub runs : Runs course outputs outcome after
  pub ending : MayEnd may course.ending
  pub failure_is : failure ≡ failure_of outcome
  pub grew : Grew (unless_silent silent (cell_publications code count outputs outcome))

-- A cell ran by a course, and a beginning of what is published of it was published.
pub record TellsCut {State : Type 0} (Runs : Course State → List Output → Outcome → State → Type 0) (may : Type 0)
    (code : List ℕ) (count : ℕ) (after : State) (Grew : List Publication → Type 0) (silent : Bool) : Type 0 where
  pub course : Course State
  pub outputs : List Output
  pub outcome : Outcome
  pub runs : Runs course outputs outcome after
  pub grew : InFront Grew silent (cell_publications code count outputs outcome)
  pub ending : MayBeCut may course.ending (cell_publications code count outputs outcome) grew.rest
