-- A request that is answered and published, by how far its publications came.
use Rattle.std.specs.Prelude.{◌≡◌, ◌⊎◌, ℕ, List, [], ◌++◌, Bool, Some}
use Rattle.interp_core.specs.Interpreter.{Meaning}
use Rattle.jmsg_types.specs.declared.publication.Publication.{Publication}
use Rattle.jmsg_types.specs.declared.reply.Reply.{Reply}
use Rattle.kernel_engine.specs.declared.respond.Answered.{Answered}
use Rattle.kernel_engine.specs.declared.does.Does.{Does}
use Rattle.kernel_engine.specs.Answer.{Answer, AnswersRequest, AnswersCell, Leaves, LeavesCell, plain}
use Rattle.kernel_engine.specs.Course.{Course, MayEnd}
use Rattle.kernel_engine.specs.Publications.{Publishes, PublishesUnless}
use Rattle.kernel_engine.specs.Runs.{MayBeCut}

-- A cell was run and answered by a course, and all that is published of it was.
pub record ExecutedWhole {State Cell : Type 0} (m : Meaning State Cell) (may : Type 0) (silent : Bool) (code : List ℕ)
    (expressions : List (List ℕ × List ℕ)) (count : ℕ) (state : State) (reply : Reply) (after : State)
    (Grew : List Publication → Type 0) : Type 0 where
  pub course : Course State
  pub publications : List Publication
  pub publishes : PublishesUnless silent m code count state course publications
  pub answers : AnswersCell m code expressions count state course (plain after count (Some reply))
  pub ending : MayEnd may course.ending
  pub grew : Grew publications

-- A cell was run by a course, and a beginning of what is published of it was published.
pub record ExecutedCut {State Cell : Type 0} (m : Meaning State Cell) (may : Type 0) (silent : Bool) (code : List ℕ)
    (expressions : List (List ℕ × List ℕ)) (count : ℕ) (state : State) (after : State)
    (Grew : List Publication → Type 0) : Type 0 where
  pub course : Course State
  pub publications : List Publication
  pub front : List Publication
  pub rest : List Publication
  pub publishes : PublishesUnless silent m code count state course publications
  pub whole : publications ≡ front ++ rest
  pub leaves : LeavesCell m code expressions state course after
  pub ending : MayBeCut may course.ending publications rest
  pub grew : Grew front

-- what was answered, with the state and the execution count then
abbrev pub answer_of : {State : Type 0} → Answered → State → ℕ → Answer State
answer_of answered state count = record {
  reply = answered.reply;
  state = state;
  count = count;
  order = answered.order;
}

-- A request was answered by a course, and all that is published of it was.
pub record RespondsWhole {State Cell : Type 0} (m : Meaning State Cell) (does : Does) (may : Type 0) (state : State)
    (count : ℕ) (answer : Answer State)
    (Grew : List Publication → Type 0) : Type 0 where
  pub course : Course State
  pub publications : List Publication
  pub publishes : Publishes m does state count course publications
  pub answers : AnswersRequest m does state count course answer
  pub ending : MayEnd may course.ending
  pub grew : Grew publications

-- Memory was refused. A beginning of what is published of the request was published, and this state and this count are
-- left.
pub record RespondsPart {State Cell : Type 0} (m : Meaning State Cell) (does : Does) (may : Type 0)
    (state : State) (count : ℕ) (after : State) (left : ℕ) (Grew : List Publication → Type 0) : Type 0 where
  pub course : Course State
  pub publications : List Publication
  pub front : List Publication
  pub rest : List Publication
  pub publishes : Publishes m does state count course publications
  pub whole : publications ≡ front ++ rest
  pub leaves : Leaves m does state count course after left
  pub ending : MayBeCut may course.ending publications rest
  pub grew : Grew front

-- Memory was refused before anything of the request was done.
pub record RespondsNot {State : Type 0} (state : State) (count : ℕ) (after : State) (left : ℕ)
    (Grew : List Publication → Type 0) : Type 0 where
  pub same : after ≡ state
  pub counted : left ≡ count
  pub grew : Grew []

-- Memory was refused while a request was done, or before. The arguments are those of the two definitions above.
abbrev pub RespondsCut : {State Cell : Type 0} → Meaning State Cell → Does → Type 0 → State → ℕ
    → State → ℕ → (List Publication → Type 0) → Type 0
RespondsCut m does may state count after left Grew =
    RespondsNot state count after left Grew ⊎ RespondsPart m does may state count after left Grew
