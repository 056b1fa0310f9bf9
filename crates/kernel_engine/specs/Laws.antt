-- Laws of what one request makes of a kernel: each course has one outcome at most.
use Rattle.std.specs.Prelude.{◌≡◌, ℕ, List}
use Rattle.interp_core.specs.Interpreter.{Meaning}
use Rattle.jmsg_types.specs.declared.publication.Publication.{Publication}
use Rattle.kernel_engine.specs.declared.does.Does.{Does}
use Rattle.kernel_engine.specs.Course.{Course}
use Rattle.kernel_engine.specs.Publications.{Publishes}
use Rattle.kernel_engine.specs.Answer.{Answer, AnswersRequest}

-- law: by one course, in one state and at one execution count, there is one list at most of what is published of a
-- request
abbrev pub PublishesOnce : {State Cell : Type 0} → Meaning State Cell → Type 0
PublishesOnce {State} m =
    (does : Does) (state : State) (count : ℕ) (course : Course State) (one other : List Publication)
    → Publishes m does state count course one → Publishes m does state count course other → one ≡ other

-- law: by one course, in one state and at one execution count, there is one answer at most to a request
abbrev pub AnswersOnce : {State Cell : Type 0} → Meaning State Cell → Type 0
AnswersOnce {State} m =
    (does : Does) (state : State) (count : ℕ) (course : Course State) (one other : Answer State)
    → AnswersRequest m does state count course one → AnswersRequest m does state count course other → one ≡ other
