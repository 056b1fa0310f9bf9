-- Requests that are answered at once.
use Rattle.std.proofs.Common.{◌≡◌, inl, inr, ℕ, List, [], Bool, Option, Some, Result, Ok, Err, IfOk, MatchResult}
use Rattle.std.proofs.Common.{option_to_list, refl, ap}
use Rattle.std.specs.declared.alloc.AllocError.{AllocError}
use Rattle.interp_core.specs.Interpreter.{Meaning}
use Rattle.jmsg_types.specs.declared.publication.Publication.{Publication}
use Rattle.jmsg_types.specs.declared.reply.Reply.{Reply}
use Rattle.kernel_engine.specs.declared.does.Does.{Does}
use Rattle.kernel_engine.specs.declared.does.Does.TheVariants.{Says, Looks, Runs}
use Rattle.kernel_engine.specs.declared.does.Look.{Look}
use Rattle.kernel_engine.specs.declared.does.Order.{Order}
use Rattle.kernel_engine.specs.declared.does.Order.TheVariants.{GoOn}
use Rattle.kernel_engine.specs.declared.respond.Answered.{Answered}
use Rattle.kernel_engine.specs.Answer.{Answer, AnswersRequest, Finds}
use Rattle.kernel_engine.specs.Course.{Course, own}
use Rattle.kernel_engine.specs.Publications.{Publishes, count_after}
use Rattle.kernel_engine.specs.Responds.{ExecutedCut, ExecutedWhole, RespondsCut, RespondsWhole, answer_of}

-- the course of a request that runs no cell
abbrev pub no_course : {State : Type 0} → Course State
no_course = record { steps = 0; ending = own }

-- a request that runs no cell
pub responds_at_once : {State Cell : Type 0} (m : Meaning State Cell) (does : Does) (may : Type 0) (state : State)
    (count : ℕ) (answer : Answer State) (Grew : List Publication → Type 0) (publications : List Publication)
    → Publishes m does state count no_course publications → AnswersRequest m does state count no_course answer
    → Grew publications → RespondsWhole m does may state count answer Grew
responds_at_once m does may state count answer Grew publications publishes answers grew = record {
  course = no_course;
  publications = publications;
  publishes = publishes;
  answers = answers;
  ending = tt;
  grew = grew;
}

-- what is said at once, or memory was refused
pub said_at_once : {State Cell : Type 0} (m : Meaning State Cell) (publication : Option Publication)
    (reply : Option Reply) (order : Order) (may : Type 0) (state : State) (count : ℕ)
    (result : Result Answered AllocError) (Grew : List Publication → Type 0)
    → MatchResult result
    (λ answered. (answered ≡ record { reply = reply; order = order }) × Grew (option_to_list publication))
    (λ _. Grew [])
    → MatchResult result
    (λ answered. RespondsWhole m (Says publication reply order) may state count (answer_of answered state count) Grew)
    (λ _. RespondsCut m (Says publication reply order) may state count state count Grew)
said_at_once m publication reply order may state count (Ok answered) Grew (is, grew) =
    responds_at_once m (Says publication reply order) may state count (answer_of answered state count) Grew
    (option_to_list publication) refl (ap (λ (a : Answered). answer_of a state count) is) grew
said_at_once m publication reply order may state count (Err refused) Grew grew =
    inl (record { same = refl; counted = refl; grew = grew })

-- what the language is asked is answered, or memory was refused
pub looked_at_once : {State Cell : Type 0} (m : Meaning State Cell) (look : Look) (may : Type 0) (state : State)
    (count : ℕ) (result : Result Answered AllocError) (Grew : List Publication → Type 0)
    → IfOk result (λ answered. (reply : Reply) × Finds m state look reply
    × (answered ≡ record { reply = Some reply; order = GoOn })) → Grew []
    → MatchResult result
    (λ answered. RespondsWhole m (Looks look) may state count (answer_of answered state count) Grew)
    (λ _. RespondsCut m (Looks look) may state count state count Grew)
looked_at_once m look may state count (Ok answered) Grew (reply, finds, is) grew =
    responds_at_once m (Looks look) may state count (answer_of answered state count) Grew [] refl
    (reply, finds, ap (λ (a : Answered). answer_of a state count) is) grew
looked_at_once m look may state count (Err refused) Grew due grew =
    inl (record { same = refl; counted = refl; grew = grew })

-- a cell is answered, or memory was refused
pub executed_told : {State Cell : Type 0} (m : Meaning State Cell) (code : List ℕ) (silent counts : Bool)
    (expressions : List (List ℕ × List ℕ)) (may : Type 0) (state after : State) (count left : ℕ)
    (result : Result Answered AllocError) (Grew : List Publication → Type 0) → left ≡ count_after counts count
    → MatchResult result
    (λ answered. (reply : Reply) × (answered ≡ record { reply = Some reply; order = GoOn })
    × ExecutedWhole m may silent code expressions (count_after counts count) state reply after Grew)
    (λ _. ExecutedCut m may silent code expressions (count_after counts count) state after Grew)
    → MatchResult result
    (λ answered. RespondsWhole m (Runs code silent counts expressions) may state count
    (answer_of answered after left) Grew)
    (λ _. RespondsCut m (Runs code silent counts expressions) may state count after left Grew)
executed_told m code silent counts expressions may state after count left (Ok answered) Grew counted (reply, is, e) =
    rw (is, counted) (record {
      course = e.course;
      publications = e.publications;
      publishes = e.publishes;
      answers = e.answers;
      ending = e.ending;
      grew = e.grew;
    })
executed_told m code silent counts expressions may state after count left (Err refused) Grew counted e =
    inr (record {
      course = e.course;
      publications = e.publications;
      front = e.front;
      rest = e.rest;
      publishes = e.publishes;
      whole = e.whole;
      leaves = (counted, e.leaves);
      ending = e.ending;
      grew = e.grew;
    })
