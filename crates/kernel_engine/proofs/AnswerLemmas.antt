-- What a request leaves that was answered, and how far it counts.
use Rattle.std.proofs.Common.{arith, ◌≡◌, inl, ℕ, ◌+◌, ◌≤◌, List, [], Bool, true, false, Ok, Err}
use Rattle.std.proofs.Common.{sym, ap}
use Rattle.std.proofs.lemmas.List.{append-nil}
use Rattle.interp_core.specs.Interpreter.{Meaning}
use Rattle.kernel_engine.specs.declared.does.Does.{Does}
use Rattle.kernel_engine.specs.declared.does.Does.TheVariants.{Says, Looks, Runs, Refuses, Unread}
use Rattle.kernel_engine.specs.Answer.{Answer, AnswersRequest, RepliesCell, Leaves}
use Rattle.kernel_engine.specs.Answer.{LeavesExpressions}
use Rattle.kernel_engine.specs.Course.{Course, Outcome}
use Rattle.kernel_engine.specs.Publications.{count_after}

module _ {State Cell : Type 0} (m : Meaning State Cell) where
  -- the expressions behind a cell that was answered
  answered_expressions : (expressions : List (List ℕ × List ℕ)) (count : ℕ) (outcome : Outcome) (at : State)
      (answer : Answer State) → RepliesCell m expressions count outcome at answer
      → LeavesExpressions m expressions outcome at answer.state
  answered_expressions expressions count (Ok value) at answer replies = record {
    front = expressions;
    rest = [];
    whole = sym (append-nil expressions);
    values = replies.values;
    at = replies.after;
    evaluates = replies.evaluates;
    left = inl (ap (λ (a : Answer State). a.state) replies.all);
  }
  answered_expressions expressions count (Err fault) at answer replies = ap (λ (a : Answer State). a.state) replies

  -- the count behind a cell that was answered
  answered_count : (expressions : List (List ℕ × List ℕ)) (count : ℕ) (outcome : Outcome) (at : State)
      (answer : Answer State) → RepliesCell m expressions count outcome at answer → answer.count ≡ count
  answered_count expressions count (Ok value) at answer replies = ap (λ (a : Answer State). a.count) replies.all
  answered_count expressions count (Err fault) at answer replies = ap (λ (a : Answer State). a.count) replies

  module _ (state : State) (count : ℕ) (course : Course State) (answer : Answer State) where
    -- an answer that is told leaves what it says
    same_state : (a : Answer State) → answer ≡ a → (answer.state ≡ a.state) × (answer.count ≡ a.count)
    same_state a is = (ap (λ (b : Answer State). b.state) is, ap (λ (b : Answer State). b.count) is)

    -- what a request leaves that was answered
    pub leaves_answered : (does : Does) → AnswersRequest m does state count course answer
        → Leaves m does state count course answer.state answer.count
    leaves_answered (Says publication reply order) is = same_state _ is
    leaves_answered (Looks look) (reply, finds, is) = same_state _ is
    leaves_answered (Runs code silent counts expressions) answers = (
      answered_count expressions (count_after counts count) answers.outcome answers.after answer answers.replies,
      record {
        outputs = answers.outputs;
        outcome = answers.outcome;
        at = answers.after;
        runs = answers.runs;
        left = answered_expressions expressions (count_after counts count) answers.outcome answers.after answer
            answers.replies;
      },
    )
    leaves_answered (Refuses kind ename evalue) is = same_state _ is
    leaves_answered Unread never = absurd never

  module _ (state : State) (count : ℕ) (course : Course State) (after : State) (left : ℕ) where
    -- a cell counts at most once
    grown_once : (store_history : Bool) → count_after store_history count ≤ count + 1
    grown_once true = omega arith
    grown_once false = omega arith

    -- a request counts at most once
    pub counted_once : (does : Does) → Leaves m does state count course after left → left ≤ count + 1
    counted_once (Says publication reply order) (same, is) = omega (arith, is)
    counted_once (Looks look) (same, is) = omega (arith, is)
    counted_once (Runs code silent counts expressions) (is, leaves) =
        let once = grown_once counts in omega (arith, is, once)
    counted_once (Refuses kind ename evalue) (same, is) = omega (arith, is)
    counted_once Unread (same, is) = omega (arith, is)
