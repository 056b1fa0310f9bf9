-- Cells that are run and answered.
use Rattle.std.proofs.Common.{◌≡◌, inl, inr, ℕ, List, [], Bool, true, false, Option, Some, None, Result, Ok, Err}
use Rattle.std.proofs.Common.{IfOk, IfSome, MatchResult, refl, sym, ◌∙◌, subst}
use Rattle.std.specs.declared.alloc.AllocError.{AllocError}
use Rattle.std.proofs.lemmas.List.{append-nil}
use Rattle.interp_core.specs.Interpreter.{Meaning}
use Rattle.interp_core.specs.declared.answer.Output.{Output}
use Rattle.interp_core.specs.Fault.{fault_name, fault_value}
use Rattle.interp_core.specs.declared.fault.InterpFault.{InterpFault}
use Rattle.jmsg_types.specs.declared.publication.Publication.{Publication}
use Rattle.jmsg_types.specs.declared.reply.Reply.{Reply}
use Rattle.jmsg_types.specs.declared.reply.Reply.TheVariants.{ExecuteError}
use Rattle.kernel_engine.specs.Answer.{EvaluatesFront, LeavesExpressions, RepliesCell, plain}
use Rattle.kernel_engine.specs.Course.{Course, Ending, own, interrupted, memory, Outcome, TextRuns}
use Rattle.kernel_engine.specs.Growth.{InFront, unless_silent}
use Rattle.kernel_engine.specs.Responds.{ExecutedCut, ExecutedWhole}
use Rattle.kernel_engine.specs.Runs.{MayBeCut, TellsWhole, TellsCut, failure_of, cell_publications}
use Rattle.kernel_engine.proofs.TellLemmas.{may_be_cut}

module _ {State Cell : Type 0} (m : Meaning State Cell) (code : List ℕ) (expressions : List (List ℕ × List ℕ))
    (count : ℕ) (state : State) (may : Type 0) (Grew : List Publication → Type 0) where
  -- nothing of a silent cell is published, how ever it ended
  cut_silently : (ending : Ending State) → MayBeCut may ending [] []
  cut_silently own = tt
  cut_silently interrupted = inr (inr refl)
  cut_silently (memory left) = tt

  -- what was published of a cell, up to the front part of it
  cut_publications : (silent : Bool) (course : Course State) (at after : State) (outputs : List Output)
      (outcome : Outcome) → TextRuns m state code course outputs outcome at
      → (grew : InFront Grew silent (cell_publications code count outputs outcome))
      → MayBeCut may course.ending (cell_publications code count outputs outcome) grew.rest
      → LeavesExpressions m expressions outcome at after
      → ExecutedCut m may silent code expressions count state after Grew
  cut_publications true course at after outputs outcome runs grew ending left = record {
    course = course;
    publications = [];
    front = [];
    rest = [];
    publishes = refl;
    whole = refl;
    ending = cut_silently course.ending;
    leaves = record { outputs = outputs; outcome = outcome; at = at; runs = runs; left = left };
    grew = grew.grew;
  }
  cut_publications false course at after outputs outcome runs grew ending left = record {
    course = course;
    publications = cell_publications code count outputs outcome;
    front = grew.front;
    rest = grew.rest;
    publishes = record { outputs = outputs; outcome = outcome; after = at; runs = runs; all = refl };
    whole = grew.whole;
    ending = ending;
    leaves = record { outputs = outputs; outcome = outcome; at = at; runs = runs; left = left };
    grew = grew.grew;
  }

  -- a cell leaves what it left where none of its expressions was evaluated
  none_evaluated : (outcome : Outcome) (at : State) → LeavesExpressions m expressions outcome at at
  none_evaluated (Ok value) at = record {
    front = [];
    rest = expressions;
    whole = refl;
    values = [];
    at = at;
    evaluates = (refl, refl);
    left = inl refl;
  }
  none_evaluated (Err fault) at = refl

  -- a beginning of what is published of the cell was
  pub executed_cut : (silent : Bool) (after : State)
      → TellsCut (TextRuns m state code) may code count after Grew silent
      → ExecutedCut m may silent code expressions count state after Grew
  executed_cut silent after cut =
      cut_publications silent cut.course after after cut.outputs cut.outcome cut.runs cut.grew cut.ending
      (none_evaluated cut.outcome after)

  -- all of what is published of a cell is a beginning of it
  all_in_front : (silent : Bool) (publications : List Publication) → Grew (unless_silent silent publications)
      → InFront Grew silent publications
  all_in_front silent publications grew =
      record { front = publications; rest = []; whole = sym (append-nil publications); grew = grew }

  -- what is left where a cell didn't fail
  left_by : (outcome : Outcome) (at after : State) → None ≡ failure_of outcome → EvaluatesFront m at expressions after
      → LeavesExpressions m expressions outcome at after
  left_by (Ok value) at after none front = front
  left_by (Err fault) at after none front =
      absurd (subst (λ (o : Option InterpFault). IfSome o (λ _. ⊥)) none tt)

  -- a front part of the expressions was evaluated
  pub executed_values : (silent : Bool) (at after : State) (failure : Option InterpFault)
      → failure ≡ None → TellsWhole (TextRuns m state code) may code count failure at Grew silent
      → EvaluatesFront m at expressions after → ExecutedCut m may silent code expressions count state after Grew
  executed_values silent at after failure none tells front =
      cut_publications silent tells.course at after tells.outputs tells.outcome tells.runs
      (all_in_front silent _ tells.grew)
      (may_be_cut may tells.course.ending _ _ tells.ending)
      (left_by tells.outcome at after (sym none ∙ tells.failure_is) front)

  -- the cell failed, and its fault had no words
  pub executed_words : (silent : Bool) (at : State) (failure : Option InterpFault)
      → TellsWhole (TextRuns m state code) may code count failure at Grew silent
      → ExecutedCut m may silent code expressions count state at Grew
  executed_words silent at failure tells =
      cut_publications silent tells.course at at tells.outputs tells.outcome tells.runs
      (all_in_front silent _ tells.grew)
      (may_be_cut may tells.course.ending _ _ tells.ending) (none_evaluated tells.outcome at)

  -- what a cell is replied that failed
  replies_fault : (outcome : Outcome) (at : State) (fault : InterpFault) (reply : Reply)
      → Some fault ≡ failure_of outcome → reply ≡ ExecuteError (fault_name fault) (fault_value fault) count
      → RepliesCell m expressions count outcome at (plain at count (Some reply))
  replies_fault (Ok value) at fault reply some is = absurd (let never = some in cc)
  replies_fault (Err found) at fault reply some is =
      let same : fault ≡ found = cc in rw is (rw same refl)

  -- the cell failed, and its fault was told, or memory was refused
  pub executed_fault : (silent : Bool) (at : State) (fault : InterpFault) (failure : Option InterpFault)
      (told : Result Reply AllocError) → failure ≡ Some fault
      → IfOk told (λ reply. reply ≡ ExecuteError (fault_name fault) (fault_value fault) count)
      → TellsWhole (TextRuns m state code) may code count failure at Grew silent
      → MatchResult told (λ reply. ExecutedWhole m may silent code expressions count state reply at Grew)
      (λ _. ExecutedCut m may silent code expressions count state at Grew)
  executed_fault silent at fault failure (Err refused) some is tells = executed_words silent at failure tells
  executed_fault true at fault failure (Ok reply) some is tells = record {
    course = tells.course;
    publications = [];
    publishes = refl;
    answers = record {
      outputs = tells.outputs;
      outcome = tells.outcome;
      after = at;
      runs = tells.runs;
      replies = replies_fault tells.outcome at fault reply (sym some ∙ tells.failure_is) is;
    };
    ending = tells.ending;
    grew = tells.grew;
  }
  executed_fault false at fault failure (Ok reply) some is tells = record {
    course = tells.course;
    publications = cell_publications code count tells.outputs tells.outcome;
    publishes = record {
      outputs = tells.outputs;
      outcome = tells.outcome;
      after = at;
      runs = tells.runs;
      all = refl;
    };
    answers = record {
      outputs = tells.outputs;
      outcome = tells.outcome;
      after = at;
      runs = tells.runs;
      replies = replies_fault tells.outcome at fault reply (sym some ∙ tells.failure_is) is;
    };
    ending = tells.ending;
    grew = tells.grew;
  }
