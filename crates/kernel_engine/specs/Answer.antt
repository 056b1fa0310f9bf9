-- What a request is answered ('Messaging in Jupyter' 5.3, "Messages on the shell (ROUTER/DEALER) channel" and "Messages
-- on the control (ROUTER/DEALER) channel"): its reply, and what it leaves.
use Rattle.std.specs.Prelude.{◌≡◌, ◌⊎◌, ℕ, List, [], ◌∷◌, ◌++◌}
use Rattle.std.specs.Prelude.{Option, Some, None, Result, Ok, Err}
use Rattle.interp_core.specs.Interpreter.{Meaning}
use Rattle.interp_core.specs.Fault.{fault_name, fault_value}
use Rattle.interp_core.specs.declared.answer.Completeness.{Completeness}
use Rattle.interp_core.specs.declared.answer.Completeness.TheVariants as judged
use Rattle.interp_core.specs.declared.answer.Completion.{Completion}
use Rattle.interp_core.specs.declared.answer.Info.{Info}
use Rattle.interp_core.specs.declared.answer.Output.{Output}
use Rattle.interp_core.specs.declared.fault.InterpFault.{InterpFault}
use Rattle.jmsg_types.specs.Request.{row_of}
use Rattle.jmsg_types.specs.declared.message_type.ErrorForm.{ErrorForm}
use Rattle.jmsg_types.specs.declared.message_type.ErrorForm.TheVariants.{NoError, Plain, Counted}
use Rattle.jmsg_types.specs.declared.message_type.MessageType.{MessageType}
use Rattle.jmsg_types.specs.declared.reply.Reply.{Reply}
use Rattle.jmsg_types.specs.declared.reply.Reply.TheVariants as tells
use Rattle.jmsg_types.specs.declared.reply.Shown.{Shown}
use Rattle.jmsg_types.specs.declared.reply.Shown.TheVariants as shows
use Rattle.jmsg_types.specs.declared.reply.Verdict.{Verdict}
use Rattle.jmsg_types.specs.declared.reply.Verdict.TheVariants.{Complete, Incomplete, Invalid}
use Rattle.kernel_engine.specs.declared.does.Does.{Does}
use Rattle.kernel_engine.specs.declared.does.Does.TheVariants.{Says, Looks, Runs, Refuses, Unread}
use Rattle.kernel_engine.specs.declared.does.Look.{Look}
use Rattle.kernel_engine.specs.declared.does.Look.TheVariants as looks
use Rattle.kernel_engine.specs.declared.does.Order.{Order}
use Rattle.kernel_engine.specs.declared.does.Order.TheVariants.{GoOn}
use Rattle.kernel_engine.specs.Course.{Course, Outcome, TextRuns}
use Rattle.kernel_engine.specs.Publications.{count_after}

-- What a request is answered: the content of its reply, if it has one, the state and the execution count then, and what
-- the kernel is to do.
pub record Answer (State : Type 0) : Type 0 where
  pub reply : Option Reply
  pub state : State
  pub count : ℕ
  pub order : Order

-- a reply, if there is one, and nothing that the kernel is to do
abbrev pub plain : {State : Type 0} → State → ℕ → Option Reply → Answer State
plain state count reply = record { reply = reply; state = state; count = count; order = GoOn }

-- the error that replies to a refused request, in a form ("Request-Reply")
abbrev pub error_in : ErrorForm → ℕ → List ℕ → List ℕ → Option Reply
error_in NoError count ename evalue = None
error_in Plain count ename evalue = Some (tells.Error ename evalue)
error_in Counted count ename evalue = Some (tells.ExecuteError ename evalue count)

-- the error that replies to a type of message
abbrev pub error_reply_to : MessageType → ℕ → List ℕ → List ℕ → Option Reply
error_reply_to kind count ename evalue = error_in (row_of kind).error count ename evalue

-- the reply that tells what the interpreter answered, or its fault
abbrev pub reply_by : {A : Type 0} → (A → Reply) → Result A InterpFault → Reply
reply_by reply (Ok answer) = reply answer
reply_by reply (Err fault) = tells.Error (fault_name fault) (fault_value fault)

-- what the language says of itself, as a reply ("Kernel info")
abbrev pub info_reply : Info → Reply
info_reply info = tells.KernelInfo info.banner info.file_extension info.mimetype info.name info.version

-- how a word may go on, as a reply ("Completion")
abbrev pub completion_reply : Completion → Reply
completion_reply completion = tells.Complete completion.matches completion.start completion.end

-- whether a text is a whole cell, as a reply tells it ("Code completeness")
abbrev pub verdict_of : Completeness → Verdict
verdict_of judged.Complete = Complete
verdict_of judged.Incomplete = Incomplete
verdict_of judged.Invalid = Invalid

-- whether a text is a whole cell, as the content of a reply
abbrev pub completeness_reply : Completeness → Reply
completeness_reply completeness = tells.IsComplete (verdict_of completeness)

-- what a user expression came to, as a reply tells it ("Execute")
abbrev pub shown_of : Result (List ℕ) InterpFault → Shown
shown_of (Ok text) = shows.Text text
shown_of (Err fault) = shows.Fault (fault_name fault) (fault_value fault)

-- user expressions are evaluated one after the other: what each came to, by its name, and the state then
abbrev pub Evaluates : {State Cell : Type 0} → Meaning State Cell → State → List (List ℕ × List ℕ)
    → List (List ℕ × Shown) → State → Type 0
Evaluates m state [] values after = (values ≡ []) × (after ≡ state)
Evaluates {State} m state (expression ∷ expressions) values after =
    (answer : Result (List ℕ) InterpFault) × (next : State) × (rest : List (List ℕ × Shown))
    × m.evaluates state expression.1 answer next × (values ≡ (expression.0, shown_of answer) ∷ rest)
    × Evaluates m next expressions rest after

-- The user expressions of a cell that didn't fail are evaluated, and the reply has their values. One that fails has its
-- fault in place of a value.
pub record RepliesValues {State Cell : Type 0} (m : Meaning State Cell) (expressions : List (List ℕ × List ℕ))
    (count : ℕ) (state : State) (answer : Answer State) : Type 0 where
  pub values : List (List ℕ × Shown)
  pub after : State
  pub evaluates : Evaluates m state expressions values after
  pub all : answer ≡ plain after count (Some (tells.ExecuteOk count values))

-- The reply to a cell, by what came of it. If the cell failed it tells the cell's fault, and no user expression is
-- evaluated. Else it tells the values of the user expressions.
abbrev pub RepliesCell : {State Cell : Type 0} → Meaning State Cell → List (List ℕ × List ℕ) → ℕ → Outcome → State
    → Answer State → Type 0
RepliesCell m expressions count (Ok value) state answer = RepliesValues m expressions count state answer
RepliesCell m expressions count (Err fault) state answer =
    answer ≡ plain state count (Some (tells.ExecuteError (fault_name fault) (fault_value fault) count))

-- A cell is answered: it runs by its course, and then its user expressions are evaluated in their order, unless it
-- failed. The reply has the execution count after the cell.
pub record AnswersCell {State Cell : Type 0} (m : Meaning State Cell) (code : List ℕ)
    (expressions : List (List ℕ × List ℕ)) (count : ℕ) (state : State) (course : Course State) (answer : Answer State)
    : Type 0 where
  pub outputs : List Output
  pub outcome : Outcome
  pub after : State
  pub runs : TextRuns m state code course outputs outcome after
  pub replies : RepliesCell m expressions count outcome after answer

-- The interpreter is asked about its language, and its answer or its fault is replied.
abbrev pub Finds : {State Cell : Type 0} → Meaning State Cell → State → Look → Reply → Type 0
Finds m state looks.Info reply = (info : Result Info InterpFault) × m.tells state info ×
    (reply ≡ reply_by info_reply info)
Finds m state (looks.Completion code cursor) reply =
    (completion : Result Completion InterpFault) × m.completes state code cursor completion
    × (reply ≡ reply_by completion_reply completion)
Finds m state (looks.Inspection code cursor) reply =
    (text : Result (Option (List ℕ)) InterpFault) × m.inspects state code cursor text
    × (reply ≡ reply_by tells.Inspect text)
Finds m state (looks.Completeness code) reply =
    (completeness : Result Completeness InterpFault) × m.judges state code completeness
    × (reply ≡ reply_by completeness_reply completeness)

-- What a request is answered, by what it comes to. The arguments are the same as those of what is published of it
-- (`Publishes`), and the answer.
abbrev pub AnswersRequest : {State Cell : Type 0} → Meaning State Cell → Does → State → ℕ → Course State
    → Answer State → Type 0
AnswersRequest m (Says publication reply order) state count course answer =
    answer ≡ record { reply = reply; state = state; count = count; order = order }
AnswersRequest m (Looks look) state count course answer =
    (reply : Reply) × Finds m state look reply × (answer ≡ plain state count (Some reply))
AnswersRequest m (Runs code silent counts expressions) state count course answer =
    AnswersCell m code expressions (count_after counts count) state course answer
AnswersRequest m (Refuses kind ename evalue) state count course answer =
    answer ≡ plain state count (error_reply_to kind count ename evalue)
AnswersRequest m Unread state count course answer = ⊥

-- the state after a user expression whose value isn't told: it was evaluated, or it found no memory
abbrev pub LeavesExpression : {State Cell : Type 0} → Meaning State Cell → State → List ℕ → State → Type 0
LeavesExpression m state text after =
    m.gives_up state text after ⊎ ((answer : Result (List ℕ) InterpFault) × m.evaluates state text answer after)

-- some of the user expressions were evaluated, in their order from the first on, and the next one perhaps found no
-- memory
pub record EvaluatesFront {State Cell : Type 0} (m : Meaning State Cell) (state : State)
    (expressions : List (List ℕ × List ℕ)) (after : State) : Type 0 where
  pub front : List (List ℕ × List ℕ)
  pub rest : List (List ℕ × List ℕ)
  pub whole : expressions ≡ front ++ rest
  pub values : List (List ℕ × Shown)
  pub at : State
  pub evaluates : Evaluates m state front values at
  pub left : (after ≡ at) ⊎ ((expression : List ℕ × List ℕ) × (more : List (List ℕ × List ℕ))
      × (rest ≡ expression ∷ more) × m.gives_up at expression.1 after)

-- What a cell leaves that wasn't answered for want of memory. If the cell failed its state stays. Else some of its user
-- expressions were evaluated.
abbrev pub LeavesExpressions : {State Cell : Type 0} → Meaning State Cell → List (List ℕ × List ℕ) → Outcome → State
    → State → Type 0
LeavesExpressions m expressions (Ok value) state after = EvaluatesFront m state expressions after
LeavesExpressions m expressions (Err fault) state after = after ≡ state

-- A cell wasn't answered for want of memory. It ran by its course, and then some of its user expressions were
-- evaluated, unless it failed.
pub record LeavesCell {State Cell : Type 0} (m : Meaning State Cell) (code : List ℕ)
    (expressions : List (List ℕ × List ℕ)) (state : State) (course : Course State) (after : State) : Type 0 where
  pub outputs : List Output
  pub outcome : Outcome
  pub at : State
  pub runs : TextRuns m state code course outputs outcome at
  pub left : LeavesExpressions m expressions outcome at after

-- What a request leaves that wasn't answered for want of memory: a state and an execution count. Only a cell changes
-- them. The arguments are those of `AnswersRequest`, with this state and count in place of the answer.
abbrev pub Leaves : {State Cell : Type 0} → Meaning State Cell → Does → State → ℕ → Course State → State → ℕ
    → Type 0
Leaves m (Says publication reply order) state count course after left = (after ≡ state) × (left ≡ count)
Leaves m (Looks look) state count course after left = (after ≡ state) × (left ≡ count)
Leaves m (Runs code silent counts expressions) state count course after left =
    (left ≡ count_after counts count) × LeavesCell m code expressions state course after
Leaves m (Refuses kind ename evalue) state count course after left = (after ≡ state) × (left ≡ count)
Leaves m Unread state count course after left = (after ≡ state) × (left ≡ count)
