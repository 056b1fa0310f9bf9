-- What a worker of shell or control does with its jobs.
use Rattle.std.specs.Prelude.{◌≡◌, ◌⊎◌, ⊤, ℕ, List, [], ◌∷◌, ◌++◌, Option, None, Some, is_some, false, true}
use Rattle.iopub_event.specs.declared.event.Event.{Event}
use Rattle.iopub_queue.specs.Values.{Publishing as Publisher}
use Rattle.jmsg_envelope.specs.Envelope.{Opened}
use Rattle.jmsg_envelope.specs.declared.envelope.Envelope.{Envelope}
use Rattle.kernel_engine.specs.declared.asked.Asked.{Asked}
use Rattle.kernel_engine.specs.declared.asked.Done.{Done}
use Rattle.kernel_engine.specs.declared.asked.Done.TheVariants.{Ignored, Lost, Handled, Refused}
use Rattle.kernel_engine.specs.declared.side.Side.{Side}
use Rattle.kernel_engine.specs.declared.side.Side.TheVariants.{Shell, Control}
use Rattle.kernel_engine.specs.Comes.{message_comes}
use Rattle.kernel_engine.specs.Orders.{ends, order_of_request}
use Rattle.kernel_engine.specs.Takes.{Asks, Takes}
use Rattle.kernel_engine.specs.World.{World}
use Rattle.kernel_workers.specs.declared.ended.Asking.{Asking}
use Rattle.kernel_workers.specs.declared.ended.Cause.{Cause}
use Rattle.kernel_workers.specs.declared.ended.Cause.TheVariants as causes
use Rattle.kernel_jobs.specs.declared.job.Job.{Job}
use Rattle.kernel_workers.specs.declared.work.Work.{Work}
use Rattle.kernel_workers.specs.Causes.{cause_of}
use Rattle.kernel_workers.specs.declared.outcomes.Answer.{Answer}
use Rattle.kernel_workers.specs.declared.outcomes.Outcome.TheVariants.{Ending}
use Rattle.kernel_workers.specs.Outcomes.{Records, outcome_of}

-- the messages of the jobs that came out of an inbox
abbrev pub messages_of_jobs : List (Option Job) → List (List (List ℕ))
messages_of_jobs [] = []
messages_of_jobs (Some job ∷ more) = job.frames ∷ messages_of_jobs more
messages_of_jobs (None ∷ more) = messages_of_jobs more

-- the messages that were answered
abbrev pub answered_in : List Answer → List (List (List ℕ))
answered_in [] = []
answered_in (answer ∷ more) = answer.to ∷ answered_in more

-- Each job that came out of an inbox since it was `before` has one answer, in the order of the jobs, and there is no
-- other answer.
abbrev pub AreAnswered : List (Option Job) → List (Option Job) → List Answer → Type 0
AreAnswered before inbox answers = messages_of_jobs inbox ≡ messages_of_jobs before ++ answered_in answers

-- What may become of a job. `may_leave`: it may be left undone, with all that come after it. `may_hold`: if it is a
-- request for a shutdown it is left for later. `may_ask`: its cell may be interrupted.
pub record Doing : Type 1 where
  pub may_leave : Type 0
  pub may_hold : Type 0
  pub may_ask : Type 0

-- What may become of a job of a channel. On shell it may be left undone, with all that come after it, and a cell may be
-- interrupted. On control neither may be, but a request for a shutdown is left for later.
abbrev pub doing_of : Side → Doing
doing_of Shell = record { may_leave = Unit; may_hold = ⊥; may_ask = Unit }
doing_of Control = record { may_leave = ⊥; may_hold = Unit; may_ask = ⊥ }

-- What came of frames on control, if a request for a shutdown is left for later. If a request was handled it is one
-- that asks for no end. If one was refused, it may have been for a shutdown and there was no memory to read it.
abbrev pub EndsNothing : List ℕ → Side → List (List ℕ) → Done → Type 0
EndsNothing key side frames Ignored = ⊤
EndsNothing key side frames Lost = ⊤
EndsNothing key side frames (Handled handled) = (request : Envelope) × Opened key frames request
    × (is_some (ends (order_of_request (message_comes side request))) ≡ false)
EndsNothing key side frames (Refused fault) = ⊤

module _ {I S W R Cell : Type 0} where
  -- a worker took the next out of its inbox: a job, or that it is to end
  pub record TakesOut (old : Work I S W R Cell) (next : Option Job) (new : Work I S W R Cell) : Type 0 where
    pub inbox : new.inbox ≡ old.inbox ++ next ∷ []
    pub engine : new.engine ≡ old.engine
    pub outcomes : new.outcomes ≡ old.outcomes

  -- The frames of a job were left undone, and their answer says that the kernel is to end.
  pub record LeavesJob (frames : List (List ℕ)) (old new : Work I S W R Cell) : Type 0 where
    pub engine : new.engine ≡ old.engine
    pub inbox : new.inbox ≡ old.inbox
    pub records : Records frames Ending old.outcomes new.outcomes

  -- jobs came out of the inbox, and were left undone, one after the other
  pub data LeavesJobs (first : Work I S W R Cell) : Work I S W R Cell → Type 0 where
    nothing_left : LeavesJobs first first
    one_left : (middle : Work I S W R Cell) (job : Job) (taken last : Work I S W R Cell) → LeavesJobs first middle
        → TakesOut middle (Some job) taken → LeavesJob job.frames taken last → LeavesJobs first last

  -- all jobs that came out of the inbox were left undone, until the worker was told to end
  pub record LeavesRest (old new : Work I S W R Cell) : Type 0 where
    pub last : Work I S W R Cell
    pub leaves : LeavesJobs old last
    pub told : TakesOut last None new
    pub engine : new.engine ≡ old.engine

  -- The frames of a job were left undone, and so were all that came after them until the worker was told to end. Then
  -- it ends.
  pub record LeavesAll (frames : List (List ℕ)) (old : Work I S W R Cell) (cause : Option Cause)
      (new : Work I S W R Cell) : Type 0 where
    pub one : Work I S W R Cell
    pub leaves : LeavesJob frames old one
    pub rest : LeavesRest one new
    pub cause_is : cause ≡ Some causes.Told

  -- The frames of a job are a request for a shutdown. It is left for later, and so is its reply. Nothing changes, and
  -- the worker ends.
  pub record HoldsJob (frames : List (List ℕ)) (old : Work I S W R Cell) (cause : Option Cause)
      (new : Work I S W R Cell) : Type 0 where
    pub asked : Asked
    pub asks : Asks old.engine.publishing.signer old.engine.side frames asked
    pub ending : is_some (ends (order_of_request asked.does)) ≡ true
    pub asking : Asking
    pub request : asking.request ≡ asked.request
    pub to : asking.to ≡ frames
    pub cause_is : cause ≡ Some (causes.Asked asking)
    pub same : new ≡ old

module _ {I S W R Cell : Type 0} (world : World I (Publisher (Event W)) S W Cell) (may : Doing) where
  -- The frames of a job were taken. What came of them was noted, and says whether the worker ends. If requests for a
  -- shutdown are left for later, this was none of them.
  pub record TakesJob (frames : List (List ℕ)) (old : Work I S W R Cell) (cause : Option Cause)
      (new : Work I S W R Cell) : Type 0 where
    pub done : Done
    pub takes : Takes world may.may_ask frames old.engine done new.engine
    pub inbox : new.inbox ≡ old.inbox
    pub records : Records frames (outcome_of done) old.outcomes new.outcomes
    pub cause_is : cause ≡ cause_of done
    pub goes_on : may.may_hold → EndsNothing old.engine.publishing.signer old.engine.side frames done

  -- A job was done. Or, if the channel allows that, it was left undone with all after it, or it was left for later.
  abbrev pub DoesJob : List (List ℕ) → Work I S W R Cell → Option Cause → Work I S W R Cell → Type 0
  DoesJob frames old cause new = (may.may_leave × LeavesAll frames old cause new)
      ⊎ (may.may_hold × HoldsJob frames old cause new) ⊎ TakesJob frames old cause new

  -- A worker took a job out of its inbox and did it, or it was told to end and ends.
  pub data TakesTurn (old : Work I S W R Cell) (cause : Option Cause) (new : Work I S W R Cell) : Type 0 where
    does : (job : Job) (taken : Work I S W R Cell) → TakesOut old (Some job) taken → DoesJob job.frames taken cause new
        → TakesTurn old cause new
    told : TakesOut old None new → cause ≡ Some causes.Told → TakesTurn old cause new

  -- A worker took its turns, one after the other, each with what the one before left. Only the last one may end the
  -- worker.
  pub data TakesTurns (first : Work I S W R Cell) : Option Cause → Work I S W R Cell → Type 0 where
    nothing : TakesTurns first None first
    one_more : (middle : Work I S W R Cell) (cause : Option Cause) (last : Work I S W R Cell)
        → TakesTurns first None middle → TakesTurn middle cause last → TakesTurns first cause last
