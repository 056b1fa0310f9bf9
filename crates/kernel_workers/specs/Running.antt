-- How a kernel ends, and why one doesn't run.
use Rattle.std.specs.Prelude.{◌≡◌, ◌≤◌, ⊤, ℕ, Bool, true, false, List, [], ◌∷◌, All, Option, Some, None, vec_capacity}
use Rattle.std.specs.Global.{Vec}
use Rattle.atomic_table.specs.Seated.{TableId}
use Rattle.interp_core.specs.Interpreter.{Meaning}
use Rattle.zmtp_wire.specs.Device.{Outflow}
use Rattle.iopub_event.specs.declared.event.Event.{Event}
use Rattle.iopub_queue.specs.Calls.{IsCapacity}
use Rattle.iopub_queue.specs.Entries.{Entry, part_of, CloseIsLast, IsComplete}
use Rattle.iopub_queue.specs.Fault.{open_fault_number}
use Rattle.iopub_queue.specs.declared.fault.OpenFault.TheVariants.{Count, Capacity, OutOfMemory}
use Rattle.iopub_queue.specs.Values.{Publishing}
use Rattle.iopub_relay.specs.Relay.{AreOfNumbers, RelayIsLeft, Relaying}
use Rattle.jmsg_envelope.specs.Stamp.{Stamping}
use Rattle.kernel_engine.specs.declared.fault.EngineFault.{EngineFault}
use Rattle.kernel_engine.specs.declared.parts.Parts.{Parts as Engine}
use Rattle.kernel_engine.specs.declared.side.Side.TheVariants.{Shell, Control}
use Rattle.kernel_workers.specs.declared.ended.Asking.{Asking}
use Rattle.kernel_workers.specs.declared.ended.Cause.{Cause}
use Rattle.kernel_workers.specs.declared.ended.Ended.{Ended}
use Rattle.kernel_workers.specs.declared.ended.Cause.TheVariants.{Told, Shutdown, Asked, Worn}
use Rattle.kernel_workers.specs.declared.ending.Left.{Left}
use Rattle.kernel_workers.specs.declared.fault.KernelFault.{KernelFault}
use Rattle.kernel_workers.specs.declared.fault.KernelFault.TheVariants.{Queue, NoThread}
use Rattle.kernel_workers.specs.declared.outcomes.Outcome.{Outcome}
use Rattle.kernel_workers.specs.declared.outcomes.Outcome.TheVariants.{Refused}
use Rattle.kernel_workers.specs.declared.outcomes.Outcomes.{Outcomes}
use Rattle.kernel_workers.specs.declared.parts.Parts.{Parts}
use Rattle.kernel_jobs.specs.declared.job.Job.{Job}
use Rattle.kernel_workers.specs.declared.kernel_end.KernelEnd.{KernelEnd}
use Rattle.kernel_workers.specs.declared.kernel_end.KernelWork.{KernelWork}
use Rattle.kernel_workers.specs.declared.kernel_end.WorkDone.{WorkDone}
use Rattle.kernel_workers.specs.declared.shutdown.ShutdownEnd.{ShutdownEnd}
use Rattle.kernel_workers.specs.declared.work.Work.{Work}
use Rattle.kernel_workers.specs.Causes.{restart_of, shutdown_word}
use Rattle.kernel_workers.specs.Ending.{EndsSilent, IsBlockedAndClosed, IsBlockedBy, IsNoMessage, PassesOn, Subscribing}
use Rattle.kernel_workers.specs.Ending.{closed_list, sealing_by}
use Rattle.kernel_workers.specs.Jobs.{AreAnswered}
use Rattle.kernel_workers.specs.Outcomes.{Records, replied_by}
use Rattle.kernel_workers.specs.Shutdown.{EndsInOrder}
use Rattle.kernel_workers.specs.Starting.{Setup, beginning, publisher_at_first, subscribing_by}
use Rattle.kernel_workers.specs.Works.{WorksOff}

-- The number of a kernel's fault. A fault of its queue has the number that the queue gives it: 60 to 62. 65: a thread
-- couldn't be made.
abbrev pub kernel_fault_number : KernelFault → ℕ
kernel_fault_number (Queue fault) = open_fault_number fault
kernel_fault_number NoThread = 65

-- Why a kernel of this capacity doesn't run. The capacity is judged first. Only if it is one that a queue may have,
-- memory or a thread can be wanting. The count of its publishers is never refused.
abbrev pub FailsBy : ℕ → KernelFault → Type 0
FailsBy capacity (Queue Count) = ⊥
FailsBy capacity (Queue Capacity) = ¬ IsCapacity capacity
FailsBy capacity (Queue OutOfMemory) = IsCapacity capacity
FailsBy capacity NoThread = IsCapacity capacity

-- why what is left of a kernel that ran can't be told: memory was refused, or there was no thread
abbrev pub IsFaultAtEnd : KernelFault → Type 0
IsFaultAtEnd (Queue Count) = ⊥
IsFaultAtEnd (Queue Capacity) = ⊥
IsFaultAtEnd (Queue OutOfMemory) = ⊤
IsFaultAtEnd NoThread = ⊤

-- whether a kernel is to begin anew, if control was asked for a shutdown or shell was: control's word counts first
abbrev pub restart_by : Option Bool → Option Bool → Bool
restart_by (Some restart) shell = restart
restart_by None (Some restart) = restart
restart_by None None = false

-- what the relay of a kernel took that ended
abbrev pub taken_of : {W R : Type 0} → KernelEnd W R → List (Entry (Event W))
taken_of ended = ended.relay.value.taker.taken

-- A kernel ended, and all that was published was taken: of each of its three publishers up to its close, and nothing
-- else. Its subscribers are those that are left of its relay, which took that.
pub record TookAll {W R : Type 0} (outflow : W → Outflow) (ended : KernelEnd W R) : Type 0 where
  pub says : ended.complete ≡ true
  pub count : ended.relay.value.taker.count ≡ 3
  pub complete : IsComplete 3 (taken_of ended)
  pub last : (number : ℕ) → CloseIsLast (part_of number (taken_of ended))
  pub others : AreOfNumbers 3 (taken_of ended)
  pub left : RelayIsLeft outflow (taken_of ended) ended.no_room ended.subscribers.items

-- a kernel took from a queue just these lists, of shell, of control and of subscriptions
pub record TookEach {W R : Type 0} (outflow : W → Outflow) (queue : TableId)
    (shell control subscriptions : List (Option (Event W))) (ended : KernelEnd W R) : Type 0 where
  pub took : TookAll outflow ended
  pub queue_is : ended.relay.value.taker.queue ≡ queue
  pub shell_is : part_of 0 (taken_of ended) ≡ shell
  pub control_is : part_of 1 (taken_of ended) ≡ control
  pub subscriptions_are : part_of 2 (taken_of ended) ≡ subscriptions

-- what a kernel's end tells of its relay
pub record TellsOf {W R : Type 0} (outflow : W → Outflow) (relay : Relaying W) (complete restart : Bool)
    (ended : KernelEnd W R) : Type 0 where
  pub relay_is : ended.relay.value ≡ relay
  pub complete_is : ended.complete ≡ complete
  pub restart_is : ended.restart ≡ restart
  pub left : RelayIsLeft outflow relay.taker.taken ended.no_room ended.subscribers.items

-- There is one token: the one that the worker of subscriptions left, which was given this, beside this inbox. There is
-- room for two more.
pub record IsLastToken {W : Type 0} (given : Subscribing W) (tokens : Vec (Publishing (Event W)))
    (inbox : List (Option (Event W))) : Type 0 where
  pub closed : Publishing (Event W)
  pub alone : tokens.items ≡ closed ∷ []
  pub ends : EndsSilent given closed inbox
  pub room : 3 ≤ vec_capacity tokens

-- How a kernel ends that has these engines of shell and control, and this inbox of subscriptions. All that was
-- published was taken. What was taken of each of the two is well blocked, and of shell it is all that its engine
-- published. Of subscriptions it is what was passed on of that inbox, and no message.
pub record EndsOver {I S W R Cell : Type 0} (m : Meaning I Cell) (stamps : Stamping S) (outflow : W → Outflow)
    (shell control : Engine I (Publishing (Event W)) S W) (inbox : List (Option (Event W)))
    (ended : KernelEnd W R) : Type 0 where
  pub took : TookAll outflow ended
  pub queue : ended.relay.value.taker.queue ≡ shell.publishing.sink.queue
  pub shell_is : part_of 0 (taken_of ended) ≡ closed_list shell
  pub shell_blocked : IsBlockedBy m stamps shell (part_of 0 (taken_of ended))
  pub control_blocked : IsBlockedBy m stamps control (part_of 1 (taken_of ended))
  pub subscriptions_passed : PassesOn inbox ended.subscriptions_in.value (part_of 2 (taken_of ended))
  pub subscriptions_silent : All IsNoMessage (part_of 2 (taken_of ended))

-- what a worker did: what came out of its inbox, and what became of that
pub record Did : Type 0 where
  pub jobs : List (Option Job)
  pub outcomes : Outcomes

-- what the workers of shell and of control did, and whether shell's worker began as it should (`EngineStarts`)
pub record BothDid : Type 0 where
  pub started : Bool
  pub shell : Did
  pub control : Did

-- what a worker did, as a kernel's end tells it
abbrev pub did_of : WorkDone → Did
did_of done = record { jobs = done.inbox.value; outcomes = done.outcomes }

-- what a worker did, by what it left
abbrev pub did_by : {I S W R Cell : Type 0} → Work I S W R Cell → Did
did_by work = record { jobs = work.inbox; outcomes = work.outcomes }

-- what the two did, as a kernel's end tells it
abbrev pub both_did : KernelWork → BothDid
both_did work = record { started = work.started; shell = did_of work.shell; control = did_of work.control }

-- What is left of a kernel after the workers of shell and of control have ended. That is their engines, what the worker
-- of subscriptions was given, what the two did, and whether shell was asked for a shutdown.
pub record Leaving (I S W : Type 0) : Type 0 where
  pub shell : Engine I (Publishing (Event W)) S W
  pub control : Engine I (Publishing (Event W)) S W
  pub subscriptions : Subscribing W
  pub did : BothDid
  pub of_shell : Option Bool

-- what is left of a kernel, as its end sees it
abbrev pub leaving : {I S W R Cell : Type 0} → Left I S W R Cell → KernelWork → Option Bool → Leaving I S W
leaving left work of_shell = record {
  shell = left.shell;
  control = left.control;
  subscriptions = subscribing_by left.subscriptions.promise;
  did = both_did work;
  of_shell = of_shell;
}

-- A kernel ended without a request for a shutdown on control. What was taken of control is all that its engine
-- published. What shell was asked says whether the kernel is to begin anew.
pub record EndsAtOnce {I S W R : Type 0} (left : Leaving I S W) (ended : KernelEnd W R) : Type 0 where
  pub control_is : part_of 1 (taken_of ended) ≡ closed_list left.control
  pub did_is : both_did ended.work ≡ left.did
  pub restart_is : ended.restart ≡ restart_by None left.of_shell

-- what became of a request for a shutdown, by its reply, and by why it was refused, if it was
abbrev pub last_outcome : Option (List (List ℕ)) → Option EngineFault → Outcome
last_outcome reply None = replied_by reply
last_outcome reply (Some fault) = Refused

-- a request for a shutdown was answered after all that control had answered before
pub record AnswersLast (message : List (List ℕ)) (reply : Option (List (List ℕ))) (fault : Option EngineFault)
    (old new : BothDid) : Type 0 where
  pub records : Records message (last_outcome reply fault) old.control.outcomes new.control.outcomes
  pub rest : new ≡ record old { control = record old.control { outcomes = new.control.outcomes } }

-- How a kernel ends that was shut down by a request on control. It ends in order, and tells its relay's end and whether
-- it is to begin anew. If shell was asked for a shutdown, too, the request on control counts. Its reply is the last
-- that control answered.
pub record ShutsDown {I S W Cell : Type 0} (R : Type 0) (m : Meaning I Cell) (stamps : Stamping S)
    (outflow : W → Outflow) (asking : Asking) (relay : Relaying W) (left : Leaving I S W)
    (ended : KernelEnd W R) : Type 0 where
  pub end : ShutdownEnd W R
  pub ends : EndsInOrder m stamps left.shell left.control asking.request relay
      (λ tokens. IsLastToken left.subscriptions tokens ended.subscriptions_in.value) end
  pub answers : AnswersLast asking.to end.reply end.fault left.did (both_did ended.work)
  pub tells : TellsOf outflow end.relay end.complete
      (restart_by (shutdown_word end.fault end.restart) left.of_shell) ended

-- how a kernel ends, by why control's worker ended
abbrev pub EndsFor : {I S W Cell : Type 0} (R : Type 0) → Meaning I Cell → Stamping S → (W → Outflow) → Cause
    → Leaving I S W → KernelEnd W R → Type 0
EndsFor R m stamps outflow Told left ended = EndsAtOnce left ended
EndsFor R m stamps outflow (Shutdown restart) left ended = EndsAtOnce left ended
EndsFor {W = W} R m stamps outflow (Asked asking) left ended =
    (relay : Relaying W) × ShutsDown R m stamps outflow asking relay left ended
EndsFor R m stamps outflow Worn left ended = EndsAtOnce left ended

-- what is left of a kernel, if its workers of shell and control left this
abbrev pub leaving_by : {I S W R Cell : Type 0} → Ended I S W R Cell → Ended I S W R Cell → Subscribing W
    → Leaving I S W
leaving_by shell control subscriptions = record {
  shell = shell.work.engine;
  control = control.work.engine;
  subscriptions = subscriptions;
  did = record { started = shell.started; shell = did_by shell.work; control = did_by control.work };
  of_shell = restart_of shell.cause;
}

-- How a kernel ends whose workers were given this. Those of shell and of control did the jobs of their inboxes. What
-- was taken of each is what its engine published by that. The jobs and answers that the kernel's end tells are theirs.
pub record KernelEndsBy {I S W Cell : Type 0} (R : Type 0) (m : Meaning I Cell) (stamps : Stamping S)
    (outflow : W → Outflow) (setup : Setup I S W) (ended : KernelEnd W R) : Type 0 where
  pub took : TookAll outflow ended
  pub queue : ended.relay.value.taker.queue ≡ setup.shell.engine.publishing.sink.queue
  pub shell_blocked : IsBlockedBy m stamps setup.shell.engine (part_of 0 (taken_of ended))
  pub control_blocked : IsBlockedBy m stamps setup.control.engine (part_of 1 (taken_of ended))
  pub subscriptions_passed : PassesOn setup.subscriptions.inbox ended.subscriptions_in.value
      (part_of 2 (taken_of ended))
  pub subscriptions_silent : All IsNoMessage (part_of 2 (taken_of ended))
  pub shell : Ended I S W R Cell
  pub control : Ended I S W R Cell
  pub shell_works : WorksOff m stamps setup.shell.side setup.shell.engine setup.shell.inbox shell
  pub control_works : WorksOff m stamps setup.control.side setup.control.engine setup.control.inbox control
  pub shell_is : part_of 0 (taken_of ended) ≡ closed_list shell.work.engine
  pub ends : EndsFor R m stamps outflow control.cause (leaving_by shell control setup.subscriptions) ended

-- How a kernel ends. All that was published was taken, by the relay that it hands back. What was taken of shell, and of
-- control, is well blocked: each request's messages stand between its busy and its idle. They are signed with the
-- kernel's key, under ids and dates of the channel's stamp. What was taken of subscriptions is what came out of its
-- inbox, without the messages. Each subscriber that is left got the texts of the messages of its life that match its
-- topics, and the PONGs that it asked for. If it has failed, it got that up to an event.
--
-- The blocks are those of the jobs that came out of the channel's own inbox, in their order, by the channel's own
-- interpreter, stamp and key. The kernel's end tells which jobs these were, and what became of each. Each has one
-- answer, in the order of the jobs.
pub record EndsWell {I S W Cell : Type 0} (R : Type 0) (m : Meaning I Cell) (stamps : Stamping S)
    (outflow : W → Outflow) (parts : Parts I S W) (ended : KernelEnd W R) : Type 0 where
  pub capacity : IsCapacity parts.capacity
  pub took : TookAll outflow ended
  pub shell_blocked : IsBlockedAndClosed m (stamps.is_date (stamps.meaning parts.shell.1)) Shell
      (sealing_by stamps parts.key.items parts.shell.1) (part_of 0 (taken_of ended))
  pub control_blocked : IsBlockedAndClosed m (stamps.is_date (stamps.meaning parts.control.1)) Control
      (sealing_by stamps parts.key.items parts.control.1) (part_of 1 (taken_of ended))
  pub subscriptions_passed : PassesOn parts.subscriptions_in.from ended.subscriptions_in.value
      (part_of 2 (taken_of ended))
  pub subscriptions_silent : All IsNoMessage (part_of 2 (taken_of ended))
  pub shell : Ended I S W R Cell
  pub control : Ended I S W R Cell
  pub shell_works : WorksOff m stamps Shell
      (beginning Shell parts.shell parts.key.items
      (publisher_at_first ended.relay.value.taker.queue 0)) parts.shell_in.from shell
  pub control_works : WorksOff m stamps Control
      (beginning Control parts.control parts.key.items (publisher_at_first ended.relay.value.taker.queue 1))
      parts.control_in.from control
  pub shell_is : part_of 0 (taken_of ended) ≡ closed_list shell.work.engine
  pub ends : EndsFor R m stamps outflow control.cause
      (leaving_by shell control
      (record { sink = publisher_at_first ended.relay.value.taker.queue 2; inbox = parts.subscriptions_in.from })) ended
  pub shell_answered : AreAnswered parts.shell_in.from ended.work.shell.inbox.value ended.work.shell.outcomes.answers
  pub control_answered : AreAnswered parts.control_in.from ended.work.control.inbox.value
      ended.work.control.outcomes.answers
