-- What a worker of shell or control does, from its beginning to its end.
use Rattle.std.specs.Prelude.{◌≡◌, ◌⊎◌, [], List, Bool, true, false, Option, Some}
use Rattle.interp_core.specs.Interpreter.{Meaning}
use Rattle.iopub_event.specs.declared.event.Event.{Event}
use Rattle.iopub_queue.specs.Sink.{publisher_sink}
use Rattle.iopub_queue.specs.Values.{Publishing as Publisher}
use Rattle.jmsg_envelope.specs.Stamp.{Stamping}
use Rattle.kernel_engine.specs.declared.fault.EngineFault.{EngineFault}
use Rattle.kernel_engine.specs.declared.parts.Parts.{Parts}
use Rattle.kernel_engine.specs.declared.side.Side.{Side}
use Rattle.kernel_engine.specs.declared.side.Side.TheVariants.{Shell, Control}
use Rattle.kernel_engine.specs.Starts.{SaysNothing, SaysStarting, StartsNot}
use Rattle.kernel_engine.specs.World.{world_of}
use Rattle.kernel_workers.specs.declared.ended.Ended.{Ended}
use Rattle.kernel_workers.specs.declared.promises.LeavesWork.{LeavesWork}
use Rattle.kernel_jobs.specs.declared.job.Job.{Job}
use Rattle.kernel_workers.specs.Jobs.{TakesTurns, doing_of}
use Rattle.kernel_workers.specs.Staying.{IsSameEngine}

module _ {I S W Cell : Type 0} (m : Meaning I Cell) (stamps : Stamping S) where
  -- How an engine began. If memory wasn't refused it did all that was due: shell's says that the kernel starts, if it
  -- had published nothing, and any other does nothing. If memory was refused nothing was published.
  abbrev pub EngineStarts : Parts I (Publisher (Event W)) S W → Bool → Parts I (Publisher (Event W)) S W → Type 0
  EngineStarts old true new = SaysStarting publisher_sink stamps old new ⊎ SaysNothing publisher_sink stamps old new
  EngineStarts old false new = (fault : EngineFault) × StartsNot publisher_sink stamps old fault new

  -- how a worker of a channel begins: as shell's engine begins on shell, and on control it does nothing
  abbrev pub WorkerBegins : Side → Parts I (Publisher (Event W)) S W → Bool → Parts I (Publisher (Event W)) S W → Type 0
  WorkerBegins Shell old started new = EngineStarts old started new
  WorkerBegins Control old started new = (new ≡ old) × (started ≡ false)

  -- A worker of a channel was given this engine and this inbox. It did the jobs that came out of the inbox, one after
  -- the other, in their order, each once, or left them undone. What it leaves tells these jobs, what became of each,
  -- and why the worker ended.
  pub record WorksOff {R : Type 0} (side : Side) (engine : Parts I (Publisher (Event W)) S W)
      (inbox : List (Option Job)) (ended : Ended I S W R Cell) : Type 0 where
    pub first : Parts I (Publisher (Event W)) S W
    pub begins : WorkerBegins side engine ended.started first
    pub turns : TakesTurns (world_of m publisher_sink stamps) (doing_of side)
        (record { engine = first; inbox = inbox; outcomes = record { answers = []; undone = 0 } }) (Some ended.cause)
        ended.work

  -- what a worker of a channel left is as it promised
  abbrev pub LeavesAsPromised : {R : Type 0} → LeavesWork I S W R Cell → Ended I S W R Cell → Type 0
  LeavesAsPromised promise ended = WorksOff promise.side promise.engine.value promise.inbox.value ended
      × IsSameEngine stamps promise.engine.value ended.work.engine
