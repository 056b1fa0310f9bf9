-- A kernel's queue after it was opened, and its workers after they were set up.
use Rattle.std.specs.Prelude.{◌≡◌, ℕ, List, [], Option, None}
use Rattle.atomic_table.specs.Seated.{TableId}
use Rattle.iopub_event.specs.declared.event.Event.{Event}
use Rattle.iopub_queue.specs.Calls.{beginner}
use Rattle.iopub_queue.specs.Values.{Publishing, Taking}
use Rattle.kernel_engine.specs.declared.parts.Parts.{Parts as Engine}
use Rattle.kernel_engine.specs.declared.side.Side.{Side}
use Rattle.kernel_engine.specs.declared.side.Side.TheVariants.{Shell, Control}
use Rattle.kernel_workers.specs.declared.control.ControlWorker.{ControlWorker}
use Rattle.kernel_jobs.specs.declared.job.Job.{Job}
use Rattle.kernel_workers.specs.declared.parts.Parts.{Parts}
use Rattle.kernel_workers.specs.declared.promises.ClosesSilent.{ClosesSilent}
use Rattle.kernel_workers.specs.declared.promises.LeavesWork.{LeavesWork}
use Rattle.kernel_workers.specs.declared.shell.ShellWorker.{ShellWorker}
use Rattle.kernel_workers.specs.declared.subscriptions.SubscriptionsWorker.{SubscriptionsWorker}
use Rattle.kernel_workers.specs.Ending.{Subscribing}

-- a publisher of a queue that was just opened
abbrev pub publisher_at_first : {T : Type 0} → TableId → ℕ → Publishing T
publisher_at_first queue number = record { queue = queue; number = number; published = []; told = [] }

-- the publishers 0, 1 and 2 and the taker of one queue that was just opened
pub record IsOpened {T : Type 0} (shell control subscriptions : Publishing T) (taker : Taking T) : Type 0 where
  pub shell_is : shell ≡ publisher_at_first taker.queue 0
  pub control_is : control ≡ publisher_at_first taker.queue 1
  pub subscriptions_are : subscriptions ≡ publisher_at_first taker.queue 2
  pub taker_is : taker ≡ beginner taker.queue 3

-- three publishers and the taker are of one queue: 0, 1 and 2
pub record AreOfOne {T : Type 0} (shell control subscriptions : Publishing T) (taker : Taking T) : Type 0 where
  pub shell_queue : shell.queue ≡ taker.queue
  pub control_queue : control.queue ≡ taker.queue
  pub subscriptions_queue : subscriptions.queue ≡ taker.queue
  pub shell_is : shell.number ≡ 0
  pub control_is : control.number ≡ 1
  pub subscriptions_are : subscriptions.number ≡ 2
  pub count : taker.count ≡ 3

-- an engine of a channel that has published nothing, with this interpreter and stamp, this key and this publisher
abbrev pub beginning : {I S W : Type 0} → Side → I × S → List ℕ → Publishing (Event W)
    → Engine I (Publishing (Event W)) S W
beginning side language key publisher = record {
  side = side;
  interp = language.0;
  count = 0;
  publishing = record { sink = publisher; signer = key; stamp = language.1; next = 1 };
  owed = None;
}

-- What a worker of shell or control is given: its engine, and its inbox, which tells what came out of it before.
pub record Given (I S W : Type 0) : Type 0 where
  pub side : Side
  pub engine : Engine I (Publishing (Event W)) S W
  pub inbox : List (Option Job)

-- what those workers of a kernel are given that publish
pub record Setup (I S W : Type 0) : Type 0 where
  pub shell : Given I S W
  pub control : Given I S W
  pub subscriptions : Subscribing W

-- what a worker of a channel promises speaks of the channel, the engine and the inbox that it was given
pub record Promises {I S W R Cell : Type 0} (side : Side) (engine : Engine I (Publishing (Event W)) S W)
    (inbox : List (Option Job)) (promise : LeavesWork I S W R Cell) : Type 0 where
  pub side_is : promise.side ≡ side
  pub engine_is : promise.engine.value ≡ engine
  pub inbox_is : promise.inbox.value ≡ inbox

module _ {W R : Type 0} where
  -- what the worker of subscriptions is given
  abbrev pub subscribing : SubscriptionsWorker W R → Subscribing W
  subscribing worker = record { sink = worker.sink; inbox = worker.inbox }

  -- what that worker was given, by its promise
  abbrev pub subscribing_by : ClosesSilent W R → Subscribing W
  subscribing_by promise = record { sink = promise.sink.value; inbox = promise.inbox.value }

module _ {I S W R Cell : Type 0} where
  -- what workers are given
  abbrev pub given_to : ShellWorker I S W R Cell → ControlWorker I S W R Cell → SubscriptionsWorker W R → Setup I S W
  given_to shell control subscriptions = record {
    shell = record { side = Shell; engine = shell.engine; inbox = shell.inbox };
    control = record { side = Control; engine = control.engine; inbox = control.inbox };
    subscriptions = subscribing subscriptions;
  }

  -- what workers were given, by their promises
  abbrev pub promised_by : LeavesWork I S W R Cell → LeavesWork I S W R Cell → ClosesSilent W R → Setup I S W
  promised_by shell control subscriptions = record {
    shell = record { side = shell.side; engine = shell.engine.value; inbox = shell.inbox.value };
    control = record { side = control.side; engine = control.engine.value; inbox = control.inbox.value };
    subscriptions = subscribing_by subscriptions;
  }

-- A kernel's workers are set up of its parts. The publishers and the taker are of one queue that was just opened. Each
-- channel's engine has that channel's interpreter and stamp, and the kernel's key. Its worker has that channel's inbox,
-- and so has that of subscriptions.
pub record IsSetUp {I S W : Type 0} (parts : Parts I S W) (setup : Setup I S W) (taker : Taking (Event W))
    : Type 0 where
  pub opened : IsOpened setup.shell.engine.publishing.sink setup.control.engine.publishing.sink
      setup.subscriptions.sink taker
  pub shell_side : setup.shell.side ≡ Shell
  pub control_side : setup.control.side ≡ Control
  pub shell_is : setup.shell.engine
      ≡ beginning Shell parts.shell parts.key.items setup.shell.engine.publishing.sink
  pub control_is : setup.control.engine
      ≡ beginning Control parts.control parts.key.items setup.control.engine.publishing.sink
  pub shell_in : setup.shell.inbox ≡ parts.shell_in.from
  pub control_in : setup.control.inbox ≡ parts.control_in.from
  pub subscriptions_in : setup.subscriptions.inbox ≡ parts.subscriptions_in.from
