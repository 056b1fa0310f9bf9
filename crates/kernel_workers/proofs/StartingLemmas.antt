-- How workers are set up, by their promises.
use Rattle.std.proofs.Common.{◌≡◌, ap, List, Option, subst, sym, ◌∙◌}
use Rattle.iopub_event.specs.declared.event.Event.{Event}
use Rattle.iopub_queue.specs.Values.{Publishing, Taking}
use Rattle.kernel_engine.specs.declared.parts.Parts.{Parts as Engine}
use Rattle.kernel_engine.specs.declared.side.Side.{Side}
use Rattle.kernel_engine.specs.declared.side.Side.TheVariants.{Shell, Control}
use Rattle.kernel_workers.specs.declared.control.ControlWorker.{ControlWorker}
use Rattle.kernel_jobs.specs.declared.job.Job.{Job}
use Rattle.kernel_workers.specs.declared.parts.Parts.{Parts}
use Rattle.kernel_workers.specs.declared.promises.ClosesSilent.{ClosesSilent}
use Rattle.kernel_workers.specs.declared.promises.LeavesWork.{LeavesWork}
use Rattle.kernel_workers.specs.declared.shell.ShellWorker.{ShellWorker}
use Rattle.kernel_workers.specs.declared.subscriptions.SubscriptionsWorker.{SubscriptionsWorker}
use Rattle.kernel_workers.specs.Ending.{Subscribing}
use Rattle.kernel_workers.specs.Starting.{Given, IsSetUp, Promises, Setup, given_to, promised_by, subscribing}
use Rattle.kernel_workers.specs.Starting.{subscribing_by}

module _ {I S W : Type 0} where
  -- what workers were given is the same if each part is
  given_is : (one other : Given I S W) → one.side ≡ other.side → one.engine ≡ other.engine → one.inbox ≡ other.inbox
      → one ≡ other
  given_is one other side engine inbox =
      ap (λ (s : Side). record { side = s; engine = one.engine; inbox = one.inbox }) side
      ∙ ap (λ (e : Engine I (Publishing (Event W)) S W). record { side = other.side; engine = e; inbox = one.inbox })
      engine
      ∙ ap (λ (i : List (Option Job)). record { side = other.side; engine = other.engine; inbox = i }) inbox

  setup_is : (one other : Setup I S W) → one.shell ≡ other.shell → one.control ≡ other.control
      → one.subscriptions ≡ other.subscriptions → one ≡ other
  setup_is one other shell control subscriptions =
      ap (λ (g : Given I S W). record { shell = g; control = one.control; subscriptions = one.subscriptions }) shell
      ∙ ap (λ (g : Given I S W). record { shell = other.shell; control = g; subscriptions = one.subscriptions }) control
      ∙ ap (λ (s : Subscribing W). record { shell = other.shell; control = other.control; subscriptions = s })
      subscriptions

  -- workers were set up as their promises say
  pub set_on : {Cell R : Type 0} (parts : Parts I S W) (shell : ShellWorker I S W R Cell)
      (control : ControlWorker I S W R Cell) (subscriptions : SubscriptionsWorker W R) (by_shell by_control : LeavesWork I S W R Cell)
      (by_subscriptions : ClosesSilent W R) (taker new_taker : Taking (Event W))
      → IsSetUp parts (given_to shell control subscriptions) taker
      → Promises Shell shell.engine shell.inbox by_shell → Promises Control control.engine control.inbox by_control
      → subscribing_by by_subscriptions ≡ subscribing subscriptions → new_taker ≡ taker
      → IsSetUp parts (promised_by by_shell by_control by_subscriptions) new_taker
  set_on parts shell control subscriptions by_shell by_control by_subscriptions taker new_taker set one two three four =
      subst (λ (t : Taking (Event W)). IsSetUp parts (promised_by by_shell by_control by_subscriptions) t) (sym four)
      (subst (λ (s : Setup I S W). IsSetUp parts s taker)
      (sym (setup_is (promised_by by_shell by_control by_subscriptions) (given_to shell control subscriptions)
      (given_is _ _ one.side_is one.engine_is one.inbox_is) (given_is _ _ two.side_is two.engine_is two.inbox_is)
      three))
      set)
