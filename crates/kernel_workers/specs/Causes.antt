-- Why a worker ends.
use Rattle.std.specs.Prelude.{Bool, Option, Some, None}
use Rattle.kernel_engine.specs.declared.fault.EngineFault.{EngineFault}
use Rattle.kernel_engine.specs.declared.fault.EngineFault.TheVariants as faults
use Rattle.kernel_engine.specs.declared.asked.Done.{Done}
use Rattle.kernel_engine.specs.declared.asked.Done.TheVariants as came
use Rattle.kernel_engine.specs.declared.does.Order.{Order}
use Rattle.kernel_engine.specs.declared.does.Order.TheVariants.{GoOn, Interrupt, End}
use Rattle.kernel_workers.specs.declared.ended.Cause.{Cause}
use Rattle.kernel_workers.specs.declared.ended.Cause.TheVariants.{Told, Shutdown, Asked, Worn}

-- whether the kernel is to begin anew, if a request for a shutdown ended the worker
abbrev pub restart_of : Cause → Option Bool
restart_of Told = None
restart_of (Shutdown restart) = Some restart
restart_of (Asked asking) = None
restart_of Worn = None

-- What a request for a shutdown that was left for later says of whether the kernel is to begin anew. If the request was
-- refused, it says nothing.
abbrev pub shutdown_word : Option EngineFault → Bool → Option Bool
shutdown_word None restart = Some restart
shutdown_word (Some fault) restart = None

-- the cause that an order is, if it ends the worker
abbrev pub cause_of_order : Order → Option Cause
cause_of_order GoOn = None
cause_of_order Interrupt = None
cause_of_order (End restart) = Some (Shutdown restart)

-- the cause that a fault is, if it ends the worker: only that all ids were given does
abbrev pub cause_of_fault : EngineFault → Option Cause
cause_of_fault (faults.OwedIdle request) = None
cause_of_fault faults.Memory = None
cause_of_fault faults.Worn = Some Worn

-- why the worker ends after what came of a message, if it does
abbrev pub cause_of : Done → Option Cause
cause_of came.Ignored = None
cause_of came.Lost = None
cause_of (came.Handled handled) = cause_of_order handled.order
cause_of (came.Refused fault) = cause_of_fault fault
