-- The numbers of the queue's faults; they count from 60 on.
use Rattle.std.specs.Prelude.{ℕ}
use Rattle.iopub_queue.specs.declared.fault.OpenFault.{OpenFault}
use Rattle.iopub_queue.specs.declared.fault.OpenFault.TheVariants.{Count, Capacity, OutOfMemory}
use Rattle.iopub_queue.specs.declared.plain_core.CoreFault.{CoreFault}
use Rattle.iopub_queue.specs.declared.plain_core.CoreFault.TheVariants.{NotAllowed}
use Rattle.iopub_queue.specs.declared.plain_core.CoreFault.TheVariants.{OutOfMemory as NoMemory}

-- the number of a fault of opening
abbrev pub open_fault_number : OpenFault → ℕ
open_fault_number Count = 60
open_fault_number Capacity = 61
open_fault_number OutOfMemory = 62

-- the number of a fault of the core
abbrev pub core_fault_number : CoreFault → ℕ
core_fault_number (NotAllowed place) = 63
core_fault_number NoMemory = 64
