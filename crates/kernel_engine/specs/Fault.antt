-- The numbers of the faults of an engine.
use Rattle.std.specs.Prelude.{ℕ}
use Rattle.kernel_engine.specs.declared.fault.EngineFault.{EngineFault}
use Rattle.kernel_engine.specs.declared.fault.EngineFault.TheVariants.{OwedIdle, Memory, Worn}

-- The number of a fault. 70: an idle is owed and was refused again, and the request comes back. 71: memory was wanting,
-- or the sink refused. 75: all message ids were given. The numbers between are those of a connection.
abbrev pub engine_fault_number : EngineFault → ℕ
engine_fault_number (OwedIdle request) = 70
engine_fault_number Memory = 71
engine_fault_number Worn = 75
