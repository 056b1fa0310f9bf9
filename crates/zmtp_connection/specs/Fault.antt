-- The numbers of the faults of a connection.
use Rattle.std.specs.Prelude.{ℕ}
use Rattle.zmtp_connection.specs.declared.fault.ConnectionFault.{ConnectionFault}
use Rattle.zmtp_connection.specs.declared.fault.ConnectionFault.TheVariants.{Memory, Read, Write, Turns}

-- The number of a fault. 71: memory was refused. 72: a read failed. 73: a write failed. 74: no turn was left.
abbrev pub connection_fault_number : ConnectionFault → ℕ
connection_fault_number Memory = 71
connection_fault_number Read = 72
connection_fault_number Write = 73
connection_fault_number Turns = 74
