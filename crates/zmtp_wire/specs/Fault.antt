-- The numbers by which a program reports the faults of the wire.
use Rattle.std.specs.Prelude.{ℕ}
use Rattle.zmtp_wire.specs.declared.fault.WireFault.{WireFault}
use Rattle.zmtp_wire.specs.declared.fault.WireFault.TheVariants.{Signature, Version, Mechanism, Flags, FrameTooLong}
use Rattle.zmtp_wire.specs.declared.fault.WireFault.TheVariants.{TooManyFrames, MessageTooLong, Command, Pairing}
use Rattle.zmtp_wire.specs.declared.fault.WireFault.TheVariants.{PeerError, Spent, OutOfMemory}

-- the number of a fault; they count from 1 on, in the order in which the faults are listed
abbrev pub wire_fault_number : WireFault → ℕ
wire_fault_number Signature = 1
wire_fault_number Version = 2
wire_fault_number Mechanism = 3
wire_fault_number Flags = 4
wire_fault_number FrameTooLong = 5
wire_fault_number TooManyFrames = 6
wire_fault_number MessageTooLong = 7
wire_fault_number Command = 8
wire_fault_number Pairing = 9
wire_fault_number PeerError = 10
wire_fault_number Spent = 11
wire_fault_number OutOfMemory = 12
