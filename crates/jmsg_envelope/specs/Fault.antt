-- The numbers of the faults of an envelope; they count from 20 on.
use Rattle.std.specs.Prelude.{ℕ}
use Rattle.jmsg_envelope.specs.declared.fault.EnvelopeFault.{EnvelopeFault}
use Rattle.jmsg_envelope.specs.declared.fault.EnvelopeFault.TheVariants.{NoDelimiter, TooFewParts, BadSignature}
use Rattle.jmsg_envelope.specs.declared.fault.EnvelopeFault.TheVariants.{BadHeader, OutOfMemory}

-- the number of a fault, for a report that has room for a number only
abbrev pub envelope_fault_number : EnvelopeFault → ℕ
envelope_fault_number NoDelimiter = 20
envelope_fault_number TooFewParts = 21
envelope_fault_number BadSignature = 22
envelope_fault_number BadHeader = 23
envelope_fault_number OutOfMemory = 24
