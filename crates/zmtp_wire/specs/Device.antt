-- Devices, from which octets are read and to which they are written: what they tell, and counts that contracts alone
-- see.
use Rattle.std.specs.Prelude.{◌≡◌, ℕ, zero, suc, ◌+◌, ◌<◌, min, List, ◌++◌, length, take, Option, Result, Ok}
use Rattle.std.specs.Prelude.{Err}
use Rattle.std.specs.Io.KnownBytes.{Appends, Consumes, IsAtEnd, Keeps}
use Rattle.zmtp_wire.specs.declared.device.ReadFailed.{ReadFailed}
use Rattle.zmtp_wire.specs.declared.device.WriteFailed.{WriteFailed}

-- the greatest count, 2 ^ 64 - 1, at which a count stays
abbrev pub greatest_count : ℕ
greatest_count = 18446744073709551615

-- A count after one more. The greatest count stays as it is, though it has risen.
abbrev pub risen : ℕ → ℕ
risen count = min (count + 1) greatest_count

-- a count after this many more
abbrev pub risen_by : ℕ → ℕ → ℕ
risen_by zero count = count
risen_by (suc many) count = risen (risen_by many count)

-- an inlet: the octets that it has left, if it tells them; how often it was read; how many of these reads failed
pub record Inflow : Type 0 where
  pub left : Option (List ℕ)
  pub reads : ℕ
  pub failures : ℕ

-- an outlet: the octets that were written, if it tells them; how many writes failed or took nothing of a piece
pub record Outflow : Type 0 where
  pub written : Option (List ℕ)
  pub failures : ℕ

-- What a read does. Each read raises the count of reads. It takes the first of the octets that are left into the front
-- of the buffer. It takes none only if none is left or the buffer is empty. Or it fails, takes none, and raises the
-- count of failures.
abbrev pub ReadTakes : Inflow → Inflow → Result ℕ ReadFailed → List ℕ → Type 0
ReadTakes old new (Ok count) buffer =
    Consumes old.left new.left (take count buffer) × (count ≡ 0 → 0 < length buffer → IsAtEnd new.left)
    × (new.reads ≡ risen old.reads) × (new.failures ≡ old.failures)
ReadTakes old new (Err failed) buffer =
    Keeps old.left new.left × (new.reads ≡ risen old.reads) × (new.failures ≡ risen old.failures)

-- how many failures a write is that took so many octets of a piece: one if it took none of a piece that isn't empty,
-- and else none
abbrev pub idle_writes : ℕ → ℕ → ℕ
idle_writes zero (suc length) = 1
idle_writes zero zero = 0
idle_writes (suc taken) length = 0

-- What a write does. It adds the octets that it takes, which are the first of the piece, or it fails and adds none. If
-- it fails, or takes nothing of a piece that isn't empty, it raises the count of failures.
abbrev pub WriteAdds : Outflow → Outflow → Result ℕ WriteFailed → List ℕ → Type 0
WriteAdds old new (Ok count) piece =
    Appends old.written new.written (take count piece)
    × (new.failures ≡ risen_by (idle_writes count (length piece)) old.failures)
WriteAdds old new (Err failed) piece = Keeps old.written new.written × (new.failures ≡ risen old.failures)

-- So many reads, one after the other, took these octets, and so many of the reads failed.
pub record Draws (old new : Inflow) (octets : List ℕ) (count failures : ℕ) : Type 0 where
  pub taken : Consumes old.left new.left octets
  pub reads : new.reads ≡ risen_by count old.reads
  pub fails : new.failures ≡ risen_by failures old.failures

-- Writes, one after the other, added these octets, and so many of them failed or took nothing.
pub record Puts (old new : Outflow) (octets : List ℕ) (failures : ℕ) : Type 0 where
  pub added : Appends old.written new.written octets
  pub fails : new.failures ≡ risen_by failures old.failures

-- All of the octets were added. Or a write failed or took nothing, and only a beginning of them was added before.
abbrev pub AddsAll : Outflow → Outflow → Result Unit WriteFailed → List ℕ → Type 0
AddsAll old new (Ok done) octets = Puts old new octets 0
AddsAll old new (Err failed) octets = (front : List ℕ) × (lost : List ℕ) × (octets ≡ front ++ lost)
    × (0 < length lost) × Puts old new front 1

-- a device of the standard library and its three counts: reads, failed reads, failed writes
pub record Counting (Device : Type 0) : Type 0 where
  pub device : Device
  pub reads : ℕ
  pub failed_reads : ℕ
  pub failed_writes : ℕ

-- what a reader with its counts is as an inlet, by the octets that it has left
abbrev pub inflow_of : {Device : Type 0} → (Device → Option (List ℕ)) → Counting Device → Inflow
inflow_of remaining counted = record {
  left = remaining counted.device;
  reads = counted.reads;
  failures = counted.failed_reads;
}

-- what a writer with its counts is as an outlet, by the octets that it holds
abbrev pub outflow_of : {Device : Type 0} → (Device → Option (List ℕ)) → Counting Device → Outflow
outflow_of contents counted = record { written = contents counted.device; failures = counted.failed_writes }
