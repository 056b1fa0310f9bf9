-- An exchange with a peer over an inlet and an outlet: what was read and written, and in how many turns. What that
-- comes to depends on the way the exchange ended.
use Rattle.std.specs.Prelude.{◌≡◌, ◌⊎◌, ℕ, ◌+◌, ◌<◌, ◌≤◌, List, ◌++◌, length, Option, Some, None}
use Rattle.std.specs.Io.KnownBytes.{IsAtEnd}
use Rattle.zmtp_wire.specs.declared.fault.WireFault.TheVariants.{OutOfMemory}
use Rattle.zmtp_wire.specs.Device.{Inflow, Outflow, Draws, Puts}
use Rattle.zmtp_connection.specs.declared.fault.ConnectionFault.TheVariants.{Memory, Read, Write, Turns}
use Rattle.zmtp_connection.specs.declared.end.ConnectionEnd.{ConnectionEnd}
use Rattle.zmtp_connection.specs.declared.end.ConnectionEnd.TheVariants.{Eof, Wire, Failed}

-- What is read from: an inlet, and how many turns are left.
pub record Source : Type 0 where
  pub inflow : Inflow
  pub turns : ℕ

-- The devices of a connection: what is read from, and what is written to.
pub record Devices : Type 0 where
  pub source : Source
  pub outflow : Outflow

-- an inlet, with so many turns left
abbrev pub source_at : Inflow → ℕ → Source
source_at inflow turns = record { inflow = inflow; turns = turns }

-- an inlet, with so many turns left, and an outlet
abbrev pub devices_at : Inflow → ℕ → Outflow → Devices
devices_at inflow turns outflow = record { source = source_at inflow turns; outflow = outflow }

-- reads and writes that came to nothing: reads that failed, reads that gave no octet, and writes that failed
pub record Misses : Type 0 where
  pub failed_reads : ℕ
  pub empty_reads : ℕ
  pub failed_writes : ℕ

-- no read and no write came to nothing
abbrev pub no_misses : Misses
no_misses = record { failed_reads = 0; empty_reads = 0; failed_writes = 0 }

-- the misses of an exchange that the connection ended so: the read or the write that ended it, or none
abbrev pub misses : ConnectionEnd → Misses
misses Eof = record { failed_reads = 0; empty_reads = 1; failed_writes = 0 }
misses (Wire fault) = no_misses
misses (Failed Memory) = no_misses
misses (Failed Read) = record { failed_reads = 1; empty_reads = 1; failed_writes = 0 }
misses (Failed Write) = record { failed_reads = 0; empty_reads = 0; failed_writes = 1 }
misses (Failed Turns) = no_misses

-- how many reads failed: the one that ended the exchange, or none
abbrev pub failed_reads : ConnectionEnd → ℕ
failed_reads end = (misses end).failed_reads

-- how many reads gave no octet: the one that found the end or failed, or none
abbrev pub empty_reads : ConnectionEnd → ℕ
empty_reads end = (misses end).empty_reads

-- how many writes failed: the one that ended the exchange, or none
abbrev pub failed_writes : ConnectionEnd → ℕ
failed_writes end = (misses end).failed_writes

-- how many writes failed of an exchange that the connection ended, or none if it didn't end it
abbrev pub failed_writes_of : Option ConnectionEnd → ℕ
failed_writes_of (Some end) = failed_writes end
failed_writes_of None = 0

-- no turn is left if the exchange ended for want of one
abbrev pub IsOutOfTurns : ℕ → ConnectionEnd → Type 0
IsOutOfTurns left end = end ≡ Failed Turns → left ≡ 0

-- no octet is left if the exchange ended with the peer's last one
abbrev pub IsReadOut : Option (List ℕ) → ConnectionEnd → Type 0
IsReadOut left end = end ≡ Eof → IsAtEnd left

-- These octets were read. Each read took one turn, there were no more reads than octets, and none failed.
pub record Leg (old new : Source) (octets : List ℕ) : Type 0 where
  pub taken : ℕ
  pub draws : Draws old.inflow new.inflow octets taken 0
  pub counted : old.turns ≡ new.turns + taken
  pub few : taken ≤ length octets

-- What was read up to the end of an exchange. Each read took one turn. There were no more reads than octets, but for
-- the one that found the end or failed.
pub record Reading (old new : Source) (octets : List ℕ) (end : ConnectionEnd) : Type 0 where
  pub taken : ℕ
  pub draws : Draws old.inflow new.inflow octets taken (failed_reads end)
  pub counted : old.turns ≡ new.turns + taken
  pub few : taken ≤ length octets + empty_reads end
  pub spent : IsOutOfTurns new.turns end
  pub read_out : IsReadOut new.inflow.left end

-- What was read up to the end of an exchange. If the connection didn't end it, no read failed or found the end.
abbrev pub ReadingOf : Source → Source → List ℕ → Option ConnectionEnd → Type 0
ReadingOf old new octets (Some end) = Reading old new octets end
ReadingOf old new octets None = Leg old new octets

-- These octets were written: all that a beginning of the octets that were read comes to.
pub record IsCut (Comes : List ℕ → List ℕ → ConnectionEnd → Type 0) (octets written : List ℕ) : Type 0 where
  pub front : List ℕ
  pub behind : List ℕ
  pub split : octets ≡ front ++ behind
  pub so_far : Comes front written Eof

-- What the octets that were read come to, by the way the exchange ended. If the peer's octets ended it, that is what
-- all of them come to. If a read failed or no turn was left, it is what they come to so far. If memory was refused, all
-- was written that a beginning of them comes to. If a write failed, only a part of that was written.
abbrev pub ComesToByEnd : (List ℕ → List ℕ → ConnectionEnd → Type 0) → List ℕ → List ℕ → ConnectionEnd → Type 0
ComesToByEnd Comes octets written Eof = Comes octets written Eof
ComesToByEnd Comes octets written (Wire fault) =
    ((fault ≡ OutOfMemory) × IsCut Comes octets written) ⊎ Comes octets written (Wire fault)
ComesToByEnd Comes octets written (Failed Read) = Comes octets written Eof
ComesToByEnd Comes octets written (Failed Turns) = Comes octets written Eof
ComesToByEnd Comes octets written (Failed Write) =
    (lost : List ℕ) × (0 < length lost) × IsCut Comes octets (written ++ lost)
ComesToByEnd Comes octets written (Failed Memory) = IsCut Comes octets written

-- A whole exchange, and how the connection ended it, or none if it didn't. It says what was read, what was written, and
-- that the one comes to the other. Any read and any write may fail, but no exchange has both. So what is due is written
-- before a read, and nothing is written after a read that failed.
pub record Exchange (Comes : List ℕ → List ℕ → Type 0) (old new : Devices) (end : Option ConnectionEnd)
    : Type 0 where
  pub read : List ℕ
  pub written : List ℕ
  pub reading : ReadingOf old.source new.source read end
  pub puts : Puts old.outflow new.outflow written (failed_writes_of end)
  pub outcome : Comes read written
