-- A pipe: what was put into it, what its spout has accepted of that, and what is kept.
use Rattle.std.specs.Prelude.{◌≡◌, ◌<◌, ℕ, Bool, true, false, List, [], ◌++◌, length, drop}
use Rattle.std.specs.Prelude.{Some}
use Rattle.zmtp_wire.specs.Device.{Outflow}
use Rattle.kernel_limits.specs.declared.chunk.Chunk.{Chunk}
use Rattle.kernel_limits.specs.Kept.{chunk_octets}
use Rattle.kernel_outlet.specs.declared.pipe.Flushed.{Flushed}
use Rattle.kernel_outlet.specs.declared.pipe.Flushed.TheVariants.{All, Part, Full, Failed}

-- What contracts see of a pipe: the octets that were put into it, those that its spout has
-- accepted, and those that are kept; whether it has failed; and how many puts failed.
pub record Piping : Type 0 where
  pub put : List ℕ
  pub accepted : List ℕ
  pub kept : List ℕ
  pub has_failed : Bool
  pub failures : ℕ

-- these octets are a beginning of those
pub record IsBeginning (front whole : List ℕ) : Type 0 where
  pub rest : List ℕ
  pub split : whole ≡ front ++ rest

-- What a pipe is always like. What was accepted is a beginning of what was put; and as long as it
-- hasn't failed, what was accepted and then what is kept is all that was put. If it has failed
-- nothing is kept.
pub record AddsUp (put accepted kept : List ℕ) (has_failed : Bool) : Type 0 where
  pub beginning : IsBeginning accepted put
  pub whole : has_failed ≡ false → put ≡ accepted ++ kept
  pub none : has_failed ≡ true → kept ≡ []

-- what is kept: what is left of the chunk that is being sent, and then the others
abbrev pub pending : Chunk → ℕ → List ℕ → List ℕ
pending front gone kept = drop gone (chunk_octets front) ++ kept

-- What a pipe's flush leaves: nothing was put, none failed, and more of what was put was accepted.
pub record Flows (old new : Piping) : Type 0 where
  pub put : new.put ≡ old.put
  pub failures : new.failures ≡ old.failures
  pub accepted : IsBeginning old.accepted new.accepted

-- a pipe that has failed: nothing is kept any more
abbrev pub failed : Piping → Piping
failed pipe = record pipe { kept = []; has_failed = true }

-- The first octets of what was kept were accepted, one at least.
pub record Passes (old new : Piping) : Type 0 where
  pub front : List ℕ
  pub some : 0 < length front
  pub kept : old.kept ≡ front ++ new.kept
  pub new_is : new ≡ record old { accepted = old.accepted ++ front; kept = new.kept }

-- what one send leaves of a pipe
abbrev pub SendsOnce : Piping → Piping → Flushed → Type 0
SendsOnce old new All = (new ≡ old) × (old.kept ≡ [])
SendsOnce old new Part = Passes old new
SendsOnce old new Full = new ≡ old
SendsOnce old new Failed = new ≡ failed old

-- what a flush leaves of a pipe, by why it ended
abbrev pub Flushes : Piping → Piping → Flushed → Type 0
Flushes old new All = Flows old new × (new.has_failed ≡ old.has_failed) × (new.kept ≡ [])
Flushes old new Part = Flows old new × (new.has_failed ≡ old.has_failed)
Flushes old new Full = Flows old new × (new.has_failed ≡ old.has_failed)
Flushes old new Failed = Flows old new × (new.has_failed ≡ true)

-- a pipe into which nothing was put yet
abbrev pub new_pipe : Piping
new_pipe = record { put = []; accepted = []; kept = []; has_failed = false; failures = 0 }

-- a pipe as an outlet: it tells what was put into it
abbrev pub piping_outflow : Piping → Outflow
piping_outflow pipe = record { written = Some pipe.put; failures = pipe.failures }

-- octets were put into a pipe, and are kept
abbrev pub putting : Piping → List ℕ → Piping
putting pipe octets = record pipe { put = pipe.put ++ octets; kept = pipe.kept ++ octets }
