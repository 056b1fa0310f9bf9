-- What the relay's writer for a subscriber does with a piece.
use Rattle.std.specs.Prelude.{◌≡◌, ◌<◌, ◌≤◌, ⊤, ℕ, List, ◌++◌, length, take, Option, Some, None}
use Rattle.kernel_outlet.specs.declared.spout.Sent.{Sent}
use Rattle.kernel_outlet.specs.declared.spout.Sent.TheVariants.{Took, Full, Broken}
use Rattle.kernel_outlet.specs.Pipe.{Piping, Flows}
use Rattle.kernel_sockets.specs.declared.outgoing.Tried.{Tried}
use Rattle.kernel_sockets.specs.declared.outgoing.Tried.TheVariants.{Put, Waits, Failed}

-- a send took nothing
abbrev pub IsNotTaken : Sent → Type 0
IsNotTaken (Took count) = ⊥
IsNotTaken Full = ⊤
IsNotTaken Broken = ⊤

-- The first octets of a piece were put, one at least if there is one.
pub record PutsFirst (old new : Piping) (piece : List ℕ) (count : ℕ) : Type 0 where
  pub bound : count ≤ length piece
  pub some : 0 < length piece → 0 < count
  pub put : new.put ≡ old.put ++ take count piece
  pub failures : new.failures ≡ old.failures

-- the first octets of a piece were put, or there was no room
abbrev pub KeepsFirst : Piping → Piping → List ℕ → Option ℕ → Type 0
KeepsFirst old new piece (Some count) = PutsFirst old new piece count
KeepsFirst old new piece None = new ≡ old

-- what became of a piece: its first octets were put, or nothing was put
abbrev pub Tries : Piping → Piping → List ℕ → Tried → Type 0
Tries old new piece (Put count) = PutsFirst old new piece count
Tries old new piece Waits = Flows old new
Tries old new piece Failed = Flows old new
