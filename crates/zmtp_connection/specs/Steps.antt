-- The steps of an exchange, by what each of them did.
use Rattle.std.specs.Prelude.{◌≡◌, ◌⊎◌, ℕ, ◌+◌, ◌<◌, List, [], ◌++◌, length, false, Result, Ok, Err}
use Rattle.zmtp_wire.specs.declared.fault.WireFault.{WireFault}
use Rattle.zmtp_wire.specs.declared.fault.WireFault.TheVariants.{OutOfMemory}
use Rattle.zmtp_wire.specs.declared.handshake.socket_type.SocketType.{SocketType}
use Rattle.zmtp_wire.specs.declared.traffic.Traffic.{Traffic}
use Rattle.zmtp_wire.specs.declared.traffic.decoder.Fed.{Fed}
use Rattle.zmtp_wire.specs.Limits.{usual_limits}
use Rattle.zmtp_wire.specs.Grammar.{HasNoTraffic, IsFaulty, IsUnfinished}
use Rattle.zmtp_wire.specs.Decoding.{Decoding, Feeds}
use Rattle.zmtp_wire.specs.Device.{Outflow, Puts}
use Rattle.zmtp_wire.specs.Ready.{IsReady}
use Rattle.zmtp_connection.specs.declared.fault.ConnectionFault.TheVariants.{Memory, Read, Write, Turns}
use Rattle.zmtp_connection.specs.declared.end.ConnectionEnd.{ConnectionEnd}
use Rattle.zmtp_connection.specs.declared.end.ConnectionEnd.TheVariants.{Eof, Wire, Failed}
use Rattle.zmtp_connection.specs.Peer.{IsTurnedAway}
use Rattle.zmtp_connection.specs.Exchange.{Source, Leg, ComesToByEnd}

-- The last read that brought these octets, and what was read before it.
pub record LastRead (old new : Source) (octets : List ℕ) : Type 0 where
  pub front : List ℕ
  pub piece : List ℕ
  pub split : octets ≡ front ++ piece
  pub middle : Source
  pub before : Leg old middle front
  pub read : Leg middle new piece
  pub one : middle.turns ≡ new.turns + 1

-- The last read brought an octet at least of what comes before `behind`. So nothing was read after all of that had
-- come.
pub record IsPrompt (old new : Source) (octets behind : List ℕ) : Type 0 where
  pub last : LastRead old new octets
  pub needed : length behind < length last.piece

-- reading ended with nothing decided: by the last octet, a read that failed or a want of turns
abbrev pub IsStop : ConnectionEnd → Type 0
IsStop end = (end ≡ Eof) ⊎ ((end ≡ Failed Read) ⊎ (end ≡ Failed Turns))

-- a decoder that has read nothing
abbrev pub fresh : Decoding
fresh = record { limits = usual_limits; kept = []; spent = false }

-- what a decoder makes of octets, and what it is then, if they come in one piece
abbrev pub IsFed : Fed → Decoding → List ℕ → Type 0
IsFed fed decoder octets = Feeds fresh octets fed.traffic fed.fault decoder × (decoder.limits ≡ usual_limits)

-- Octets were written. Or a write failed, which ends it, and only a beginning of them was written.
abbrev pub PutsAll : Outflow → Outflow → List ℕ → Result Unit ConnectionEnd → Type 0
PutsAll before after octets (Ok done) = Puts before after octets 0
PutsAll before after octets (Err end) = (end ≡ Failed Write)
    × ((front : List ℕ) × (lost : List ℕ) × (octets ≡ front ++ lost) × (0 < length lost) × Puts before after front 1)

-- what a peer that wasn't open comes to, by the way the exchange ended
abbrev pub TurnsAway : SocketType → ConnectionEnd → List ℕ → List ℕ → Type 0
TurnsAway ours end octets written = ComesToByEnd (IsTurnedAway ours) octets written end

-- the first traffic after a peer's greeting is late: what was read before the last read has no whole traffic
pub record ComesLate (old new : Source) (octets : List ℕ) : Type 0 where
  pub last : LastRead old new octets
  pub nothing : HasNoTraffic usual_limits last.front

-- Octets after a peer's greeting bring no whole traffic. Reading stopped, or they are refused, or memory was refused.
abbrev pub BringsNothing : List ℕ → ConnectionEnd → Type 0
BringsNothing octets end = (IsStop end × IsUnfinished usual_limits octets)
    ⊎ ((fault : WireFault) × (end ≡ Wire fault) × ((fault ≡ OutOfMemory) ⊎ IsFaulty usual_limits octets fault))

-- a peer's first traffic doesn't open the connection: it is refused as its READY, or memory was refused
abbrev pub IsNotMet : SocketType → Traffic → ConnectionEnd → Type 0
IsNotMet ours first end =
    ((fault : WireFault) × (end ≡ Wire fault) × IsReady first ours (Err fault)) ⊎ (end ≡ Failed Memory)
