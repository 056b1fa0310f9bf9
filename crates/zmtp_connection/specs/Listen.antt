-- Listening to what a peer says after its READY: which traffic is handed on, and how listening ends.
use Rattle.std.specs.Prelude.{◌≡◌, ◌⊎◌, ℕ, List, [], ◌∷◌, ◌++◌, false, Result, Ok, Err}
use Rattle.zmtp_wire.specs.declared.fault.WireFault.{WireFault}
use Rattle.zmtp_wire.specs.declared.fault.WireFault.TheVariants.{OutOfMemory}
use Rattle.zmtp_wire.specs.declared.traffic.Traffic.{Traffic}
use Rattle.zmtp_wire.specs.Limits.{usual_limits}
use Rattle.zmtp_wire.specs.Grammar.{ReadsUpTo, IsUnfinished}
use Rattle.zmtp_wire.specs.Traffic.{is_error}
use Rattle.zmtp_connection.specs.declared.fault.ConnectionFault.TheVariants.{Memory}
use Rattle.zmtp_connection.specs.declared.end.ConnectionEnd.{ConnectionEnd}
use Rattle.zmtp_connection.specs.declared.end.ConnectionEnd.TheVariants.{Wire, Failed}
use Rattle.zmtp_connection.specs.declared.end.Ending.{Ending}
use Rattle.zmtp_connection.specs.declared.end.Ending.TheVariants.{Connection, Host}
use Rattle.zmtp_connection.specs.Peer.{IsCalm, BeginsWith, EndsBehind}
use Rattle.zmtp_connection.specs.Exchange.{Source, Leg, Reading}
use Rattle.zmtp_connection.specs.Steps.{IsPrompt, IsStop}

-- One step of a listener: what it was, the traffic that it hears, what it is then, and how it ends listening, if it
-- does.
abbrev pub Hearing : Type 0 → Type 0 → Type 1
Hearing Listener End = Listener → Traffic → Listener → Result Unit End → Type 0

-- traffic is heard in turn, and none of it ends listening
abbrev pub HearsAll : {Listener End : Type 0} → Hearing Listener End → Listener → List Traffic → Listener → Type 0
HearsAll hears old [] new = new ≡ old
HearsAll {Listener} hears old (first ∷ others) new =
    (middle : Listener) × hears old first middle (Ok tt) × HearsAll hears middle others new

-- All whole traffic with which octets begin was heard. None of it is the command ERROR, and none of it ended listening.
pub record Heard {Listener End : Type 0} (hears : Hearing Listener End) (old : Listener) (octets : List ℕ)
    (new : Listener) : Type 0 where
  pub traffic : List Traffic
  pub rest : List ℕ
  pub read : ReadsUpTo usual_limits octets traffic rest
  pub calm : IsCalm traffic
  pub handed : HearsAll hears old traffic new

-- nothing that the peer said ended listening: reading stopped, or no memory was left to read into
abbrev pub IsUndecided : ConnectionEnd → Type 0
IsUndecided end = IsStop end ⊎ (end ≡ Failed Memory)

-- How listening ends at what follows the last whole traffic. That isn't finished, and nothing was decided. Or it is
-- refused, or it begins with the command ERROR, or there was no memory for it.
abbrev pub RunsOut : List ℕ → ConnectionEnd → Type 0
RunsOut rest end = (IsUndecided end × IsUnfinished usual_limits rest)
    ⊎ ((fault : WireFault) × (end ≡ Wire fault) × ((fault ≡ OutOfMemory) ⊎ EndsBehind rest end))

-- All that the octets say was heard, and then the connection ended it. The arguments are what one call begins with and
-- ends with. So they are in the next two definitions.
pub record IsHeardOut {Listener End : Type 0} (hears : Hearing Listener End) (old : Listener) (before : List ℕ)
    (source source' : Source) (new : Listener) (end : ConnectionEnd) : Type 0 where
  pub octets : List ℕ
  pub reading : Reading source source' octets end
  pub heard : Heard hears old (before ++ octets) new
  pub ends : RunsOut heard.rest end

-- The listener ended it at one traffic, which isn't the command ERROR. After that had come nothing was read.
pub record IsBrokenOff {Listener End : Type 0} (hears : Hearing Listener End) (old : Listener) (before : List ℕ)
    (source source' : Source) (new : Listener) (end : End) : Type 0 where
  pub octets : List ℕ
  pub leg : Leg source source' octets
  pub now : Listener
  pub heard : Heard hears old (before ++ octets) now
  pub last : Traffic
  pub comes : BeginsWith heard.rest last
  pub harmless : is_error last ≡ false
  pub ends : hears now last new (Err end)
  pub prompt : (octets ≡ []) ⊎ IsPrompt source source' octets comes.behind

-- What a listener heard of these octets and of those that are read after them, and how it ended. The arguments are what
-- one call begins with and ends with.
abbrev pub Listens : {Listener End : Type 0} → Hearing Listener End → Listener → List ℕ → Source → Source → Listener
    → Ending End → Type 0
Listens hears old before source source' new (Connection end) = IsHeardOut hears old before source source' new end
Listens hears old before source source' new (Host end) = IsBrokenOff hears old before source source' new end
