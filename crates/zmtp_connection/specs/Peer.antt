-- Whether a peer is open, and how its octets end the connection (ZeroMQ RFC 23, rules `greeting`, `null`, `traffic` and
-- `error`).
use Rattle.std.specs.Prelude.{◌≡◌, ◌⊎◌, ℕ, ◌<◌, ◌≤◌, List, [], ◌∷◌, ◌++◌, length, take, drop, true, false, Ok}
use Rattle.std.specs.Prelude.{Err, ⊤}
use Rattle.zmtp_wire.specs.declared.fault.WireFault.{WireFault}
use Rattle.zmtp_wire.specs.declared.fault.WireFault.TheVariants.{PeerError}
use Rattle.zmtp_wire.specs.declared.handshake.socket_type.SocketType.{SocketType}
use Rattle.zmtp_wire.specs.declared.traffic.Traffic.{Traffic}
use Rattle.zmtp_wire.specs.Limits.{usual_limits}
use Rattle.zmtp_wire.specs.Grammar.{Spells, IsFaulty, IsUnfinished}
use Rattle.zmtp_wire.specs.Greeting.{greeting_octets, IsGreeting, IsRefusedGreeting}
use Rattle.zmtp_wire.specs.Ready.{IsReady, ready_octets}
use Rattle.zmtp_wire.specs.Traffic.{is_error}
use Rattle.zmtp_connection.specs.declared.end.ConnectionEnd.{ConnectionEnd}
use Rattle.zmtp_connection.specs.declared.end.ConnectionEnd.TheVariants.{Eof, Wire, Failed}

-- none of the traffic is the command ERROR
abbrev pub IsCalm : List Traffic → Type 0
IsCalm [] = ⊤
IsCalm (first ∷ others) = (is_error first ≡ false) × IsCalm others

-- The octets begin with a spelling of this traffic.
pub record BeginsWith (octets : List ℕ) (first : Traffic) : Type 0 where
  pub front : List ℕ
  pub behind : List ℕ
  pub split : octets ≡ front ++ behind
  pub spelled : Spells usual_limits front first

-- How the octets after the last whole traffic end a connection. The peer has sent its last octet and they aren't
-- finished, or there is a fault in them.
abbrev pub EndsAs : List ℕ → ConnectionEnd → Type 0
EndsAs rest Eof = IsUnfinished usual_limits rest
EndsAs rest (Wire fault) = IsFaulty usual_limits rest fault
EndsAs rest (Failed fault) = ⊥

-- the octets begin with the command ERROR, whatever it says and whatever follows it
abbrev pub BeginsWithError : List ℕ → Type 0
BeginsWithError octets = (last : Traffic) × BeginsWith octets last × (is_error last ≡ true)

-- how the octets after traffic without the command ERROR end a connection: by that command, or else as `EndsAs` says
abbrev pub EndsBehind : List ℕ → ConnectionEnd → Type 0
EndsBehind rest ending = ((ending ≡ Wire PeerError) × BeginsWithError rest) ⊎ EndsAs rest ending

-- the peer has sent its last octet, and its greeting isn't whole
pub record IsSilent (octets opening : List ℕ) (ending : ConnectionEnd) : Type 0 where
  pub short : length octets < 64
  pub greets : opening ≡ greeting_octets
  pub ends : ending ≡ Eof

-- the peer's greeting is refused, and nothing more is written
pub record IsNotGreeted (octets opening : List ℕ) (ending : ConnectionEnd) : Type 0 where
  pub fault : WireFault
  pub whole : 64 ≤ length octets
  pub refused : IsRefusedGreeting (take 64 octets) fault
  pub greets : opening ≡ greeting_octets
  pub ends : ending ≡ Wire fault

-- the peer's greeting is accepted, and our READY is written
pub record IsGreeted (ours : SocketType) (octets opening : List ℕ) : Type 0 where
  pub whole : 64 ≤ length octets
  pub accepted : IsGreeting (take 64 octets)
  pub greets : opening ≡ greeting_octets ++ ready_octets ours

-- after the peer's greeting no traffic comes whole, and this ends the connection
pub record IsNotReady (ours : SocketType) (octets opening : List ℕ) (ending : ConnectionEnd) : Type 0 where
  pub greeted : IsGreeted ours octets opening
  pub ends : EndsAs (drop 64 octets) ending

-- this is the first traffic after the peer's greeting, and these octets follow it
pub record ComesFirst (octets : List ℕ) (first : Traffic) (behind : List ℕ) : Type 0 where
  pub front : List ℕ
  pub split : drop 64 octets ≡ front ++ behind
  pub spelled : Spells usual_limits front first

-- the first traffic of the peer is refused as its READY, and nothing more is written
pub record IsNotPaired (ours : SocketType) (octets opening : List ℕ) (ending : ConnectionEnd) : Type 0 where
  pub greeted : IsGreeted ours octets opening
  pub first : Traffic
  pub behind : List ℕ
  pub comes : ComesFirst octets first behind
  pub fault : WireFault
  pub refused : IsReady first ours (Err fault)
  pub ends : ending ≡ Wire fault

-- The peer isn't open: what is written to it by then, and how its octets end the connection.
abbrev pub IsTurnedAway : SocketType → List ℕ → List ℕ → ConnectionEnd → Type 0
IsTurnedAway ours octets opening ending =
    IsSilent octets opening ending ⊎ (IsNotGreeted octets opening ending
    ⊎ (IsNotReady ours octets opening ending ⊎ IsNotPaired ours octets opening ending))

-- The peer is open: its greeting and its READY are accepted, and these octets follow its READY.
pub record IsOpenPeer (ours : SocketType) (octets opening : List ℕ) (peer : SocketType) (behind : List ℕ) : Type 0 where
  pub greeted : IsGreeted ours octets opening
  pub first : Traffic
  pub comes : ComesFirst octets first behind
  pub accepted : IsReady first ours (Ok (record { peer = peer }))
