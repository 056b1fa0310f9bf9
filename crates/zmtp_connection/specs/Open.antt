-- An open peer, whose handshake is done (ZeroMQ RFC 23, rule `null`), and what is left to hear of it.
use Rattle.std.specs.Prelude.{◌≡◌, ⊤, List, ℕ, Option, Some, None}
use Rattle.zmtp_wire.specs.declared.handshake.socket_type.SocketType.{SocketType}
use Rattle.zmtp_wire.specs.Device.{Puts}
use Rattle.zmtp_wire.specs.Ready.{IsIdentity}
use Rattle.zmtp_connection.specs.declared.shaking.Unheard.{Unheard}
use Rattle.zmtp_connection.specs.Peer.{IsOpenPeer}
use Rattle.zmtp_connection.specs.Exchange.{Devices, Leg}
use Rattle.zmtp_connection.specs.Steps.{IsPrompt, IsFed}

-- what is left to hear is what a decoder made of these octets
abbrev pub IsLeftOf : Unheard → List ℕ → Type 0
IsLeftOf unheard octets = IsFed unheard.fed unheard.decoder octets

-- if something is left to hear, a decoder made it of some octets
abbrev pub IsLeft : Option Unheard → Type 0
IsLeft None = ⊤
IsLeft (Some unheard) = (octets : List ℕ) × IsLeftOf unheard octets

-- An open peer: its socket type, and its identity, which is empty if it gave none. It also has what came with its READY
-- and is left to hear, or none once that was heard.
pub record Open : Type 0 where
  pub socket : SocketType
  pub identity : List ℕ
  pub unheard : Option Unheard

-- an open peer after it was heard: nothing is left to hear of it
abbrev pub once_heard : Open → Open
once_heard peer = record { socket = peer.socket; identity = peer.identity; unheard = None }

-- an open peer has something left to hear, which is made of these octets after its READY
abbrev pub Holds : Open → List ℕ → Type 0
Holds peer behind = (unheard : Unheard) × (peer.unheard ≡ Some unheard) × IsLeftOf unheard behind

-- Hands were shaken with a peer: these octets were read and written. These octets follow the peer's READY, and what
-- they say is left to hear. The peer's identity is that of its READY. After the READY had come no read was made.
pub record ShakesHands (ours : SocketType) (old new : Devices) (peer : Open) : Type 0 where
  pub read : List ℕ
  pub written : List ℕ
  pub behind : List ℕ
  pub leg : Leg old.source new.source read
  pub puts : Puts old.outflow new.outflow written 0
  pub is_open : IsOpenPeer ours read written peer.socket behind
  pub identified : IsIdentity is_open.first peer.identity
  pub holds : Holds peer behind
  pub prompt : IsPrompt old.source new.source read behind
