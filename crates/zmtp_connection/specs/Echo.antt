-- The heartbeat ('Messaging in Jupyter' 5.3, "Heartbeat for kernels"; ZeroMQ RFC 37, rules `ping` and `pong`). The
-- messages of a peer of a REP socket come back, and its PINGs are answered.
use Rattle.std.specs.Prelude.{◌≡◌, ◌⊎◌, ℕ, List, [], ◌++◌, false, Result, Ok, Err}
use Rattle.std.specs.List.{flat_map}
use Rattle.zmtp_wire.specs.declared.handshake.socket_type.SocketType.{SocketType}
use Rattle.zmtp_wire.specs.declared.handshake.socket_type.SocketType.TheVariants.{Rep}
use Rattle.zmtp_wire.specs.declared.traffic.message.Message.{Message}
use Rattle.zmtp_wire.specs.declared.traffic.Traffic.{Traffic}
use Rattle.zmtp_wire.specs.declared.traffic.Traffic.TheVariants as traffic
use Rattle.zmtp_wire.specs.Frame.{text}
use Rattle.zmtp_wire.specs.Limits.{usual_limits}
use Rattle.zmtp_wire.specs.Grammar.{ReadsUpTo}
use Rattle.zmtp_wire.specs.Ping.{pong_to}
use Rattle.zmtp_wire.specs.Traffic.{is_error}
use Rattle.zmtp_connection.specs.declared.server.Answered.{Answered}
use Rattle.zmtp_connection.specs.declared.server.Answered.TheVariants.{Done, Dropped}
use Rattle.zmtp_connection.specs.declared.fault.ConnectionFault.TheVariants.{Memory, Write}
use Rattle.zmtp_connection.specs.declared.end.ConnectionEnd.{ConnectionEnd}
use Rattle.zmtp_connection.specs.declared.end.ConnectionEnd.TheVariants.{Failed}
use Rattle.zmtp_connection.specs.Peer.{IsCalm, BeginsWith, IsOpenPeer}
use Rattle.zmtp_connection.specs.Listen.{RunsOut}
use Rattle.zmtp_connection.specs.Server.{BreaksIn}
use Rattle.zmtp_connection.specs.Steps.{TurnsAway}

-- A message is answered by its own text. If memory is wanting it is answered by nothing, and that ends it.
abbrev pub EchoesOne : {End : Type 0} → Message → List ℕ → Result Answered End → Type 0
EchoesOne message reply (Ok Done) = reply ≡ text message
EchoesOne message reply (Ok Dropped) = ⊥
EchoesOne message reply (Err end) = reply ≡ []

-- what comes back of traffic: the text of a message, the PONG of a PING, and nothing of another command
abbrev pub echo_of : Traffic → List ℕ
echo_of (traffic.Message message) = text message
echo_of (traffic.Command name rest) = pong_to (traffic.Command name rest)

-- The heartbeat ended at one traffic, after other traffic that came back. There was no memory for it, or a write of
-- what comes back of it failed. It isn't the command ERROR.
pub record IsCutShort (opening : List ℕ) (traffic : List Traffic) (rest written : List ℕ) (end : ConnectionEnd)
    : Type 0 where
  pub last : Traffic
  pub comes : BeginsWith rest last
  pub harmless : is_error last ≡ false
  pub how : ((end ≡ Failed Memory) × (written ≡ opening ++ flat_map echo_of traffic))
      ⊎ ((end ≡ Failed Write) × BreaksIn (opening ++ flat_map echo_of traffic) (echo_of last) written)

-- A peer was open. After what opens the connection each of its messages came back whole, and each of its PINGs had its
-- PONG.
pub record IsEchoed (octets written : List ℕ) (end : ConnectionEnd) : Type 0 where
  pub opening : List ℕ
  pub peer : SocketType
  pub behind : List ℕ
  pub is_open : IsOpenPeer Rep octets opening peer behind
  pub traffic : List Traffic
  pub rest : List ℕ
  pub read : ReadsUpTo usual_limits behind traffic rest
  pub calm : IsCalm traffic
  pub ends : (RunsOut rest end × (written ≡ opening ++ flat_map echo_of traffic))
      ⊎ IsCutShort opening traffic rest written end

-- what a peer comes to with the heartbeat, by the way it ended: the peer was turned away, or its messages came back
abbrev pub Echoes : ConnectionEnd → List ℕ → List ℕ → Type 0
Echoes end octets written = TurnsAway Rep end octets written ⊎ IsEchoed octets written end
