-- Laws of how a peer is opened, and of what it comes to with a server.
use Rattle.std.specs.Prelude.{◌≡◌, ◌≢◌, ⊤, ℕ, List, ◌++◌, Bool, true, false, Result, Ok, Err}
use Rattle.zmtp_wire.specs.declared.fault.WireFault.TheVariants.{OutOfMemory}
use Rattle.zmtp_wire.specs.declared.handshake.socket_type.SocketType.{SocketType}
use Rattle.zmtp_wire.specs.declared.traffic.message.Message.{Message}
use Rattle.zmtp_connection.specs.declared.end.ConnectionEnd.{ConnectionEnd}
use Rattle.zmtp_connection.specs.declared.end.ConnectionEnd.TheVariants.{Eof, Wire, Failed}
use Rattle.zmtp_connection.specs.declared.end.Ending.{Ending}
use Rattle.zmtp_connection.specs.declared.end.Ending.TheVariants.{Connection, Host}
use Rattle.zmtp_connection.specs.declared.server.Answered.{Answered}
use Rattle.zmtp_connection.specs.declared.server.Answered.TheVariants.{Done, Dropped}
use Rattle.zmtp_connection.specs.Peer.{IsOpenPeer, IsTurnedAway}
use Rattle.zmtp_connection.specs.Server.{Answering, Serves}

-- no peer is both open and turned away
abbrev pub OpenOrTurnedAway : Type 0
OpenOrTurnedAway =
    (ours : SocketType) (octets opening other : List ℕ) (peer : SocketType) (behind : List ℕ) (ending : ConnectionEnd)
    → IsOpenPeer ours octets opening peer behind → IsTurnedAway ours octets other ending → ⊥

-- what the peer sent ended the connection, and not want of memory or a device
abbrev pub IsSettled : ConnectionEnd → Type 0
IsSettled Eof = ⊤
IsSettled (Wire fault) = fault ≢ OutOfMemory
IsSettled (Failed fault) = ⊥

-- What the peer sent ended the session. If the server ended it, a test tells whether that counts as the peer's doing.
abbrev pub IsSettledBy : {End : Type 0} → (End → Bool) → Ending End → Type 0
IsSettledBy settles (Connection end) = IsSettled end
IsSettledBy settles (Host end) = settles end ≡ true

-- What the peer sent ended the session for good, or the server ended it. The peer's last octet, want of memory and
-- devices don't end it for good.
abbrev pub IsFinal : {End : Type 0} → Ending End → Type 0
IsFinal (Connection end) = IsSettled end × (end ≢ Eof)
IsFinal (Host end) = ⊤

-- the session goes on after a message, or the message ended it in a way that the test allows
abbrev pub IsDone : {End : Type 0} → (End → Bool) → Result Answered End → Type 0
IsDone settles (Ok Done) = ⊤
IsDone settles (Ok Dropped) = ⊥
IsDone settles (Err end) = settles end ≡ true

-- A server is a function, as far as it ends in ways that the test allows. What it was and the message settle three
-- things: what it replies, what it is then, and whether the session goes on.
abbrev pub IsFunction : {Server End : Type 0} → (End → Bool) → Answering Server End → Type 0
IsFunction {Server} {End} settles answers =
    (old one other : Server) (message : Message) (reply also : List ℕ) (first second : Result Answered End)
    → IsDone settles first → IsDone settles second → answers old message reply one first
    → answers old message also other second
    → (reply ≡ also) × (one ≡ other) × (first ≡ second)

-- Say that a server is a function, and that what the peer sent ended the session, by the same test. Then what is
-- written, what the server is then, and the end have one value.
abbrev pub ServesOnce : {Server End : Type 0} → Answering Server End → Type 0
ServesOnce {Server} {End} answers =
    (settles : End → Bool) → IsFunction settles answers → (ours : SocketType) (old one other : Server)
    (octets written also : List ℕ) (ending end : Ending End) → IsSettledBy settles ending → IsSettledBy settles end
    → Serves false answers ours old octets written one ending → Serves false answers ours old octets also other end
    → (written ≡ also) × (one ≡ other) × (ending ≡ end)

-- If a fault, the command ERROR or the server ended a session, it stays as it is, whatever the peer sends after that.
abbrev pub ServesOn : {Server End : Type 0} → Answering Server End → Type 0
ServesOn {Server} {End} answers =
    (ours : SocketType) (old new : Server) (octets after written : List ℕ) (ending : Ending End) → IsFinal ending
    → Serves false answers ours old octets written new ending
    → Serves false answers ours old (octets ++ after) written new ending
