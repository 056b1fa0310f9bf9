-- What a server makes of what a peer says. A PING is answered by its PONG (ZeroMQ RFC 37, rules `ping` and `pong`).
use Rattle.std.specs.Prelude.{◌≡◌, ◌⊎◌, ⊤, ℕ, ◌<◌, List, [], ◌∷◌, ◌++◌, length, Bool, true, false, Result, Ok}
use Rattle.std.specs.Prelude.{Err}
use Rattle.std.proofs.Common.{inl, inr}
use Rattle.zmtp_wire.specs.declared.handshake.socket_type.SocketType.{SocketType}
use Rattle.zmtp_wire.specs.declared.traffic.message.Message.{Message}
use Rattle.zmtp_wire.specs.declared.traffic.Traffic.{Traffic}
use Rattle.zmtp_wire.specs.declared.traffic.Traffic.TheVariants as traffic
use Rattle.zmtp_wire.specs.Limits.{usual_limits}
use Rattle.zmtp_wire.specs.Grammar.{ReadsUpTo}
use Rattle.zmtp_wire.specs.Ping.{pong_to}
use Rattle.zmtp_wire.specs.Traffic.{is_error}
use Rattle.zmtp_connection.specs.declared.server.Answered.{Answered}
use Rattle.zmtp_connection.specs.declared.server.Answered.TheVariants.{Done, Dropped}
use Rattle.zmtp_connection.specs.declared.fault.ConnectionFault.TheVariants.{Memory, Write}
use Rattle.zmtp_connection.specs.declared.end.ConnectionEnd.{ConnectionEnd}
use Rattle.zmtp_connection.specs.declared.end.ConnectionEnd.TheVariants.{Failed}
use Rattle.zmtp_connection.specs.declared.end.Ending.{Ending}
use Rattle.zmtp_connection.specs.declared.end.Ending.TheVariants.{Connection, Host}
use Rattle.zmtp_connection.specs.Ending.{of_connection}
use Rattle.zmtp_connection.specs.Peer.{IsCalm, BeginsWith, IsOpenPeer}
use Rattle.zmtp_connection.specs.Exchange.{Devices, Exchange}
use Rattle.zmtp_connection.specs.Listen.{RunsOut}
use Rattle.zmtp_connection.specs.Steps.{TurnsAway, IsPrompt}

-- One step of a server: what it was, a message, the octets that answer it, and what it is then. The last argument says
-- whether the session goes on, or how the server ends it.
abbrev pub Answering : Type 0 → Type 0 → Type 1
Answering Server End = Server → Message → List ℕ → Server → Result Answered End → Type 0

-- Traffic is treated. A message is answered by the server, and a PING by its PONG, and another command is ignored. The
-- arguments are those of `Answering`, with traffic in place of the message.
abbrev pub Treats : {Server End : Type 0} → Answering Server End → Server → Traffic → List ℕ → Server
    → Result Answered End → Type 0
Treats answers old (traffic.Message message) reply new answered = answers old message reply new answered
Treats answers old (traffic.Command name rest) reply new answered =
    (reply ≡ pong_to (traffic.Command name rest)) × (new ≡ old) × (answered ≡ Ok Done)

-- a server in a session, and whether a message was dropped before for want of memory
pub record Serving (Server : Type 0) : Type 0 where
  pub server : Server
  pub dropped : Bool

-- a server at the beginning of a session
abbrev pub begins : {Server : Type 0} → Server → Serving Server
begins server = record { server = server; dropped = false }

-- whether a message was dropped, before or now, if one more was answered so
abbrev pub marked : {End : Type 0} → Bool → Result Answered End → Bool
marked dropped (Ok Done) = dropped
marked dropped (Ok Dropped) = true
marked dropped (Err end) = dropped

-- traffic is treated, and the session goes on
abbrev pub GoesOn : {Server End : Type 0} → Answering Server End → Serving Server → Traffic → List ℕ → Serving Server
    → Type 0
GoesOn {End = End} answers old traffic reply new = (answered : Answered)
    × Treats answers old.server traffic reply new.server (Ok answered)
    × (new.dropped ≡ marked {End = End} old.dropped (Ok answered))

-- Traffic is answered in turn, by steps of this kind. The octets that answer it are joined.
abbrev pub AnswersAll : {State : Type 0} → (State → Traffic → List ℕ → State → Type 0) → State → List Traffic → List ℕ
    → State → Type 0
AnswersAll answers old [] replies new = (replies ≡ []) × (new ≡ old)
AnswersAll {State} answers old (first ∷ others) replies new =
    (middle : State) × (reply : List ℕ) × (later : List ℕ) × answers old first reply middle
    × AnswersAll answers middle others later new × (replies ≡ reply ++ later)

-- A write failed in a reply or a PONG. What is due before that was written, and a beginning of the reply, but not all
-- of it.
abbrev pub BreaksIn : List ℕ → List ℕ → List ℕ → Type 0
BreaksIn before reply written = (front : List ℕ) × (lost : List ℕ) × (reply ≡ front ++ lost) × (0 < length lost)
    × (written ≡ before ++ front)

-- The session ended at one traffic, which isn't the command ERROR, after traffic that these replies answer. The server
-- ended it, and what it replied was written, too. Or a write failed in that reply. The arguments are what the session
-- had come to before, and what it came to.
pub record IsLast {Server End : Type 0} (answers : Answering Server End) (now : Serving Server)
    (rest replies written : List ℕ) (new : Serving Server) (ending : Ending End) : Type 0 where
  pub last : Traffic
  pub comes : BeginsWith rest last
  pub harmless : is_error last ≡ false
  pub reply : List ℕ
  pub answered : Result Answered End
  pub step : Treats answers now.server last reply new.server answered
  pub mark : new.dropped ≡ marked now.dropped answered
  pub how : ((end : End) × (answered ≡ Err end) × (ending ≡ Host end) × (written ≡ replies ++ reply))
      ⊎ ((ending ≡ Connection (Failed Write)) × BreaksIn replies reply written)

-- What octets after a peer's READY come to with a server, in a session in which a message was dropped or none was. All
-- that they say is answered, and then the connection ended it. Or the session ended at one traffic. Here and in the
-- next three definitions the arguments are what a session begins with, what passed, and what it came to.
pub record Converses {Server End : Type 0} (dropped : Bool) (answers : Answering Server End) (old : Server)
    (octets written : List ℕ) (new : Server) (ending : Ending End) : Type 0 where
  pub traffic : List Traffic
  pub rest : List ℕ
  pub read : ReadsUpTo usual_limits octets traffic rest
  pub calm : IsCalm traffic
  pub now : Serving Server
  pub replies : List ℕ
  pub answered : AnswersAll (GoesOn answers) (begins old) traffic replies now
  pub ends : ((end : ConnectionEnd) × (ending ≡ Connection end) × RunsOut rest end × (written ≡ replies)
      × (now ≡ record { server = new; dropped = dropped }))
      ⊎ IsLast answers now rest replies written (record { server = new; dropped = dropped }) ending

-- A peer was open. After what opens the connection, what it says came to this with a server.
pub record IsServed {Server End : Type 0} (dropped : Bool) (answers : Answering Server End) (ours : SocketType)
    (old : Server) (octets written : List ℕ) (new : Server) (ending : Ending End) : Type 0 where
  pub opening : List ℕ
  pub peer : SocketType
  pub behind : List ℕ
  pub replies : List ℕ
  pub is_open : IsOpenPeer ours octets opening peer behind
  pub converses : Converses dropped answers old behind replies new ending
  pub all : written ≡ opening ++ replies

-- What a peer comes to with a server. It was turned away and the server stayed as it was, or it was served. The
-- arguments are those of `IsServed`.
abbrev pub Serves : {Server End : Type 0} → Bool → Answering Server End → SocketType → Server → List ℕ → List ℕ
    → Server → Ending End → Type 0
Serves dropped answers ours old octets written new ending =
    ((end : ConnectionEnd) × (ending ≡ Connection end) × TurnsAway ours end octets written × (new ≡ old)
    × (dropped ≡ false))
    ⊎ IsServed dropped answers ours old octets written new ending

-- The exchange with a peer that a server serves. If it ended at one traffic of the peer, nothing was read after that
-- had come.
pub record ServesPeer {Server End : Type 0} (dropped : Bool) (answers : Answering Server End) (ours : SocketType)
    (old : Server) (devices devices' : Devices) (new : Server) (ending : Ending End) : Type 0 where
  pub exchange : Exchange (λ octets written. Serves dropped answers ours old octets written new ending) devices devices'
      (of_connection ending)
  pub prompt : elim exchange.outcome as (λ _. Type 0) [
    | inl away ↦ ⊤
    | inr served ↦ elim served.converses.ends as (λ _. Type 0) [
      | inl out ↦ ⊤
      | inr last ↦ IsPrompt devices.source devices'.source exchange.read last.comes.behind
    ]
  ]

-- The end that is told of a session. If a message was dropped it is want of memory, and else the end itself.
abbrev pub told_ending : {End : Type 0} → Bool → Ending End → Ending End
told_ending true ending = Connection (Failed Memory)
told_ending false ending = ending
