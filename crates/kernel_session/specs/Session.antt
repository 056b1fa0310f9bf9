-- A session of an engine with one peer ('Messaging in Jupyter' 5.3, "Introduction", "The Wire Protocol" and "Kernel
-- status"). This tells what is written to the peer and what is published for the octets that it sends, and how the
-- session ends.
use Rattle.std.specs.Prelude.{◌≡◌, ◌≢◌, ◌⊎◌, ⊤, ℕ, ◌+◌, List, [], ◌∷◌, ◌++◌, length, Bool, true, false}
use Rattle.std.specs.Prelude.{Option, Some, None, Ok, Err}
use Rattle.zmtp_wire.specs.declared.fault.WireFault.TheVariants.{OutOfMemory}
use Rattle.zmtp_wire.specs.declared.handshake.socket_type.SocketType.TheVariants.{Router}
use Rattle.zmtp_wire.specs.Frame.{text}
use Rattle.interp_core.specs.Interpreter.{Meaning}
use Rattle.jmsg_envelope.specs.declared.envelope.Envelope.{Envelope}
use Rattle.jmsg_envelope.specs.Envelope.{Opened}
use Rattle.jmsg_types.specs.declared.publication.Publication.{Publication}
use Rattle.kernel_engine.specs.declared.heading.Heading.{Heading}
use Rattle.kernel_engine.specs.declared.side.Side.{Side}
use Rattle.kernel_engine.specs.Answer.{Answer, AnswersRequest}
use Rattle.kernel_engine.specs.Orders.{ends}
use Rattle.kernel_engine.specs.Block.{Message, Sealing, block, reply_message}
use Rattle.kernel_engine.specs.Comes.{message_comes}
use Rattle.kernel_engine.specs.Course.{Course, MayEnd}
use Rattle.kernel_engine.specs.Opens.{ids_of_reply}
use Rattle.kernel_engine.specs.Takes.{IsNoRequest}
use Rattle.kernel_engine.specs.Publications.{Publishes}
use Rattle.kernel_session.specs.declared.end.SessionEnd.{SessionEnd}
use Rattle.kernel_session.specs.declared.end.SessionEnd.TheVariants.{Shutdown, Failed}
use Rattle.zmtp_connection.specs.declared.end.ConnectionEnd.TheVariants as ended
use Rattle.zmtp_connection.specs.declared.end.Ending.{Ending}
use Rattle.zmtp_connection.specs.declared.end.Ending.TheVariants.{Connection, Host}
use Rattle.zmtp_connection.specs.declared.fault.ConnectionFault.TheVariants.{Memory, Read, Write, Turns}
use Rattle.zmtp_connection.specs.declared.server.Answered.TheVariants.{Done, Dropped}
use Rattle.zmtp_connection.specs.Server.{Answering, Serves}

-- What doesn't change in a session: the channel, what messages are sealed with, and which texts may be dates.
pub record Setting : Type 0 where
  pub side : Side
  pub sealing : Sealing
  pub is_date : List ℕ → Bool

-- What nothing else settles of how one request is done: the course of its cell, and the date of its messages.
pub record Run (State : Type 0) : Type 0 where
  pub course : Course State
  pub date : List ℕ

-- What an engine has come to between two requests: the interpreter's state, the execution count, the number of the next
-- id and what was published. It also says how the requests to come are done.
pub record EngineStanding (State : Type 0) : Type 0 where
  pub state : State
  pub count : ℕ
  pub next : ℕ
  pub published : List Message
  pub runs : List (Run State)

-- what the messages of a request share if it is done as a run says
abbrev pub heading_by : {State : Type 0} → Run State → Envelope → Heading
heading_by run request = record { date = run.date; parent = request.header }

-- the number that follows those of a block: busy and idle have one each, and so has each publication
abbrev pub number_behind : ℕ → List Publication → ℕ
number_behind number publications = number + 2 + length publications

-- the text of a reply on the wire, or nothing if there is no reply
abbrev pub reply_text : Option Message → List ℕ
reply_text None = []
reply_text (Some reply) = text reply

module _ {State Cell : Type 0} (m : Meaning State Cell) (may : Type 0) (setting : Setting) where
  -- A request is done as the next run says. Its block is published, with the numbers from the next one on. The text of
  -- its reply answers it, if it has one. This is what the engine has come to then.
  pub record DoesRequest (old : EngineStanding State) (request : Envelope) (answer : Answer State) (reply : List ℕ)
      (new : EngineStanding State) : Type 0 where
    pub run : Run State
    pub runs : old.runs ≡ run ∷ new.runs
    pub dated : setting.is_date run.date ≡ true
    pub ending : MayEnd may run.course.ending
    pub publications : List Publication
    pub publishes : Publishes m (message_comes setting.side request) old.state old.count run.course publications
    pub answers : AnswersRequest m (message_comes setting.side request) old.state old.count run.course answer
    pub replied : reply ≡ reply_text (reply_message setting.sealing (heading_by run request) request.identities
        (number_behind old.next publications) request.msg_type answer.reply)
    pub became : new ≡ record {
      state = answer.state;
      count = answer.count;
      next = number_behind old.next publications + ids_of_reply answer.reply;
      published = old.published ++ block setting.sealing (heading_by run request) old.next publications;
      runs = new.runs;
    }

  -- a message that is opened as a request, which is done
  pub record DoesMessage (old : EngineStanding State) (message : Message) (reply : List ℕ) (new : EngineStanding State)
      : Type 0 where
    pub request : Envelope
    pub opened : Opened setting.sealing.key message request
    pub answer : Answer State
    pub does : DoesRequest old request answer reply new

  -- a message that is no request is dropped, and nothing changes
  abbrev pub DropsMessage : EngineStanding State → Message → List ℕ → EngineStanding State → Type 0
  DropsMessage old message reply new = IsNoRequest setting.sealing.key message × (reply ≡ []) × (new ≡ old)

  -- A message is dropped, or done as a request. The session goes on, unless the request was one for a shutdown.
  abbrev pub Performs : Answering (EngineStanding State) SessionEnd
  Performs old message reply new (Ok Done) = DropsMessage old message reply new
      ⊎ ((done : DoesMessage old message reply new) × (ends done.answer.order ≡ None))
  Performs old message reply new (Ok Dropped) = ⊥
  Performs old message reply new (Err end) =
      (done : DoesMessage old message reply new) × (restart : Bool) × (ends done.answer.order ≡ Some restart)
      × (end ≡ Shutdown restart)

  -- A session with a peer that sends these octets: what is written to it, what the engine has come to, and how the
  -- session ends.
  abbrev pub IsSession : EngineStanding State → List ℕ → List ℕ → EngineStanding State → Ending SessionEnd → Type 0
  IsSession old octets written new ending = Serves false Performs Router old octets written new ending

-- Whether the whole session is told of one that ended so: what was read ended it, or a read or a write failed. Memory
-- and ids weren't wanting, and no request came back for an idle that is owed. If a write failed, the messages and PINGs
-- are those up to the one whose reply or PONG it cut.
abbrev pub IsToldWhole : Ending SessionEnd → Type 0
IsToldWhole (Connection ended.Eof) = ⊤
IsToldWhole (Connection (ended.Wire fault)) = fault ≢ OutOfMemory
IsToldWhole (Connection (ended.Failed Memory)) = ⊥
IsToldWhole (Connection (ended.Failed Read)) = ⊤
IsToldWhole (Connection (ended.Failed Write)) = ⊤
IsToldWhole (Connection (ended.Failed Turns)) = ⊤
IsToldWhole (Host (Shutdown restart)) = ⊤
IsToldWhole (Host (Failed fault)) = ⊥
