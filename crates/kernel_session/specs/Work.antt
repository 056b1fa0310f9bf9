-- What an engine makes of the messages of a session, as its parts tell it.
use Rattle.std.specs.Prelude.{◌≡◌, ◌≤◌, ◌^◌, ◌⊎◌, ℕ, List, [], ◌++◌, Bool, Option, Some, None, Result, Ok, Err, map}
use Rattle.interp_core.specs.Interpreter.{Meaning}
use Rattle.iopub_event.specs.declared.event.Event.{Event}
use Rattle.jmsg_envelope.specs.declared.envelope.Envelope.{Envelope}
use Rattle.jmsg_envelope.specs.Envelope.{Opened}
use Rattle.iopub_queue.specs.Sink.{Sink}
use Rattle.jmsg_envelope.specs.Stamp.{Stamping}
use Rattle.kernel_engine.specs.declared.fault.EngineFault.{EngineFault}
use Rattle.kernel_engine.specs.declared.fault.EngineFault.TheVariants.{Memory}
use Rattle.kernel_engine.specs.declared.response.Response.{Response}
use Rattle.kernel_engine.specs.declared.parts.Parts.{Parts}
use Rattle.kernel_engine.specs.Orders.{ends}
use Rattle.kernel_engine.specs.declared.asked.Done.{Done}
use Rattle.kernel_engine.specs.declared.asked.Done.TheVariants as came
use Rattle.kernel_engine.specs.Block.{Message}
use Rattle.kernel_engine.specs.Growth.{item_of, sealing_of}
use Rattle.kernel_engine.specs.Handles.{HandlesOk, HandlesErr, owed_items}
use Rattle.kernel_engine.specs.Takes.{IsNoRequest, IsWornOut}
use Rattle.kernel_engine.specs.World.{World}
use Rattle.kernel_session.specs.declared.end.SessionEnd.{SessionEnd}
use Rattle.kernel_session.specs.declared.end.SessionEnd.TheVariants.{Shutdown, Failed}
use Rattle.zmtp_connection.specs.declared.end.Ending.{Ending}
use Rattle.zmtp_connection.specs.declared.server.Answered.{Answered}
use Rattle.zmtp_connection.specs.declared.server.Answered.TheVariants as goes
use Rattle.zmtp_connection.specs.Server.{Answering}
use Rattle.kernel_session.specs.Session.{IsSession, Run, Setting, EngineStanding, reply_text}

module _ {I P S W Cell : Type 0} (world : World I P S W Cell) (may : Type 0) where
  -- the message is no request under the engine's key, and nothing changes
  pub record Ignores (old : Parts I P S W) (message : Message) (reply : List ℕ) (new : Parts I P S W) : Type 0 where
    pub refused : IsNoRequest old.publishing.signer message
    pub silent : reply ≡ []
    pub same : new ≡ old

  -- no memory was left to open the message, some ids are left, and nothing changes
  pub record Loses (old : Parts I P S W) (reply : List ℕ) (new : Parts I P S W) : Type 0 where
    pub few : old.publishing.next ≤ 2 ^ 62
    pub silent : reply ≡ []
    pub same : new ≡ old

  -- No memory was left to open the message, and all ids were given. That ends the session, and nothing changes.
  pub record LosesWorn (old : Parts I P S W) (reply : List ℕ) (fault : EngineFault) (new : Parts I P S W) : Type 0 where
    pub worn : IsWornOut old fault new
    pub silent : reply ≡ []

  -- the message was opened as a request, which was handled
  pub record Works (old : Parts I P S W) (message : Message) (handled : Response) (new : Parts I P S W) : Type 0 where
    pub request : Envelope
    pub opened : Opened old.publishing.signer message request
    pub does : HandlesOk world may request old handled new

  -- A request was handled. If it has a reply, that is written. It asked for the end of the kernel or not, as `asked`
  -- says.
  pub record WorksThrough (asked : Option Bool) (old : Parts I P S W) (message : Message) (reply : List ℕ)
      (new : Parts I P S W) : Type 0 where
    pub handled : Response
    pub works : Works old message handled new
    pub end : ends handled.order ≡ asked
    pub replied : reply ≡ reply_text handled.reply

  -- a request was handled, and no memory was left for its reply
  pub record WorksInVain (old : Parts I P S W) (message : Message) (reply : List ℕ) (fault : EngineFault)
      (new : Parts I P S W) : Type 0 where
    pub handled : Response
    pub works : Works old message handled new
    pub silent : reply ≡ []
    pub memory : fault ≡ Memory

  -- the message was opened as a request, which was refused
  pub record RefusesRequest (old : Parts I P S W) (message : Message) (reply : List ℕ) (fault : EngineFault)
      (new : Parts I P S W) : Type 0 where
    pub request : Envelope
    pub opened : Opened old.publishing.signer message request
    pub why : HandlesErr world may request old fault new
    pub silent : reply ≡ []

  -- what an engine makes of a message, by how the session goes on or ends
  abbrev pub WorksOne : Answering (Parts I P S W) SessionEnd
  WorksOne old message reply new (Ok goes.Done) =
      Ignores old message reply new ⊎ WorksThrough None old message reply new
  WorksOne old message reply new (Ok goes.Dropped) = Loses old reply new
  WorksOne old message reply new (Err (Shutdown restart)) =
      WorksThrough (Some restart) old message reply new
  WorksOne old message reply new (Err (Failed fault)) =
      RefusesRequest old message reply fault new ⊎ WorksInVain old message reply fault new
      ⊎ LosesWorn old reply fault new

-- what is written for a request that was handled, by how the session goes on or ends
abbrev pub WritesHandled : Response → List ℕ → Result Answered SessionEnd → Type 0
WritesHandled handled octets (Ok goes.Done) = (octets ≡ reply_text handled.reply) × (ends handled.order ≡ None)
WritesHandled handled octets (Ok goes.Dropped) = ⊥
WritesHandled handled octets (Err (Shutdown restart)) =
    (octets ≡ reply_text handled.reply) × (ends handled.order ≡ Some restart)
WritesHandled handled octets (Err (Failed fault)) = (octets ≡ []) × (fault ≡ Memory)

-- what is written for what came of a message, by how the session goes on or ends
abbrev pub WritesOutcome : Done → List ℕ → Result Answered SessionEnd → Type 0
WritesOutcome came.Ignored octets answered = (octets ≡ []) × (answered ≡ Ok goes.Done)
WritesOutcome came.Lost octets answered = (octets ≡ []) × (answered ≡ Ok goes.Dropped)
WritesOutcome (came.Handled handled) octets answered = WritesHandled handled octets answered
WritesOutcome (came.Refused fault) octets answered = (octets ≡ []) × (answered ≡ Err (Failed fault))

-- what doesn't change of an engine in a session
abbrev pub setting_of : {I P S W : Type 0} → Stamping S → Parts I P S W → Setting
setting_of stamp parts = record {
  side = parts.side;
  sealing = sealing_of stamp parts.publishing;
  is_date = stamp.is_date (stamp.meaning parts.publishing.stamp);
}

-- what an engine with these parts has come to, if it published this and does the requests to come so
abbrev pub standing_of : {I P S W : Type 0} → Parts I P S W → List Message → List (Run I) → EngineStanding I
standing_of parts published runs = record {
  state = parts.interp;
  count = parts.count;
  next = parts.publishing.next;
  published = published;
  runs = runs;
}

-- what an engine published, and after that the idle that is owed, if one is
abbrev pub all_items : {I P S W : Type 0} → Sink P (Event W) → Parts I P S W → List (Option (Event W))
all_items sink parts = sink.items parts.publishing.sink ++ owed_items parts.owed

-- An engine was in a session with a peer that sends these octets. By some courses and dates that is a session which has
-- what was written and how it ended. The engine published, or owes as an idle, just the messages of that session.
pub record TellsSession {I P S W Cell : Type 0} (world : World I P S W Cell)
    (may : Type 0) (old : Parts I P S W) (octets written : List ℕ) (new : Parts I P S W) (ending : Ending SessionEnd)
    : Type 0 where
  pub runs : List (Run I)
  pub published : List Message
  pub session : IsSession world.language may (setting_of world.stamp old) (standing_of old [] runs) octets written
      (standing_of new published []) ending
  pub listed : all_items world.sink new ≡ all_items world.sink old ++ map item_of published
  pub stays : setting_of world.stamp new ≡ setting_of world.stamp old
