-- A replay: the session with one peer on the shell channel, over a language, and the lines that are printed of it.
use Rattle.std.specs.Prelude.{◌≡◌, ℕ, List, [], ◌∷◌, Some, None}
use Rattle.std.specs.List.{flat_map}
use Rattle.zmtp_wire.specs.Frame.{text}
use Rattle.interp_core.specs.Interpreter.{Meaning}
use Rattle.iopub_event.specs.declared.event.Event.{Event}
use Rattle.iopub_event.specs.declared.event.Event.TheVariants as events
use Rattle.kernel_engine.specs.declared.parts.Parts.{Parts}
use Rattle.kernel_engine.specs.declared.side.Side.TheVariants.{Shell}
use Rattle.kernel_engine.specs.Block.{Message, starting}
use Rattle.kernel_session.specs.declared.end.SessionEnd.{SessionEnd}
use Rattle.zmtp_connection.specs.declared.end.Ending.{Ending}
use Rattle.kernel_session.specs.Laws.{SessionIsSettled}
use Rattle.kernel_session.specs.Session.{IsSession, Run, EngineStanding}
use Rattle.kernel_replay.specs.Lines.{ending_text, hex_octets, printed_lines}
use Rattle.kernel_replay.specs.Stamp.{replay_date, replay_sealing, replay_setting}

-- What an engine has come to that said that the kernel starts. Its interpreter is as it began, no cell is counted, and
-- the next id is the second. The requests to come are done as these runs say.
abbrev pub begun : {State : Type 0} → State → List (Run State) → EngineStanding State
begun state runs = record { state = state; count = 0; next = 2; published = []; runs = runs }

-- the parts of such an engine
abbrev pub begun_engine : {State S W : Type 0} → State → List ℕ → S → Parts State (List (Event W)) S W
begun_engine state key stamp = record {
  side = Shell;
  interp = state;
  count = 0;
  publishing = record {
    sink = events.Message (starting (replay_sealing key) replay_date) ∷ [];
    signer = key;
    stamp = stamp;
    next = 2;
  };
  owed = None;
}

-- all that a replay publishes: that the kernel starts, and then the messages of its session
abbrev pub with_starting : List ℕ → List Message → List Message
with_starting key messages = starting (replay_sealing key) replay_date ∷ messages

module _ {State Cell : Type 0} (m : Meaning State Cell) (state : State) where
  -- The lines that are printed for all the octets that a peer sends, if the interpreter begins in this state and the
  -- requests are done by these runs. They are those of the session with that peer. Nothing interrupts it, and what the
  -- peer sent ended it.
  pub record IsPrinted (key : List ℕ) (runs : List (Run State)) (octets output : List ℕ) : Type 0 where
    pub written : List ℕ
    pub left : EngineStanding State
    pub ending : Ending SessionEnd
    pub settled : SessionIsSettled ending
    pub session : IsSession m ⊥ (replay_setting key) (begun state runs) octets written left ending
    pub used : left.runs ≡ []
    pub printed : output ≡ printed_lines written (flat_map text (with_starting key left.published))
        (ending_text ending)

  -- the lines that are printed for an input: those of the octets that it spells
  pub record IsLines (key : List ℕ) (runs : List (Run State)) (input output : List ℕ) : Type 0 where
    pub octets : List ℕ
    pub spelled : hex_octets input ≡ Some octets
    pub printed : IsPrinted key runs octets output

-- for one state to begin in, and by the same courses and dates, an input has one text of lines at most
abbrev pub LinesHaveOneValue : {State Cell : Type 0} → Meaning State Cell → Type 0
LinesHaveOneValue {State} m = (state : State) (key : List ℕ) (runs : List (Run State)) (input output other : List ℕ)
    → IsLines m state key runs input output → IsLines m state key runs input other → output ≡ other
