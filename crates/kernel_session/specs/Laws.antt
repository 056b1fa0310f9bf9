-- Laws of a session.
use Rattle.std.specs.Prelude.{◌≡◌, ℕ, List, ◌++◌, Bool, true, false}
use Rattle.interp_core.specs.Interpreter.{Meaning}
use Rattle.kernel_session.specs.declared.end.SessionEnd.{SessionEnd}
use Rattle.kernel_session.specs.declared.end.SessionEnd.TheVariants.{Shutdown, Failed}
use Rattle.zmtp_connection.specs.declared.end.Ending.{Ending}
use Rattle.zmtp_connection.specs.Laws.{IsFinal, IsSettledBy}
use Rattle.kernel_session.specs.Session.{IsSession, Setting, EngineStanding}

-- whether what the peer sent is why an engine ends a session: a request for a shutdown
abbrev pub ends_as_asked : SessionEnd → Bool
ends_as_asked (Shutdown restart) = true
ends_as_asked (Failed fault) = false

-- what the peer sent ended a session; it wasn't want of memory, nor a device, nor a refusal of the engine
abbrev pub SessionIsSettled : Ending SessionEnd → Type 0
SessionIsSettled ending = IsSettledBy ends_as_asked ending

-- By the same courses and dates a session has one value, if what the peer sent ended it. That is what is written, what
-- the engine has come to, with its publications, and the end.
abbrev pub SessionOnce : {State Cell Stop : Type 0} → Meaning State Cell → (Stop → Type 0) → Type 0
SessionOnce {State} {Stop = Stop} m may_ask =
    (stop : Stop) (setting : Setting) (old one other : EngineStanding State) (octets written also : List ℕ)
    (ending end : Ending SessionEnd) → SessionIsSettled ending → SessionIsSettled end
    → IsSession m (may_ask stop) setting old octets written one ending
    → IsSession m (may_ask stop) setting old octets also other end
    → (written ≡ also) × (one ≡ other) × (ending ≡ end)

-- a session that a fault, the command ERROR or a shutdown ended is the same, whatever the peer sends after that
abbrev pub SessionStays : {State Cell Stop : Type 0} → Meaning State Cell → (Stop → Type 0) → Type 0
SessionStays {State} {Stop = Stop} m may_ask =
    (stop : Stop) (setting : Setting) (old new : EngineStanding State) (octets after written : List ℕ)
    (ending : Ending SessionEnd)
    → IsFinal ending → IsSession m (may_ask stop) setting old octets written new ending
    → IsSession m (may_ask stop) setting old (octets ++ after) written new ending
