-- The steps of a session with a server, by what each of them did.
use Rattle.std.specs.Prelude.{◌≡◌, ◌⊎◌, ⊤, ℕ, ◌<◌, List, [], ◌++◌, length, Bool, Result, Ok, Err}
use Rattle.std.proofs.Common.{inl, inr}
use Rattle.zmtp_wire.specs.declared.traffic.Traffic.{Traffic}
use Rattle.zmtp_wire.specs.Device.{Outflow, Puts}
use Rattle.zmtp_connection.specs.declared.server.Answered.{Answered}
use Rattle.zmtp_connection.specs.declared.fault.ConnectionFault.TheVariants.{Write}
use Rattle.zmtp_connection.specs.declared.end.ConnectionEnd.TheVariants.{Failed}
use Rattle.zmtp_connection.specs.declared.end.Ending.{Ending}
use Rattle.zmtp_connection.specs.declared.end.Ending.TheVariants.{Connection, Host}
use Rattle.zmtp_connection.specs.Ending.{of_connection}
use Rattle.zmtp_connection.specs.Exchange.{Devices, Leg, Exchange}
use Rattle.zmtp_connection.specs.Server.{Answering, Serving, Treats, marked, Converses}
use Rattle.zmtp_connection.specs.Steps.{IsPrompt}

-- a writer and a server in a session
pub record Seen (Server : Type 0) : Type 0 where
  pub outflow : Outflow
  pub serving : Serving Server

-- whether a session goes on after an answer, or how the server ends it
abbrev pub went : {End : Type 0} → Result Answered End → Result Unit (Ending End)
went (Ok answered) = Ok tt
went (Err end) = Err (Host end)

-- A reply was written, and the session goes on or ends as the server answered. Or a write failed, which ends it.
abbrev pub Writes : {End : Type 0} → Outflow → Outflow → List ℕ → Result Answered End → Result Unit (Ending End)
    → Type 0
Writes before after reply answered result =
    (Puts before after reply 0 × (result ≡ went answered))
    ⊎ ((result ≡ Err (Connection (Failed Write)))
    × ((front : List ℕ) × (lost : List ℕ) × (reply ≡ front ++ lost) × (0 < length lost) × Puts before after front 1))

-- Traffic was treated, and what is replied to it was written, unless a write failed.
pub record Responds {Server End : Type 0} (answers : Answering Server End) (old : Seen Server) (traffic : Traffic)
    (new : Seen Server) (result : Result Unit (Ending End)) : Type 0 where
  pub reply : List ℕ
  pub answered : Result Answered End
  pub step : Treats answers old.serving.server traffic reply new.serving.server answered
  pub mark : new.serving.dropped ≡ marked old.serving.dropped answered
  pub writes : Writes old.outflow new.outflow reply answered result

-- how a session ended, if the end that a host tells is an ending itself
abbrev pub flat : {End : Type 0} → Ending (Ending End) → Ending End
flat (Connection end) = Connection end
flat (Host ending) = ending

-- The exchange with a server after a peer's READY, if these octets were read before. If it ended at one traffic of the
-- peer, nothing was read after that had come. The arguments are what the call begins with and ends with.
pub record ConversesOn {Server End : Type 0} (dropped : Bool) (answers : Answering Server End) (old : Server)
    (before : List ℕ) (devices devices' : Devices) (new : Server) (ending : Ending End) : Type 0 where
  pub exchange : Exchange (λ octets written. Converses dropped answers old (before ++ octets) written new ending)
      devices devices' (of_connection ending)
  pub prompt : elim exchange.outcome.ends as (λ _. Type 0) [
    | inl out ↦ ⊤
    | inr last ↦ ((exchange.read ≡ []) × Leg devices.source devices'.source [])
        ⊎ IsPrompt devices.source devices'.source exchange.read last.comes.behind
  ]
