-- What the publishers of a kernel leave: their closing tokens, and what is published by these.
use Rattle.std.specs.Prelude.{◌≡◌, ⊤, ℕ, List, [], ◌∷◌, ◌++◌, All, filter, Bool, true, false, Option, Some, None}
use Rattle.interp_core.specs.Interpreter.{Meaning}
use Rattle.iopub_event.specs.declared.event.Event.{Event}
use Rattle.iopub_event.specs.declared.event.Event.TheVariants as events
use Rattle.iopub_queue.specs.Entries.{EndsWithClose}
use Rattle.iopub_queue.specs.Values.{Publishing}
use Rattle.jmsg_envelope.specs.Stamp.{Stamping}
use Rattle.kernel_engine.specs.declared.parts.Parts.{Parts}
use Rattle.kernel_engine.specs.declared.side.Side.{Side}
use Rattle.kernel_engine.specs.Block.{Sealing}
use Rattle.kernel_engine.specs.Handles.{owed_items}
use Rattle.kernel_engine.specs.WellBlocked.{IsWellBlocked}

-- what all messages of an engine share, by its key and its stamp
abbrev pub sealing_by : {S : Type 0} → Stamping S → List ℕ → S → Sealing
sealing_by stamps key stamp =
    record { key = key; session = (stamps.meaning stamp).session; id = stamps.id_text (stamps.meaning stamp) }

-- What an engine will have published once it has closed: what it has published, the idle if one is owed, and its close.
abbrev pub closed_list : {I S W : Type 0} → Parts I (Publishing (Event W)) S W → List (Option (Event W))
closed_list engine = engine.publishing.sink.published ++ (owed_items engine.owed ++ None ∷ [])

-- All that was published on shell or control. It is well blocked, no idle is owed, and its close stands last.
pub record IsBlockedAndClosed {State Cell W : Type 0} (m : Meaning State Cell) (is_date : List ℕ → Bool) (side : Side)
    (sealing : Sealing) (items : List (Option (Event W))) : Type 0 where
  pub said : List (Option (Event W))
  pub next : ℕ
  pub blocked : IsWellBlocked m is_date side sealing next None said
  pub closed : items ≡ said ++ None ∷ []

-- All that an engine of shell or control published is well blocked: for its channel, under its key, and with ids and
-- dates of its stamp.
abbrev pub IsBlockedBy : {I S W Cell : Type 0} → Meaning I Cell → Stamping S → Parts I (Publishing (Event W)) S W
    → List (Option (Event W)) → Type 0
IsBlockedBy m stamps engine items = IsBlockedAndClosed m (stamps.is_date (stamps.meaning engine.publishing.stamp))
    engine.side (sealing_by stamps engine.publishing.signer engine.publishing.stamp) items

-- An engine's publisher closed and left its closing token, whose list is well blocked.
pub record EndsBlocked {I S W Cell : Type 0} (m : Meaning I Cell) (stamps : Stamping S)
    (engine : Parts I (Publishing (Event W)) S W) (closed : Publishing (Event W)) : Type 0 where
  pub queue : closed.queue ≡ engine.publishing.sink.queue
  pub number : closed.number ≡ engine.publishing.sink.number
  pub blocked : IsBlockedBy m stamps engine closed.published

-- what was published is a close or an event, and no message
abbrev pub IsNoMessage : {W : Type 0} → Option (Event W) → Type 0
IsNoMessage None = ⊤
IsNoMessage (Some (events.Message frames)) = ⊥
IsNoMessage (Some (events.Attach id writer)) = ⊤
IsNoMessage (Some (events.Subscribe id topic)) = ⊤
IsNoMessage (Some (events.Cancel id topic)) = ⊤
IsNoMessage (Some (events.Pong id context)) = ⊤
IsNoMessage (Some (events.Detach id)) = ⊤

-- whether the worker of subscriptions passes on what came out of its inbox: each event but a message, and the end
abbrev pub is_passed_on : {W : Type 0} → Option (Event W) → Bool
is_passed_on None = true
is_passed_on (Some (events.Message frames)) = false
is_passed_on (Some (events.Attach id writer)) = true
is_passed_on (Some (events.Subscribe id topic)) = true
is_passed_on (Some (events.Cancel id topic)) = true
is_passed_on (Some (events.Pong id context)) = true
is_passed_on (Some (events.Detach id)) = true

-- What came out of an inbox after `before` was passed on, and nothing else: each event but the messages, in order, and
-- the end as the close.
abbrev pub PassesOn : {W : Type 0} → List (Option (Event W)) → List (Option (Event W)) → List (Option (Event W))
    → Type 0
PassesOn before inbox items = filter is_passed_on inbox ≡ filter is_passed_on before ++ items

-- What the worker of subscriptions is given: its publisher, and its inbox, which tells what came out of it before.
pub record Subscribing (W : Type 0) : Type 0 where
  pub sink : Publishing (Event W)
  pub inbox : List (Option (Event W))

-- The worker of subscriptions left the closing token of its publisher, and its inbox. The token's list is what was
-- passed on of what came out of the inbox. It has no message and ends with the close.
pub record EndsSilent {W : Type 0} (given : Subscribing W) (closed : Publishing (Event W))
    (inbox : List (Option (Event W))) : Type 0 where
  pub queue : closed.queue ≡ given.sink.queue
  pub number : closed.number ≡ given.sink.number
  pub passes : PassesOn given.inbox inbox closed.published
  pub silent : All IsNoMessage closed.published
  pub close_last : EndsWithClose closed.published
