-- What a subscriber's traffic is to a relay (subscriptions of ZMTP 3.0; ZeroMQ RFC 37, rules `subscribe`, `cancel` and
-- `ping`).
use Rattle.std.specs.Prelude.{ℕ, List, Option, Some, None}
use Rattle.zmtp_wire.specs.declared.traffic.Traffic.{Traffic}
use Rattle.zmtp_wire.specs.Subscription.{subscribed_topic, cancelled_topic}
use Rattle.zmtp_wire.specs.Ping.{ping_context}
use Rattle.iopub_event.specs.declared.event.Event.{Event}
use Rattle.iopub_event.specs.declared.event.Event.TheVariants.{Subscribe, Cancel, Pong}

-- the first that there is of these three: a topic is subscribed to, a topic is given up, or a PONG is asked for
abbrev pub asks_for : {Writer : Type 0} → ℕ → Option (List ℕ) → Option (List ℕ) → Option (List ℕ)
    → Option (Event Writer)
asks_for id (Some subscribed) cancelled context = Some (Subscribe id subscribed)
asks_for id None (Some cancelled) context = Some (Cancel id cancelled)
asks_for id None None (Some context) = Some (Pong id context)
asks_for id None None None = None

-- The event that a subscriber's traffic is: it subscribes to a topic or gives one up, or it asks for a PONG. Other
-- traffic is no event.
abbrev pub event_of_traffic : {Writer : Type 0} → ℕ → Traffic → Option (Event Writer)
event_of_traffic id traffic = asks_for id (subscribed_topic traffic) (cancelled_topic traffic) (ping_context traffic)
