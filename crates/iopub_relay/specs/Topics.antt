-- The topics that a subscriber holds, and which messages match them (subscriptions of ZMTP 3.0, ZeroMQ RFC 23).
use Rattle.std.specs.Prelude.{ℕ, ◌+◌, ◌-◌, nat_eq, nat_lt, Bool, false, ◌&&◌, if◌then◌else◌, List, [], ◌∷◌, map, fold}
use Rattle.std.specs.Prelude.{bytes_eq}
use Rattle.std.specs.List.{list_any}
use Rattle.iopub_event.specs.declared.event.Event.{Event}
use Rattle.iopub_event.specs.declared.event.Event.TheVariants.{Message, Attach, Subscribe, Cancel, Pong, Detach}

-- topics with how often each of them is held: a multiset
abbrev pub Holding : Type 0
Holding = List ℕ → ℕ

-- How often a topic is held after one more event. It is held once more if the subscriber subscribes to it, and once
-- less, but never less than not at all, if the subscriber gives it up.
abbrev pub held_after : {Writer : Type 0} → ℕ → List ℕ → ℕ → Event Writer → ℕ
held_after id topic count (Message frames) = count
held_after id topic count (Attach other writer) = count
held_after id topic count (Subscribe other asked) =
    if nat_eq id other && bytes_eq asked topic then count + 1 else count
held_after id topic count (Cancel other given) = if nat_eq id other && bytes_eq given topic then count - 1 else count
held_after id topic count (Pong other context) = count
held_after id topic count (Detach other) = count

-- the topics that a subscriber holds after events of its life, at first none
abbrev pub held : {Writer : Type 0} → ℕ → List (Event Writer) → Holding
held id events topic = fold (held_after id topic) 0 events

-- all beginnings of a list, the empty one and the whole among them
abbrev pub beginnings : List ℕ → List (List ℕ)
beginnings [] = [] ∷ []
beginnings (octet ∷ octets) = [] ∷ map (λ beginning. octet ∷ beginning) (beginnings octets)

-- whether a topic that is held is a beginning of these octets
abbrev pub begins_in : Holding → List ℕ → Bool
begins_in topics octets = list_any (λ beginning. nat_lt 0 (topics beginning)) (beginnings octets)

-- whether a message of these frames is for somebody who holds these topics: one of them is a beginning of its first
-- frame
abbrev pub matches : Holding → List (List ℕ) → Bool
matches topics [] = false
matches topics (first ∷ others) = begins_in topics first
