-- A table of subscribers, and the events that it fits.
use Rattle.std.specs.Prelude.{◌≡◌, ◌⊎◌, ⊤, ℕ, ◌<◌, Bool, true, false, List, [], ◌∷◌, ◌++◌, length, Option, Some, None}
use Rattle.zmtp_wire.specs.Frame.{text}
use Rattle.zmtp_wire.specs.Ping.{pong_if_short}
use Rattle.zmtp_wire.specs.Device.{Outflow, Puts}
use Rattle.iopub_event.specs.declared.event.Event.{Event}
use Rattle.iopub_event.specs.declared.event.Event.TheVariants.{Attach, Subscribe, Detach}
use Rattle.iopub_relay.specs.declared.subscriber.Standing.{Standing}
use Rattle.iopub_relay.specs.declared.subscriber.Standing.TheVariants.{Served, Broken, Starved}
use Rattle.iopub_relay.specs.declared.subscriber.Subscriber.{Subscriber}
use Rattle.iopub_relay.specs.declared.table.EventOutcome.{EventOutcome}
use Rattle.iopub_relay.specs.declared.table.EventOutcome.TheVariants.{Done, NoTopic, NoRoom}
use Rattle.iopub_relay.specs.Counts.{holding_of}
use Rattle.iopub_relay.specs.Life.{Life, life}
use Rattle.iopub_relay.specs.Topics.{held, matches}
use Rattle.iopub_relay.specs.Feed.{brings, feed}
use Rattle.iopub_relay.specs.Rows.{subscriber_at}

-- A write of what an event brings failed or took nothing. The writer got the feed up to that event, and a beginning of
-- what the event brings.
pub record BreaksOff {Writer : Type 0} (old new : Outflow) (id : ℕ) (events : List (Event Writer)) : Type 0 where
  pub before : List (Event Writer)
  pub event : Event Writer
  pub behind : List (Event Writer)
  pub split : events ≡ before ++ event ∷ behind
  pub front : List ℕ
  pub lost : List ℕ
  pub cut : brings id (held id before) event ≡ front ++ lost
  pub some : 0 < length lost
  pub puts : Puts old new (feed id before ++ front) 1

-- There was no memory for a topic. The writer got the feed up to the event that asked for it.
pub record GoesWithout {Writer : Type 0} (old new : Outflow) (id : ℕ) (events : List (Event Writer)) : Type 0 where
  pub before : List (Event Writer)
  pub topic : List ℕ
  pub behind : List (Event Writer)
  pub split : events ≡ before ++ Subscribe id topic ∷ behind
  pub puts : Puts old new (feed id before) 0

-- what the writer of a subscriber got since it came, by how the subscriber stands
abbrev pub GetsBy : {Writer : Type 0} → Standing → Outflow → Outflow → ℕ → List (Event Writer) → Type 0
GetsBy Served old new id events = Puts old new (feed id events) 0
GetsBy Broken old new id events = BreaksOff old new id events
GetsBy Starved old new id events = GoesWithout old new id events

-- A subscriber of a table lives this life: its writer got what is due, and it holds these topics while it is served.
pub record Lives {Writer : Type 0} (outflow : Writer → Outflow) (id : ℕ) (row : Subscriber Writer)
    (now : Life Writer) : Type 0 where
  pub gets : GetsBy row.standing (outflow now.writer) (outflow row.writer) id now.events
  pub topics : row.standing ≡ Served → (topic : List ℕ) → holding_of row.topics topic ≡ held id now.events topic

-- what a writer got of octets for its subscriber, by how that stands then: all of them, or a beginning before a write
-- failed or took nothing
abbrev pub GetsText : Standing → Outflow → Outflow → List ℕ → Type 0
GetsText Served old new octets = Puts old new octets 0
GetsText Broken old new octets =
    (front : List ℕ) × (lost : List ℕ) × (octets ≡ front ++ lost) × (0 < length lost) × Puts old new front 1
GetsText Starved old new octets = ⊥

-- Octets that are for a subscriber came to it: its writer got them.
pub record Delivers {Writer : Type 0} (outflow : Writer → Outflow) (octets : List ℕ) (old new : Subscriber Writer)
    : Type 0 where
  pub same : new.id ≡ old.id
  pub topics : new.topics ≡ old.topics
  pub gets : GetsText new.standing (outflow old.writer) (outflow new.writer) octets

-- what a message makes of a subscriber, by how it stands and whether the message matches
abbrev pub ReceivesBy : {Writer : Type 0} → (Writer → Outflow) → Standing → Bool → List (List ℕ) → Subscriber Writer
    → Subscriber Writer → Type 0
ReceivesBy outflow Served true frames old new = Delivers outflow (text frames) old new
ReceivesBy outflow Served false frames old new = new ≡ old
ReceivesBy outflow Broken due frames old new = new ≡ old
ReceivesBy outflow Starved due frames old new = new ≡ old

-- what a message makes of a subscriber: one that is served and that it matches gets its text, and no other changes
abbrev pub Receives : {Writer : Type 0} → (Writer → Outflow) → List (List ℕ) → Subscriber Writer → Subscriber Writer
    → Type 0
Receives outflow frames old new =
    ReceivesBy outflow old.standing (matches (holding_of old.topics) frames) frames old new

-- what a PING makes of the subscriber that sent it, by how that stands: one that has failed gets no PONG
abbrev pub PongsBy : {Writer : Type 0} → (Writer → Outflow) → Standing → List ℕ → Subscriber Writer
    → Subscriber Writer → Type 0
PongsBy outflow Served context old new = Delivers outflow (pong_if_short context) old new
PongsBy outflow Broken context old new = new ≡ old
PongsBy outflow Starved context old new = new ≡ old

-- what a message makes of each subscriber of a table
abbrev pub AllReceive : {Writer : Type 0} → (Writer → Outflow) → List (List ℕ) → List (Subscriber Writer)
    → List (Subscriber Writer) → Type 0
AllReceive outflow frames [] [] = ⊤
AllReceive outflow frames [] (new ∷ news) = ⊥
AllReceive outflow frames (old ∷ olds) [] = ⊥
AllReceive outflow frames (old ∷ olds) (new ∷ news) =
    Receives outflow frames old new × AllReceive outflow frames olds news

-- a subscriber stands in a table exactly if it has a life, and it lives that life
abbrev pub LivesAt : {Writer : Type 0} → (Writer → Outflow) → ℕ → Option (Subscriber Writer) → Option (Life Writer)
    → Type 0
LivesAt outflow id None None = ⊤
LivesAt outflow id None (Some now) = ⊥
LivesAt outflow id (Some row) None = ⊥
LivesAt outflow id (Some row) (Some now) = Lives outflow id row now

-- a table fits events: it has the subscribers that are there after them, and each got what is due to it
abbrev pub Fits : {Writer : Type 0} → (Writer → Outflow) → List (Subscriber Writer) → List (Event Writer) → Type 0
Fits outflow rows events = (id : ℕ) → LivesAt outflow id (subscriber_at id rows) (life id events)

-- a table that fitted events fits them with one more
abbrev pub FitsMore : {Writer : Type 0} → (Writer → Outflow) → List (Subscriber Writer) → List (Subscriber Writer)
    → Event Writer → Type 0
FitsMore {Writer} outflow old new event =
    (events : List (Event Writer)) → Fits outflow old events → Fits outflow new (events ++ event ∷ [])

-- whether a subscriber is in a table and found no memory for a topic
abbrev pub IsStarved : {Writer : Type 0} → Option (Subscriber Writer) → Type 0
IsStarved None = ⊥
IsStarved (Some row) = row.standing ≡ Starved

-- A subscriber that found no memory for a topic found none before either, or is one of these.
abbrev pub StarvesOnly : {Writer : Type 0} → (ℕ → Type 0) → List (Subscriber Writer) → List (Subscriber Writer)
    → Type 0
StarvesOnly May old new = (id : ℕ) → IsStarved (subscriber_at id new) → IsStarved (subscriber_at id old) ⊎ May id

-- a subscriber that has failed stays as it is until it leaves
abbrev pub LeavesFailed : {Writer : Type 0} → List (Subscriber Writer) → List (Subscriber Writer) → Event Writer
    → Type 0
LeavesFailed {Writer} old new event =
    (id : ℕ) (row : Subscriber Writer) → subscriber_at id old ≡ Some row → (row.standing ≡ Served → ⊥)
    → (subscriber_at id new ≡ Some row) ⊎ (event ≡ Detach id)

-- A table after an event: it fits one event more, and subscribers that have failed stay as they are. Of the others only
-- these may have found no memory for a topic.
pub record TableGrows {Writer : Type 0} (outflow : Writer → Outflow) (May : ℕ → Type 0)
    (old new : List (Subscriber Writer))
    (event : Event Writer) : Type 0 where
  pub fits : FitsMore outflow old new event
  pub stays : LeavesFailed old new event
  pub starves : StarvesOnly May old new

-- what a table is after an event, by what came of it
abbrev pub ServesEvent : {Writer : Type 0} → (Writer → Outflow) → List (Subscriber Writer) → List (Subscriber Writer)
    → Event Writer → EventOutcome → Type 0
ServesEvent outflow old new event Done = TableGrows outflow (λ id. ⊥) old new event
ServesEvent outflow old new event (NoTopic id) = ((topic : List ℕ) × (event ≡ Subscribe id topic))
    × (TableGrows outflow (λ other. other ≡ id) old new event × IsStarved (subscriber_at id new))
ServesEvent {Writer} outflow old new event (NoRoom id) =
    ((writer : Writer) × (event ≡ Attach id writer)) × ((subscriber_at id old ≡ None) × (new ≡ old))

-- A subscriber whose writer passed on what it kept: all else is the same, and so is what was written to it.
pub record IsAlike {Writer : Type 0} (outflow : Writer → Outflow) (old new : Subscriber Writer) : Type 0 where
  pub same : new.id ≡ old.id
  pub topics : new.topics ≡ old.topics
  pub standing : new.standing ≡ old.standing
  pub written : outflow new.writer ≡ outflow old.writer

-- each subscriber of a table is as it was, but for what its writer kept
abbrev pub AreAlike : {Writer : Type 0} → (Writer → Outflow) → List (Subscriber Writer) → List (Subscriber Writer)
    → Type 0
AreAlike outflow [] [] = ⊤
AreAlike outflow [] (new ∷ news) = ⊥
AreAlike outflow (old ∷ olds) [] = ⊥
AreAlike outflow (old ∷ olds) (new ∷ news) = IsAlike outflow old new × AreAlike outflow olds news
