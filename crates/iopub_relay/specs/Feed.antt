-- The feed of a subscriber: what is due to it of the messages (ZeroMQ RFC 23, "Framing") and the PONGs (RFC 37, rule
-- `pong`) of its life.
use Rattle.std.specs.Prelude.{◌≡◌, ◌⊎◌, ⊤, ℕ, ◌<◌, nat_eq, if◌then◌else◌, List, [], ◌∷◌, ◌++◌, length, Option}
use Rattle.std.specs.Prelude.{Some, None}
use Rattle.zmtp_wire.specs.Frame.{text}
use Rattle.zmtp_wire.specs.Ping.{pong_if_short}
use Rattle.zmtp_wire.specs.Device.{Outflow, Puts}
use Rattle.iopub_event.specs.declared.event.Event.{Event}
use Rattle.iopub_event.specs.declared.event.Event.TheVariants.{Message, Attach, Subscribe, Cancel, Pong, Detach}
use Rattle.iopub_relay.specs.Life.{Life}
use Rattle.iopub_relay.specs.Topics.{Holding, held, matches}

-- What an event brings to a subscriber that holds these topics. A message that matches them brings its text. A PONG
-- that the subscriber asked for is brought, whatever its topics are.
abbrev pub brings : {Writer : Type 0} → ℕ → Holding → Event Writer → List ℕ
brings id topics (Message frames) = if matches topics frames then text frames else []
brings id topics (Attach other writer) = []
brings id topics (Subscribe other topic) = []
brings id topics (Cancel other topic) = []
brings id topics (Pong other context) = if nat_eq id other then pong_if_short context else []
brings id topics (Detach other) = []

-- what events bring to a subscriber after others of its life, each event by the topics that are held just before it
abbrev pub feed_behind : {Writer : Type 0} → ℕ → List (Event Writer) → List (Event Writer) → List ℕ
feed_behind id before [] = []
feed_behind id before (event ∷ events) =
    brings id (held id before) event ++ feed_behind id (before ++ event ∷ []) events

-- the feed of a subscriber: what the events of its life bring to it, joined in their order
abbrev pub feed : {Writer : Type 0} → ℕ → List (Event Writer) → List ℕ
feed id events = feed_behind id [] events

-- A writer got these octets; or a beginning of them, and then one write failed or took nothing.
abbrev pub Gets : Outflow → Outflow → List ℕ → Type 0
Gets old new octets = Puts old new octets 0
    ⊎ ((front : List ℕ) × (lost : List ℕ) × (octets ≡ front ++ lost) × (0 < length lost) × Puts old new front 1)

-- the writer of a subscriber among those that are left
abbrev pub writer_of : {Writer : Type 0} → ℕ → List (ℕ × Writer) → Option Writer
writer_of id [] = None
writer_of id ((other, writer) ∷ writers) = if nat_eq id other then Some writer else writer_of id writers

-- each id is above this one
abbrev pub AreAboveId : {Writer : Type 0} → ℕ → List (ℕ × Writer) → Type 0
AreAboveId id [] = ⊤
AreAboveId id ((other, writer) ∷ writers) = (id < other) × AreAboveId id writers

-- the ids rise
abbrev pub AreRisingIds : {Writer : Type 0} → List (ℕ × Writer) → Type 0
AreRisingIds [] = ⊤
AreRisingIds ((id, writer) ∷ writers) = AreAboveId id writers × AreRisingIds writers

-- A subscriber that is there has a writer, and one that isn't there has none. Since the subscriber came its writer got
-- its feed, or a beginning of that before one write failed or took nothing.
abbrev pub WriterIsFed : {Writer : Type 0} → (Writer → Outflow) → ℕ → Option (Life Writer) → Option Writer → Type 0
WriterIsFed outflow id None None = ⊤
WriterIsFed outflow id None (Some writer) = ⊥
WriterIsFed outflow id (Some life) None = ⊥
WriterIsFed outflow id (Some life) (Some writer) = Gets (outflow life.writer) (outflow writer) (feed id life.events)
