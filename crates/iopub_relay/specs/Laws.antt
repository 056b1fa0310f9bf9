-- Laws of lives and feeds.
use Rattle.std.specs.Prelude.{◌≡◌, ℕ, ◌<◌, true, false, List, [], ◌∷◌, ◌++◌, map, length, flat_map, Some, None, IfSome}
use Rattle.std.specs.Prelude.{is_some}
use Rattle.std.specs.List.{AllByRecursion, list_any}
use Rattle.zmtp_wire.specs.Frame.{text}
use Rattle.iopub_event.specs.declared.event.Event.{Event}
use Rattle.iopub_event.specs.declared.event.Event.TheVariants.{Message, Attach, Subscribe, Detach}
use Rattle.iopub_relay.specs.Life.{Life, life, leaves, comes_with}
use Rattle.iopub_relay.specs.Topics.{Holding, matches}
use Rattle.iopub_relay.specs.Feed.{feed}

-- A subscriber comes, subscribes to the empty topic and hears messages of at least one frame each. It gets the texts of
-- all of them, joined.
pub record HearsEverything (Writer : Type 0) (id : ℕ) (writer : Writer) (messages : List (List (List ℕ)))
    : Type 0 where
  pub now : Life Writer
  pub lives : life id (Attach id writer ∷ Subscribe id [] ∷ map Message messages) ≡ Some now
  pub came : now.writer ≡ writer
  pub gets : feed id now.events ≡ flat_map text messages

-- a subscriber of everything gets the texts of all messages, joined
abbrev pub GetsEverything : Type 0 → Type 0
GetsEverything Writer =
    (id : ℕ) (writer : Writer) (messages : List (List (List ℕ)))
    → AllByRecursion (λ frames. 0 < length frames) messages → HearsEverything Writer id writer messages

-- if a message matches, its first frame begins with a topic that is held
abbrev pub MatchBegins : Type 0
MatchBegins =
    (topics : Holding) (first : List ℕ) (others : List (List ℕ)) → matches topics (first ∷ others) ≡ true
    → (topic : List ℕ) × (rest : List ℕ) × (first ≡ topic ++ rest) × (0 < topics topic)

-- if a message doesn't match, its first frame begins with no topic that is held
abbrev pub NoMatchBeginsNot : Type 0
NoMatchBeginsNot =
    (topics : Holding) (first : List ℕ) (others : List (List ℕ)) → matches topics (first ∷ others) ≡ false
    → (topic rest : List ℕ) → first ≡ topic ++ rest → topics topic ≡ 0

-- A life began after some of these events. There was none before: the subscriber came by the next event, with the
-- life's writer. What follows is the life, and the subscriber doesn't leave in it.
pub record BeganIn (Writer : Type 0) (id : ℕ) (events : List (Event Writer)) (now : Life Writer) : Type 0 where
  pub before : List (Event Writer)
  pub split : events ≡ before ++ Attach id now.writer ∷ now.events
  pub none : life id before ≡ None
  pub stays : list_any (leaves id) now.events ≡ false

-- a life is what stands after a coming since which the subscriber didn't leave
abbrev pub LifeBegan : Type 0 → Type 0
LifeBegan Writer =
    (id : ℕ) (events : List (Event Writer)) → IfSome (life id events) (λ now. BeganIn Writer id events now)

-- a subscriber that came and didn't leave since has a life
abbrev pub WhoCameLives : Type 0 → Type 0
WhoCameLives Writer =
    (id : ℕ) (before : List (Event Writer)) (writer : Writer) (after : List (Event Writer))
    → list_any (leaves id) after ≡ false → is_some (life id (before ++ Attach id writer ∷ after)) ≡ true

-- a subscriber that left and didn't come since has no life
abbrev pub WhoLeftLivesNot : Type 0 → Type 0
WhoLeftLivesNot Writer =
    (id : ℕ) (before after : List (Event Writer))
    → list_any (λ event. is_some (comes_with id event)) after ≡ false
    → life id (before ++ Detach id ∷ after) ≡ None
