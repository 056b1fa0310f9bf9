-- A relay: what it keeps of its taker and its subscribers, and what its calls promise.
use Rattle.std.specs.Prelude.{◌≡◌, ◌⊎◌, ⊤, ℕ, zero, suc, ◌<◌, min, Bool, true, false, List, [], ◌∷◌, ◌++◌, length, map}
use Rattle.std.specs.Prelude.{◌≤◌, Option, Some, None, nat_eq, if◌then◌else◌}
use Rattle.std.specs.List.{AllByRecursion}
use Rattle.zmtp_wire.specs.Device.{Outflow, Puts, greatest_count, risen}
use Rattle.iopub_queue.specs.Entries.{Entry, StartsWith, part_of, EndsWithClose, IsComplete}
use Rattle.iopub_queue.specs.Values.{Publishing, Taking}
use Rattle.iopub_queue.specs.Calls.{TakesOne, FindsNothing, Settles}
use Rattle.iopub_queue.specs.declared.taken.Settled.{Settled}
use Rattle.iopub_event.specs.declared.event.Event.{Event}
use Rattle.iopub_event.specs.declared.event.Event.TheVariants.{Message, Attach, Subscribe, Cancel, Pong, Detach}
use Rattle.iopub_relay.specs.declared.relay.Drain.{Drain}
use Rattle.iopub_relay.specs.declared.relay.Drain.TheVariants as drain
use Rattle.iopub_relay.specs.declared.relay.Pumped.{Pumped}
use Rattle.iopub_relay.specs.declared.relay.Pumped.TheVariants as pumped
use Rattle.iopub_relay.specs.declared.subscriber.Standing.{Standing}
use Rattle.iopub_relay.specs.declared.subscriber.Standing.TheVariants.{Served, Broken, Starved}
use Rattle.iopub_relay.specs.declared.subscriber.Subscriber.{Subscriber}
use Rattle.iopub_relay.specs.Life.{Life, life}
use Rattle.iopub_relay.specs.Feed.{feed, AreRisingIds}
use Rattle.iopub_relay.specs.Rows.{subscriber_at, AreRising}
use Rattle.iopub_relay.specs.Table.{BreaksOff, Fits, FitsMore, GoesWithout, IsStarved, StarvesOnly}

-- What contracts see of a relay: its taker, its subscribers by rising ids, and how often there was no room for one.
pub record Relaying (Writer : Type 0) : Type 0 where
  pub taker : Taking (Event Writer)
  pub rows : List (Subscriber Writer)
  pub no_room : ℕ

-- the items of entries, in their order, without the closes
abbrev pub items_in : {T : Type 0} → List (Entry T) → List T
items_in [] = []
items_in ((number, Some item) ∷ entries) = item ∷ items_in entries
items_in ((number, None) ∷ entries) = items_in entries

-- an event is that a subscriber comes
abbrev pub IsAttach : {Writer : Type 0} → Event Writer → Type 0
IsAttach (Message frames) = ⊥
IsAttach (Attach id writer) = ⊤
IsAttach (Subscribe id topic) = ⊥
IsAttach (Cancel id topic) = ⊥
IsAttach (Pong id context) = ⊥
IsAttach (Detach id) = ⊥

-- what is left of events if so many of those by which a subscriber comes are left out
abbrev pub IsWithout : {Writer : Type 0} → List (Event Writer) → List (Event Writer) → ℕ → Type 0
IsWithout [] served turned_away = (served ≡ []) × (turned_away ≡ 0)
IsWithout {Writer} (event ∷ events) served turned_away =
    ((rest : List (Event Writer)) × (served ≡ event ∷ rest) × IsWithout events rest turned_away)
    ⊎ ((fewer : ℕ) × (turned_away ≡ suc fewer) × IsAttach event × IsWithout events served fewer)

-- What was served of entries that were taken: their items, but no newcomer for which there was no room. These newcomers
-- were counted, up to the greatest count.
pub record EntriesAreServed {Writer : Type 0} (taken : List (Entry (Event Writer))) (no_room : ℕ)
    (served : List (Event Writer))
    : Type 0 where
  pub turned_away : ℕ
  pub without : IsWithout (items_in taken) served turned_away
  pub counted : no_room ≡ min turned_away greatest_count

-- the numbers of all entries are below this one
abbrev pub AreOfNumbers : {T : Type 0} → ℕ → List (Entry T) → Type 0
AreOfNumbers count entries = (number : ℕ) → count ≤ number → part_of number entries ≡ []

-- What a relay keeps. What its taker took has numbers of the queue's publishers alone. The relay served that. Its
-- subscribers stand by rising ids and fit what was served.
pub record ServesTaken {Writer : Type 0} (outflow : Writer → Outflow) (relay : Relaying Writer) : Type 0 where
  pub numbers : AreOfNumbers relay.taker.count relay.taker.taken
  pub served : List (Event Writer)
  pub is_served : EntriesAreServed relay.taker.taken relay.no_room served
  pub rising : AreRising relay.rows
  pub fits : Fits outflow relay.rows served

-- an event is that this subscriber asks for a topic
abbrev pub IsSubscribeOf : {Writer : Type 0} → Event Writer → ℕ → Type 0
IsSubscribeOf event id = (topic : List ℕ) × (event ≡ Subscribe id topic)

-- How an event changes a subscriber that stays, by how it stood and how it stands. One that is served stays so if no
-- write failed or took nothing. It fails if one did, or if there is no memory for a topic that it asks for. One that
-- has failed stays as it is.
abbrev pub ChangesBy : {Writer : Type 0} → Standing → Standing → (Writer → Outflow) → ℕ → Event Writer
    → Subscriber Writer → Subscriber Writer → Type 0
ChangesBy Served Served outflow id event old new = (outflow new.writer).failures ≡ (outflow old.writer).failures
ChangesBy Served Broken outflow id event old new = (outflow new.writer).failures ≡ risen (outflow old.writer).failures
ChangesBy Served Starved outflow id event old new =
    IsSubscribeOf event id × ((outflow new.writer).failures ≡ (outflow old.writer).failures)
ChangesBy Broken Served outflow id event old new = ⊥
ChangesBy Broken Broken outflow id event old new = new ≡ old
ChangesBy Broken Starved outflow id event old new = ⊥
ChangesBy Starved Served outflow id event old new = ⊥
ChangesBy Starved Broken outflow id event old new = ⊥
ChangesBy Starved Starved outflow id event old new = new ≡ old

-- How an event changes a subscriber. It comes if the event is that it comes, and is served then. It leaves only if the
-- event is that it leaves.
abbrev pub ChangesAt : {Writer : Type 0} → (Writer → Outflow) → ℕ → Event Writer → Option (Subscriber Writer)
    → Option (Subscriber Writer) → Type 0
ChangesAt outflow id event None None = ⊤
ChangesAt {Writer} outflow id event None (Some new) =
    ((writer : Writer) × (event ≡ Attach id writer)) × (new.standing ≡ Served)
ChangesAt outflow id event (Some old) None = event ≡ Detach id
ChangesAt outflow id event (Some old) (Some new) = ChangesBy old.standing new.standing outflow id event old new

-- how an event changes each subscriber
abbrev pub Changes : {Writer : Type 0} → (Writer → Outflow) → Event Writer → List (Subscriber Writer)
    → List (Subscriber Writer) → Type 0
Changes outflow event old new = (id : ℕ) → ChangesAt outflow id event (subscriber_at id old) (subscriber_at id new)

-- A relay took an event and served it. Whatever events its subscribers fitted before, they fit those and this one. Each
-- subscriber changed as the event demands.
pub record ServesOne {Writer : Type 0} (outflow : Writer → Outflow) (old new : Relaying Writer) : Type 0 where
  pub number : ℕ
  pub event : Event Writer
  pub takes : TakesOne old.taker number (Some event) new.taker
  pub fits : FitsMore outflow old.rows new.rows event
  pub changes : Changes outflow event old.rows new.rows
  pub no_room : new.no_room ≡ old.no_room

-- A relay took the event that a subscriber comes which wasn't there, but there was no room for it.
pub record LacksRoom {Writer : Type 0} (id : ℕ) (old new : Relaying Writer) : Type 0 where
  pub number : ℕ
  pub writer : Writer
  pub takes : TakesOne old.taker number (Some (Attach id writer)) new.taker
  pub absent : subscriber_at id old.rows ≡ None
  pub rows : new.rows ≡ old.rows
  pub no_room : new.no_room ≡ risen old.no_room

-- what a pump answers, and what it leaves: it takes one entry at most, and does what that asks for
abbrev pub Pumps : {Writer : Type 0} → (Writer → Outflow) → Relaying Writer → Pumped → Relaying Writer → Type 0
Pumps outflow old pumped.Did new = ServesOne outflow old new × StarvesOnly (λ id. ⊥) old.rows new.rows
Pumps outflow old (pumped.Closed number) new =
    TakesOne old.taker number None new.taker × (new ≡ record old { taker = new.taker })
Pumps outflow old pumped.Empty new = FindsNothing old.taker new.taker × (new ≡ old)
Pumps outflow old pumped.Complete new = (new ≡ old) × IsComplete old.taker.count old.taker.taken
Pumps outflow old (pumped.NoTopic id) new =
    (serves : ServesOne outflow old new) × IsSubscribeOf serves.event id
    × StarvesOnly (λ other. other ≡ id) old.rows new.rows × IsStarved (subscriber_at id new.rows)
Pumps outflow old (pumped.NoRoom id) new = LacksRoom id old new

-- a pump took an entry
abbrev pub TookEntry : Pumped → Type 0
TookEntry pumped.Did = ⊤
TookEntry (pumped.Closed number) = ⊤
TookEntry pumped.Empty = ⊥
TookEntry pumped.Complete = ⊥
TookEntry (pumped.NoTopic id) = ⊤
TookEntry (pumped.NoRoom id) = ⊤

-- what so many pumps leave, one after the other, if each took an entry
abbrev pub PumpsOn : {Writer : Type 0} → (Writer → Outflow) → ℕ → Relaying Writer → Relaying Writer → Type 0
PumpsOn outflow zero old new = new ≡ old
PumpsOn {Writer} outflow (suc count) old new = (middle : Relaying Writer) × (answer : Pumped)
    × PumpsOn outflow count old middle × TookEntry answer × Pumps outflow middle answer new

-- why a drain ended after so many pumps, if it may make so many at most
abbrev pub EndsBy : {Writer : Type 0} → Drain → ℕ → ℕ → Taking (Event Writer) → Type 0
EndsBy drain.More limit count taker = count ≡ limit
EndsBy drain.Empty limit count taker =
    (count < limit) × StartsWith taker.taken taker.told × (¬ IsComplete taker.count taker.taken)
EndsBy drain.Complete limit count taker = (count < limit) × IsComplete taker.count taker.taken

-- What a drain leaves: it pumped, one entry after the other, and so more was taken.
pub record Drains {Writer : Type 0} (outflow : Writer → Outflow) (limit : ℕ) (old : Relaying Writer) (why : Drain)
    (new : Relaying Writer) : Type 0 where
  pub entries : List (Entry (Event Writer))
  pub taken : new.taker ≡ record old.taker { taken = old.taker.taken ++ entries }
  pub pumps : PumpsOn outflow (length entries) old new
  pub ends : EndsBy why limit (length entries) new.taker

-- a closing token met the taker that settled with it
abbrev pub Meets : {T : Type 0} → Taking T → Publishing T → Type 0
Meets taker closed = (answer : Settled) × Settles taker closed answer

-- the close of each of these publishers was taken
abbrev pub AreWhole : {T : Type 0} → Taking T → List (Publishing T) → Type 0
AreWhole taker tokens = AllByRecursion (λ closed. EndsWithClose (part_of closed.number taker.taken)) tokens

-- whether a subscriber has failed
abbrev pub has_failed : Standing → Bool
has_failed Served = false
has_failed Broken = true
has_failed Starved = true

-- whether a subscriber is there and has failed
abbrev pub is_failed : {Writer : Type 0} → Option (Subscriber Writer) → Bool
is_failed None = false
is_failed (Some row) = has_failed row.standing

-- subscribers by their rows: the id of each, its writer, and whether it has failed
abbrev pub left_by : {Writer : Type 0} → List (Subscriber Writer) → List (ℕ × Writer × Bool)
left_by rows = map (λ row. (row.id, row.writer, has_failed row.standing)) rows

-- the writer of a subscriber among those that are left, and whether it has failed
abbrev pub left_of : {Writer : Type 0} → ℕ → List (ℕ × Writer × Bool) → Option (Writer × Bool)
left_of id [] = None
left_of id ((other, writer, failed) ∷ left) = if nat_eq id other then Some (writer, failed) else left_of id left

-- What a writer got of what was due to it. If the subscriber hasn't failed it got all, and no write failed or took
-- nothing. Else it got what was due up to an event. A write of what that event brought failed or took nothing, or the
-- event asked for a topic for which there was no memory.
abbrev pub GetsMarked : {Writer : Type 0} → Bool → Outflow → Outflow → ℕ → List (Event Writer) → Type 0
GetsMarked false old new id events = Puts old new (feed id events) 0
GetsMarked true old new id events = BreaksOff old new id events ⊎ GoesWithout old new id events

-- A subscriber that is there is left, and one that isn't there is not. Since it came its writer got of its feed what
-- was due to it (`GetsMarked`).
abbrev pub SubscriberIsLeft : {Writer : Type 0} → (Writer → Outflow) → ℕ → Option (Life Writer)
    → Option (Writer × Bool) → Type 0
SubscriberIsLeft outflow id None None = ⊤
SubscriberIsLeft outflow id None (Some left) = ⊥
SubscriberIsLeft outflow id (Some life) None = ⊥
SubscriberIsLeft outflow id (Some life) (Some (writer, failed)) =
    GetsMarked failed (outflow life.writer) (outflow writer) id life.events

-- What is left of a relay that took these entries: the subscribers that are there after what was served of them, by
-- rising ids. Each writer got what was due to it.
pub record RelayIsLeft {Writer : Type 0} (outflow : Writer → Outflow) (taken : List (Entry (Event Writer)))
    (no_room : ℕ)
    (left : List (ℕ × Writer × Bool)) : Type 0 where
  pub served : List (Event Writer)
  pub is_served : EntriesAreServed taken no_room served
  pub rising : AreRisingIds (map (λ entry. (entry.0, entry.1)) left)
  pub each : (id : ℕ) → SubscriberIsLeft outflow id (life id served) (left_of id left)

-- one of the tokens has this number
abbrev pub HasNumber : {T : Type 0} → ℕ → List (Publishing T) → Type 0
HasNumber number [] = ⊥
HasNumber number (closed ∷ tokens) = (closed.number ≡ number) ⊎ HasNumber number tokens

-- All publishers of a queue have closed: there is a token of each number, and the list of each token ends with a close.
pub record AreAllClosed {T : Type 0} (count : ℕ) (tokens : List (Publishing T)) : Type 0 where
  pub closed : AllByRecursion (λ closed. EndsWithClose closed.published) tokens
  pub each : (number : ℕ) → number < count → HasNumber number tokens

-- nothing of the taker changed, but that it may have taken more
abbrev pub TakesMore : {T : Type 0} → Taking T → Taking T → Type 0
TakesMore {T} old new = (entries : List (Entry T)) × (new ≡ record old { taken = old.taken ++ entries })

-- All is complete; or it isn't, but all that the taker was told of has been taken.
abbrev pub EndsAll : {T : Type 0} → Bool → Taking T → Type 0
EndsAll true taker = IsComplete taker.count taker.taken
EndsAll false taker = StartsWith taker.taken taker.told × (¬ IsComplete taker.count taker.taken)

-- all that a token was told of was told here too, and all that its number published is in that
abbrev pub TokenIsTold : {T : Type 0} → List (Entry T) → Publishing T → Type 0
TokenIsTold told closed = StartsWith told closed.told × (part_of closed.number closed.told ≡ closed.published)
