-- What an event makes of a table: it fits the events with one more.
use Rattle.std.proofs.Common.{◌≡◌, ◌⊎◌, inl, inr, ℕ, ◌+◌, ◌-◌, nat_eq, nat_lt, Bool, false, ◌&&◌, ◌||◌}
use Rattle.std.proofs.Common.{if◌then◌else◌, List, [], ◌∷◌, ◌++◌, Option, Some, None, refl, sym, ap, subst, ◌∙◌}
use Rattle.std.proofs.Common.{append_assoc, bytes_eq}
use Rattle.std.proofs.Common.{unwrap_or}
use Rattle.std.specs.List.{list_any}
use Rattle.std.proofs.lemmas.List.{append-nil}
use Rattle.std.proofs.lemmas.Bool.Decides.{eqb_tells}
use Rattle.std.proofs.KnownBytes.{Appends-nil, Appends-trans}
use Rattle.zmtp_wire.specs.Device.{Outflow, Puts, risen_by}
use Rattle.zmtp_wire.specs.Ping.{pong_if_short}
use Rattle.iopub_event.specs.declared.event.Event.{Event}
use Rattle.iopub_event.specs.declared.event.Event.TheVariants.{Attach, Subscribe, Cancel, Pong, Detach}
use Rattle.iopub_relay.specs.declared.subscriber.Standing.{Standing}
use Rattle.iopub_relay.specs.declared.subscriber.Standing.TheVariants.{Served, Broken, Starved}
use Rattle.iopub_relay.specs.declared.subscriber.Subscriber.{Subscriber}
use Rattle.iopub_relay.specs.declared.table.EventOutcome.TheVariants.{Done}
use Rattle.iopub_relay.specs.Counts.{holding_of}
use Rattle.iopub_relay.specs.Life.{Life, leaves, comes_with, life_begun, life}
use Rattle.iopub_relay.specs.Topics.{Holding, held, held_after, beginnings, matches}
use Rattle.iopub_relay.specs.Feed.{brings, feed}
use Rattle.iopub_relay.specs.Rows.{subscriber_at, IsAt, IsFree}
use Rattle.iopub_relay.specs.Table.{GetsBy, Lives, LivesAt, Fits, FitsMore, IsStarved, StarvesOnly, LeavesFailed}
use Rattle.iopub_relay.specs.Table.{ServesEvent}
use Rattle.iopub_relay.proofs.LifeLemmas.{onward, life_left, life_more, held_more, feed_more}
use Rattle.iopub_relay.proofs.RowLemmas.{same_id, some_not_none, found, missing, other_found}
use Rattle.iopub_relay.proofs.StandingLemmas.{served_not_starved}

-- octets that were all added, and then others
pub puts_on : (old middle new : Outflow) (first second : List ℕ) (failures : ℕ) → Puts old middle first 0
    → Puts middle new second failures → Puts old new (first ++ second) failures
puts_on old middle new first second failures one other = record {
  added = Appends-trans old.written middle.written new.written first second one.added other.added;
  fails = other.fails ∙ ap (risen_by failures) one.fails;
}

any_same : (one other : List ℕ → Bool) → ((item : List ℕ) → one item ≡ other item) → (items : List (List ℕ))
    → list_any one items ≡ list_any other items
any_same one other same [] = refl
any_same one other same (item ∷ items) =
    ap (λ (b : Bool). b || list_any one items) (same item)
    ∙ ap (λ (b : Bool). other item || b) (any_same one other same items)

pub matches_same : (one other : Holding) → ((topic : List ℕ) → one topic ≡ other topic) → (frames : List (List ℕ))
    → matches one frames ≡ matches other frames
matches_same one other same [] = refl
matches_same one other same (first ∷ others) =
    any_same (λ beginning. nat_lt 0 (one beginning)) (λ beginning. nat_lt 0 (other beginning))
    (λ beginning. ap (nat_lt 0) (same beginning)) (beginnings first)

module _ {Writer : Type 0} where
  -- a life with one more event
  abbrev pub grown : Life Writer → Event Writer → Life Writer
  grown now event = record { writer = now.writer; events = now.events ++ event ∷ [] }

  -- An event brings nothing to whom holds these topics, and leaves them.
  pub record Quiet (id : ℕ) (now : Life Writer) (event : Event Writer) : Type 0 where
    pub nothing : brings id (held id now.events) event ≡ []
    pub keeps : (topic : List ℕ) (count : ℕ) → held_after id topic count event ≡ count

  pub gets_on : (standing : Standing) (old new : Outflow) (id : ℕ) (events : List (Event Writer)) (event : Event Writer)
      → (standing ≡ Served → brings id (held id events) event ≡ []) → GetsBy standing old new id events
      → GetsBy standing old new id (events ++ event ∷ [])
  gets_on Served old new id events event nothing gets =
      subst (λ (octets : List ℕ). Puts old new octets 0)
      (sym (feed_more id events event ∙ ap (λ (octets : List ℕ). feed id events ++ octets) (nothing refl)
      ∙ append-nil (feed id events))) gets
  gets_on Broken old new id events event nothing gets = record {
    before = gets.before;
    event = gets.event;
    behind = gets.behind ++ event ∷ [];
    split = ap (λ (all : List (Event Writer)). all ++ event ∷ []) gets.split
        ∙ append_assoc gets.before (gets.event ∷ gets.behind) (event ∷ []);
    front = gets.front;
    lost = gets.lost;
    cut = gets.cut;
    some = gets.some;
    puts = gets.puts;
  }
  gets_on Starved old new id events event nothing gets = record {
    before = gets.before;
    topic = gets.topic;
    behind = gets.behind ++ event ∷ [];
    split = ap (λ (all : List (Event Writer)). all ++ event ∷ []) gets.split
        ∙ append_assoc gets.before (Subscribe id gets.topic ∷ gets.behind) (event ∷ []);
    puts = gets.puts;
  }

  module _ (outflow : Writer → Outflow) where
    -- a subscriber lives on where an event is quiet, or where it has failed
    pub lives_on : (id : ℕ) (row : Subscriber Writer) (now : Life Writer) (event : Event Writer)
        → (row.standing ≡ Served → Quiet id now event) → Lives outflow id row now
        → Lives outflow id row (grown now event)
    lives_on id row now event quiet lives = record {
      gets = gets_on row.standing (outflow now.writer) (outflow row.writer) id now.events event
          (λ served. (quiet served).nothing) lives.gets;
      topics = λ served topic. lives.topics served topic
          ∙ sym (held_more id now.events event topic ∙ (quiet served).keeps topic (held id now.events topic));
    }

    stays_at : (id : ℕ) (row : Option (Subscriber Writer)) (now : Option (Life Writer)) (event : Event Writer)
        → ((one : Subscriber Writer) (lived : Life Writer) → row ≡ Some one → one.standing ≡ Served
        → Quiet id lived event)
        → (row ≡ None → comes_with id event ≡ None) → LivesAt outflow id row now
        → LivesAt outflow id row (onward id event now)
    stays_at id None None event quiet away lives =
        subst (λ (came : Option Writer). LivesAt outflow id None (life_begun came [] None)) (sym (away refl)) tt
    stays_at id None (Some now) event quiet away lives = absurd lives
    stays_at id (Some row) None event quiet away lives = absurd lives
    stays_at id (Some row) (Some now) event quiet away lives =
        lives_on id row now event (λ served. quiet row now refl served) lives

    -- where a subscriber is found as before, and it's quiet, it fits on
    pub keeps_at : (id : ℕ) (old new : List (Subscriber Writer)) (events : List (Event Writer)) (event : Event Writer)
        → leaves id event ≡ false
        → ((row : Subscriber Writer) (now : Life Writer) → subscriber_at id old ≡ Some row → row.standing ≡ Served
        → Quiet id now event)
        → (subscriber_at id old ≡ None → comes_with id event ≡ None) → subscriber_at id new ≡ subscriber_at id old
        → LivesAt outflow id (subscriber_at id old) (life id events)
        → LivesAt outflow id (subscriber_at id new) (life id (events ++ event ∷ []))
    keeps_at id old new events event stays quiet away same lives =
        subst (λ (row : Option (Subscriber Writer)). LivesAt outflow id row (life id (events ++ event ∷ []))) (sym same)
        (subst (λ (now : Option (Life Writer)). LivesAt outflow id (subscriber_at id old) now)
        (sym (life_more id events event stays))
        (stays_at id (subscriber_at id old) (life id events) event quiet away lives))

    -- a row that was changed at its place lives on as it is shown to
    changed_at : (id : ℕ) (row new : Option (Subscriber Writer)) (now : Option (Life Writer))
        (old one : Subscriber Writer) (event : Event Writer) → row ≡ Some old → new ≡ Some one
        → ((lived : Life Writer) → Lives outflow id old lived → Lives outflow id one (grown lived event))
        → LivesAt outflow id row now → LivesAt outflow id new (onward id event now)
    changed_at id row new None old one event stood stands on lives =
        absurd (subst (λ (found : Option (Subscriber Writer)). LivesAt outflow id found None) stood lives)
    changed_at id row new (Some now) old one event stood stands on lives =
        subst (λ (found : Option (Subscriber Writer)). LivesAt outflow id found (Some (grown now event))) (sym stands)
        (on now (subst (λ (found : Option (Subscriber Writer)). LivesAt outflow id found (Some now)) stood lives))

    -- what is known of each event but for the subscriber that it is of
    pub record IsOf (id : ℕ) (event : Event Writer) : Type 0 where
      pub stays : (other : ℕ) → nat_eq other id ≡ false → leaves other event ≡ false
      pub away : (other : ℕ) → nat_eq other id ≡ false → comes_with other event ≡ None
      pub quiet : (other : ℕ) (now : Life Writer) → nat_eq other id ≡ false → Quiet other now event

    -- a table that is as it was fits on, where the subscriber that the event is of does
    pub fits_still : (id : ℕ) (old new : List (Subscriber Writer)) (events : List (Event Writer)) (event : Event Writer)
        → IsOf id event
        → ((other : ℕ) → nat_eq other id ≡ false → subscriber_at other new ≡ subscriber_at other old)
        → (LivesAt outflow id (subscriber_at id old) (life id events)
        → LivesAt outflow id (subscriber_at id new) (life id (events ++ event ∷ [])))
        → Fits outflow old events → Fits outflow new (events ++ event ∷ [])
    fits_still id old new events event of same here fits other = elim (eqb_tells other id) [
      | inl (test, is) ↦
          subst (λ (one : ℕ). LivesAt outflow one (subscriber_at one new) (life one (events ++ event ∷ []))) (sym is)
          (here (fits id))
      | inr (test, apart) ↦
          keeps_at other old new events event (of.stays other test) (λ row now stood served. of.quiet other now test)
          (λ none. of.away other test) (same other test) (fits other)
    ]

    attach_is_of : (id : ℕ) (writer : Writer) → IsOf id (Attach id writer)
    attach_is_of id writer = record {
      stays = λ other apart. refl;
      away = λ other apart. ap (λ (b : Bool). if b then Some writer else None) apart;
      quiet = λ other now apart. record { nothing = refl; keeps = λ topic count. refl };
    }

    pub subscribe_is_of : (id : ℕ) (topic : List ℕ) → IsOf id (Subscribe id topic)
    subscribe_is_of id topic = record {
      stays = λ other apart. refl;
      away = λ other apart. refl;
      quiet = λ other now apart. record {
        nothing = refl;
        keeps = λ held count. ap (λ (b : Bool). if b && bytes_eq topic held then count + 1 else count) apart;
      };
    }

    pub cancel_is_of : (id : ℕ) (topic : List ℕ) → IsOf id (Cancel id topic)
    cancel_is_of id topic = record {
      stays = λ other apart. refl;
      away = λ other apart. refl;
      quiet = λ other now apart. record {
        nothing = refl;
        keeps = λ held count. ap (λ (b : Bool). if b && bytes_eq topic held then count - 1 else count) apart;
      };
    }

    pub pong_is_of : (id : ℕ) (context : List ℕ) → IsOf id (Pong id context)
    pong_is_of id context = record {
      stays = λ other apart. refl;
      away = λ other apart. refl;
      quiet = λ other now apart. record {
        nothing = ap (λ (b : Bool). if b then pong_if_short context else []) apart;
        keeps = λ topic count. refl;
      };
    }

    detach_is_of : (id : ℕ) → IsOf id (Detach id)
    detach_is_of id = record {
      stays = λ other apart. apart;
      away = λ other apart. refl;
      quiet = λ other now apart. record { nothing = refl; keeps = λ topic count. refl };
    }

    -- an event of a subscriber that isn't there changes nothing, unless it is that it comes
    absent_still : (id place : ℕ) (rows : List (Subscriber Writer)) (event : Event Writer) → IsOf id event
        → leaves id event ≡ false → comes_with id event ≡ None → IsFree id place rows
        → FitsMore outflow rows rows event
    absent_still id place rows event of stays away free events fits =
        let none : subscriber_at id rows ≡ None =
        ap (subscriber_at id) free.split ∙ missing id free.before free.behind free.below free.above in
        fits_still id rows rows events event of (λ other apart. refl)
        (keeps_at id rows rows events event stays
        (λ row now stood served. absurd (some_not_none row (sym stood ∙ none))) (λ gone. away) refl) fits

    -- a table that is as it was leaves those that have failed
    pub stays_failed : (rows : List (Subscriber Writer)) (event : Event Writer) → LeavesFailed rows rows event
    stays_failed rows event id row stands failed = inl stands

    -- and nobody found no memory for a topic
    pub starves_nobody : (rows : List (Subscriber Writer)) → StarvesOnly (λ id. ⊥) rows rows
    starves_nobody rows id starved = inl starved

    -- that a subscriber comes that is there already changes nothing
    pub attach_there : (id place : ℕ) (rows : List (Subscriber Writer)) (writer : Writer) → IsAt id place rows
        → ServesEvent outflow rows rows (Attach id writer) Done
    attach_there id place rows writer stands = record {
      fits = λ events fits.
          let there : subscriber_at id rows ≡ Some stands.row =
          ap (subscriber_at id) stands.split ∙ found id stands.before stands.behind stands.row stands.is stands.below in
          fits_still id rows rows events (Attach id writer) (attach_is_of id writer) (λ other apart. refl)
          (keeps_at id rows rows events (Attach id writer) refl
          (λ row now stood served. record { nothing = refl; keeps = λ topic count. refl })
          (λ gone. absurd (some_not_none stands.row (sym there ∙ gone))) refl) fits;
      stays = stays_failed rows (Attach id writer);
      starves = starves_nobody rows;
    }

    -- a subscriber for which there was no room wasn't there
    pub no_room : (id place : ℕ) (rows : List (Subscriber Writer)) → IsFree id place rows → subscriber_at id rows ≡ None
    no_room id place rows free =
        ap (subscriber_at id) free.split ∙ missing id free.before free.behind free.below free.above

    begins : (id : ℕ) (row : Subscriber Writer) (before after : Option (Subscriber Writer)) (now : Option (Life Writer))
        → before ≡ None → after ≡ Some row → (holding : (topic : List ℕ) → holding_of row.topics topic ≡ 0)
        → row.standing ≡ Served → LivesAt outflow id before now
        → LivesAt outflow id after (onward id (Attach id row.writer) now)
    begins id row before after (Some now) none is holding served lives =
        absurd (subst (λ (found : Option (Subscriber Writer)). LivesAt outflow id found (Some now)) none lives)
    begins id row before after None none is holding served lives =
        subst (λ (found : Option (Subscriber Writer)). LivesAt outflow id found (onward id (Attach id row.writer) None))
        (sym is)
        (subst (λ (b : Bool). LivesAt outflow id (Some row) (life_begun (if b then Some row.writer else None) [] None))
        (sym (same_id id)) (record {
          gets = subst (λ (standing : Standing). GetsBy {Writer = Writer} standing (outflow row.writer)
              (outflow row.writer) id [])
              (sym served) (record { added = Appends-nil (outflow row.writer).written; fails = refl });
          topics = λ still topic. holding topic;
        }))

    -- a subscriber that comes is in the table
    pub attach_new : (id place : ℕ) (rows new : List (Subscriber Writer)) (row : Subscriber Writer)
        (free : IsFree id place rows) → new ≡ free.before ++ row ∷ free.behind → row.id ≡ id → row.standing ≡ Served
        → ((topic : List ℕ) → holding_of row.topics topic ≡ 0)
        → ServesEvent outflow rows new (Attach id row.writer) Done
    attach_new id place rows new row free is_new is served holding =
        let here : subscriber_at id new ≡ Some row =
        ap (subscriber_at id) is_new ∙ found id free.before free.behind row is free.below in
        let none : subscriber_at id rows ≡ None =
        ap (subscriber_at id) free.split ∙ missing id free.before free.behind free.below free.above in
        let same : (other : ℕ) → nat_eq other id ≡ false → subscriber_at other new ≡ subscriber_at other rows =
        λ other apart. ap (subscriber_at other) is_new
        ∙ other_found other free.before free.behind row (ap (nat_eq other) is ∙ apart)
        ∙ sym (ap (subscriber_at other) free.split) in record {
          fits = λ events fits. fits_still id rows new events (Attach id row.writer) (attach_is_of id row.writer) same
              (λ lives. subst (λ (now : Option (Life Writer)). LivesAt outflow id (subscriber_at id new) now)
              (sym (life_more id events (Attach id row.writer) refl))
              (begins id row (subscriber_at id rows) (subscriber_at id new)
              (life id events) none here holding served lives)) fits;
          stays = λ other failing stands failed. elim (eqb_tells other id) [
            | inl (test, this) ↦ absurd (some_not_none failing
                (sym stands ∙ ap (λ (one : ℕ). subscriber_at one rows) this ∙ none))
            | inr (test, apart) ↦ inl (same other test ∙ stands)
          ];
          starves = λ other starved. elim (eqb_tells other id) [
            | inl (test, this) ↦ absurd (served_not_starved (sym served
                ∙ subst (λ (found : Option (Subscriber Writer)). IsStarved found) here
                (subst (λ (one : ℕ). IsStarved (subscriber_at one new)) this starved)))
            | inr (test, apart) ↦
                inl (subst (λ (found : Option (Subscriber Writer)). IsStarved found) (same other test) starved)
          ];
        }

    -- that one subscribes or gives up who isn't there changes nothing
    pub subscribe_absent : (id place : ℕ) (rows : List (Subscriber Writer)) (topic : List ℕ) → IsFree id place rows
        → ServesEvent outflow rows rows (Subscribe id topic) Done
    subscribe_absent id place rows topic free =
        record {
          fits = absent_still id place rows (Subscribe id topic) (subscribe_is_of id topic) refl refl free;
          stays = stays_failed rows (Subscribe id topic);
          starves = starves_nobody rows;
        }

    pub cancel_absent : (id place : ℕ) (rows : List (Subscriber Writer)) (topic : List ℕ) → IsFree id place rows
        → ServesEvent outflow rows rows (Cancel id topic) Done
    cancel_absent id place rows topic free =
        record {
          fits = absent_still id place rows (Cancel id topic) (cancel_is_of id topic) refl refl free;
          stays = stays_failed rows (Cancel id topic);
          starves = starves_nobody rows;
        }

    -- that one asks for a PONG who isn't there changes nothing
    pub pong_absent : (id place : ℕ) (rows : List (Subscriber Writer)) (context : List ℕ) → IsFree id place rows
        → ServesEvent outflow rows rows (Pong id context) Done
    pong_absent id place rows context free =
        record {
          fits = absent_still id place rows (Pong id context) (pong_is_of id context) refl refl free;
          stays = stays_failed rows (Pong id context);
          starves = starves_nobody rows;
        }

    -- that a subscriber leaves who isn't there changes nothing
    pub detach_absent : (id place : ℕ) (rows : List (Subscriber Writer)) → IsFree id place rows
        → ServesEvent outflow rows rows (Detach id) Done
    detach_absent id place rows free =
        let none : subscriber_at id rows ≡ None =
        ap (subscriber_at id) free.split ∙ missing id free.before free.behind free.below free.above in record {
          fits = λ events fits. fits_still id rows rows events (Detach id) (detach_is_of id) (λ other apart. refl)
              (λ lives. subst (λ (now : Option (Life Writer)). LivesAt outflow id (subscriber_at id rows) now)
              (sym (life_left id events (Detach id) (same_id id)))
              (subst (λ (row : Option (Subscriber Writer)). LivesAt outflow id row None) (sym none) tt)) fits;
          stays = stays_failed rows (Detach id);
          starves = starves_nobody rows;
        }

    -- a subscriber that leaves is no more in the table
    pub detach_there : (id place : ℕ) (rows new : List (Subscriber Writer)) (stands : IsAt id place rows)
        → new ≡ stands.before ++ stands.behind → ServesEvent outflow rows new (Detach id) Done
    detach_there id place rows new stands is_new =
        let none : subscriber_at id new ≡ None =
        ap (subscriber_at id) is_new ∙ missing id stands.before stands.behind stands.below stands.above in
        let same : (other : ℕ) → nat_eq other id ≡ false → subscriber_at other new ≡ subscriber_at other rows =
        λ other apart. ap (subscriber_at other) is_new
        ∙ sym (other_found other stands.before stands.behind stands.row (ap (nat_eq other) stands.is ∙ apart))
        ∙ sym (ap (subscriber_at other) stands.split) in record {
          fits = λ events fits. fits_still id rows new events (Detach id) (detach_is_of id) same
              (λ lives. subst (λ (now : Option (Life Writer)). LivesAt outflow id (subscriber_at id new) now)
              (sym (life_left id events (Detach id) (same_id id)))
              (subst (λ (row : Option (Subscriber Writer)). LivesAt outflow id row None) (sym none) tt)) fits;
          stays = λ other failing stood failed. elim (eqb_tells other id) [
            | inl (test, this) ↦ inr (ap Detach (sym this))
            | inr (test, apart) ↦ inl (same other test ∙ stood)
          ];
          starves = λ other starved. elim (eqb_tells other id) [
            | inl (test, this) ↦ absurd (subst (λ (found : Option (Subscriber Writer)). IsStarved found) none
                (subst (λ (one : ℕ). IsStarved (subscriber_at one new)) this starved))
            | inr (test, apart) ↦
                inl (subst (λ (found : Option (Subscriber Writer)). IsStarved found) (same other test) starved)
          ];
        }

    -- a subscriber that was changed at its place: the table fits on, and others aren't starved
    pub changed : (id place : ℕ) (rows new : List (Subscriber Writer)) (one : Subscriber Writer) (event : Event Writer)
        (stands : IsAt id place rows) → new ≡ stands.before ++ one ∷ stands.behind → one.id ≡ id → IsOf id event
        → leaves id event ≡ false
        → ((lived : Life Writer) → Lives outflow id stands.row lived → Lives outflow id one (grown lived event))
        → FitsMore outflow rows new event
        × ((other : ℕ) → nat_eq other id ≡ false → subscriber_at other new ≡ subscriber_at other rows)
        × (subscriber_at id rows ≡ Some stands.row) × (subscriber_at id new ≡ Some one)
    changed id place rows new one event stands is_new is of stays on =
        let before : subscriber_at id rows ≡ Some stands.row =
        ap (subscriber_at id) stands.split ∙ found id stands.before stands.behind stands.row stands.is stands.below in
        let after : subscriber_at id new ≡ Some one =
        ap (subscriber_at id) is_new ∙ found id stands.before stands.behind one is stands.below in
        let same : (other : ℕ) → nat_eq other id ≡ false → subscriber_at other new ≡ subscriber_at other rows =
        λ other apart. ap (subscriber_at other) is_new
        ∙ other_found other stands.before stands.behind one (ap (nat_eq other) is ∙ apart)
        ∙ sym (other_found other stands.before stands.behind stands.row (ap (nat_eq other) stands.is ∙ apart))
        ∙ sym (ap (subscriber_at other) stands.split) in (
          λ events fits. fits_still id rows new events event of same
              (λ lives. subst (λ (now : Option (Life Writer)). LivesAt outflow id (subscriber_at id new) now)
              (sym (life_more id events event stays))
              (changed_at id (subscriber_at id rows) (subscriber_at id new)
              (life id events) stands.row one event before after on
              lives))
              fits,
          same,
          before,
          after,
        )

    -- the same where it stands as it did: nobody is starved
    pub starves_by : (May : ℕ → Type 0) (id : ℕ) (rows new : List (Subscriber Writer)) (old one : Subscriber Writer)
        → ((other : ℕ) → nat_eq other id ≡ false → subscriber_at other new ≡ subscriber_at other rows)
        → subscriber_at id rows ≡ Some old → subscriber_at id new ≡ Some one
        → (one.standing ≡ Starved → (old.standing ≡ Starved) ⊎ May id) → StarvesOnly May rows new
    starves_by May id rows new old one others before after here other starved = elim (eqb_tells other id) [
      | inl (test, this) ↦ elim (here (subst (λ (found : Option (Subscriber Writer)). IsStarved found) after
          (subst (λ (one : ℕ). IsStarved (subscriber_at one new)) this starved))) [
            | inl was ↦ inl (subst (λ (one : ℕ). IsStarved (subscriber_at one rows)) (sym this)
                (subst (λ (found : Option (Subscriber Writer)). IsStarved found) (sym before) was))
            | inr may ↦ inr (subst May (sym this) may)
          ]
      | inr (test, apart) ↦
          inl (subst (λ (found : Option (Subscriber Writer)). IsStarved found) (others other test) starved)
    ]

    -- where a subscriber that is served is changed, those that have failed stay as they are
    pub stays_by : (id : ℕ) (rows new : List (Subscriber Writer)) (old : Subscriber Writer) (event : Event Writer)
        → ((other : ℕ) → nat_eq other id ≡ false → subscriber_at other new ≡ subscriber_at other rows)
        → subscriber_at id rows ≡ Some old → old.standing ≡ Served → LeavesFailed rows new event
    stays_by id rows new old event others before served other row stands failed = elim (eqb_tells other id) [
      | inl (test, this) ↦ absurd (failed (ap (λ (found : Option (Subscriber Writer)). (unwrap_or found row).standing)
          (sym stands ∙ ap (λ (one : ℕ). subscriber_at one rows) this ∙ before) ∙ served))
      | inr (test, apart) ↦ inl (others other test ∙ stands)
    ]
