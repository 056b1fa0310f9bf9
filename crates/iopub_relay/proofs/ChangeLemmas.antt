-- How an event changes each subscriber of a table that serves it.
use Rattle.std.proofs.Common.{◌≡◌, ◌⊎◌, inl, inr, ℕ, nat_eq, Bool, true, false, List, [], ◌∷◌, ◌++◌, Option}
use Rattle.std.proofs.Common.{Some, None, refl, sym, ap, subst, ◌∙◌, unwrap_or, if◌then◌else◌, true≢false}
use Rattle.std.specs.Bool.{⊤}
use Rattle.std.proofs.lemmas.Bool.Decides.{eqb_tells}
use Rattle.zmtp_wire.specs.Device.{Outflow, risen}
use Rattle.iopub_event.specs.declared.event.Event.{Event}
use Rattle.iopub_event.specs.declared.event.Event.TheVariants.{Message, Attach, Subscribe, Cancel, Pong, Detach}
use Rattle.iopub_relay.specs.declared.subscriber.Standing.{Standing}
use Rattle.iopub_relay.specs.declared.subscriber.Standing.TheVariants.{Served, Broken, Starved}
use Rattle.iopub_relay.specs.declared.subscriber.Subscriber.{Subscriber}
use Rattle.iopub_relay.specs.Life.{Life, leaves, comes_with, life_begun, life}
use Rattle.iopub_relay.specs.Rows.{subscriber_at}
use Rattle.iopub_relay.specs.Table.{GetsBy, LivesAt, Fits, IsStarved, TableGrows}
use Rattle.iopub_relay.specs.Relay.{Relaying, ServesTaken, ServesOne, IsSubscribeOf, ChangesBy, ChangesAt, Changes}
use Rattle.iopub_queue.specs.Calls.{TakesOne}
use Rattle.iopub_relay.proofs.LifeLemmas.{onward, life_left, life_more}
use Rattle.iopub_relay.proofs.RowLemmas.{same_id, some_not_none}
use Rattle.iopub_relay.proofs.StandingLemmas.{broken_not_starved, served_not_broken, served_not_starved}

abbrev is_empty : {A : Type 0} → List A → Type 0
is_empty [] = ⊤
is_empty (item ∷ items) = ⊥

nothing_splits : {A : Type 0} (before behind : List A) (item : A) → [] ≡ before ++ item ∷ behind → ⊥
nothing_splits [] behind item same = subst is_empty same tt
nothing_splits (first ∷ before) behind item same = subst is_empty same tt

same_as : (id other : ℕ) → nat_eq id other ≡ true → id ≡ other
same_as id other same = elim (eqb_tells id other) [
  | inl (test, is) ↦ is
  | inr (test, apart) ↦ absurd (true≢false (sym same ∙ test))
]

module _ {Writer : Type 0} where
  -- an event by which a subscriber leaves
  is_detach : (id : ℕ) (event : Event Writer) → leaves id event ≡ true → event ≡ Detach id
  is_detach id (Message frames) left = absurd (true≢false (sym left))
  is_detach id (Attach other writer) left = absurd (true≢false (sym left))
  is_detach id (Subscribe other topic) left = absurd (true≢false (sym left))
  is_detach id (Cancel other topic) left = absurd (true≢false (sym left))
  is_detach id (Pong other context) left = absurd (true≢false (sym left))
  is_detach id (Detach other) left = ap Detach (sym (same_as id other left))

  some_of_if : (id other : ℕ) (test : Bool) (writer came : Writer) → nat_eq id other ≡ test
      → (if test then Some writer else None) ≡ Some came → Attach other writer ≡ Attach id came
  some_of_if id other true writer came same is =
      ap (λ (one : ℕ). Attach one writer) (sym (same_as id other same))
      ∙ ap (λ (one : Option Writer). Attach id (unwrap_or one writer)) is
  some_of_if id other false writer came same is = absurd (some_not_none came (sym is))

  -- an event by which a subscriber comes
  is_attach : (id : ℕ) (event : Event Writer) (writer : Writer) → comes_with id event ≡ Some writer
      → event ≡ Attach id writer
  is_attach id (Message frames) writer came = absurd (some_not_none writer (sym came))
  is_attach id (Attach other with_it) writer came = some_of_if id other (nat_eq id other) with_it writer refl came
  is_attach id (Subscribe other topic) writer came = absurd (some_not_none writer (sym came))
  is_attach id (Cancel other topic) writer came = absurd (some_not_none writer (sym came))
  is_attach id (Pong other context) writer came = absurd (some_not_none writer (sym came))
  is_attach id (Detach other) writer came = absurd (some_not_none writer (sym came))

  module _ (outflow : Writer → Outflow) (id : ℕ) (event : Event Writer) where
    -- who has just come is served
    served_at_first : (standing : Standing) (old new : Outflow) → GetsBy {Writer = Writer} standing old new id []
        → standing ≡ Served
    served_at_first Served old new gets = refl
    served_at_first Broken old new gets =
        absurd (nothing_splits gets.before gets.behind gets.event gets.split)
    served_at_first Starved old new gets =
        absurd (nothing_splits gets.before gets.behind (Subscribe id gets.topic) gets.split)

    newcomer : (new : Option (Subscriber Writer)) (came : Option Writer) → comes_with id event ≡ came
        → LivesAt outflow id new (life_begun came [] None) → ChangesAt outflow id event None new
    newcomer None came is lives = tt
    newcomer (Some row) None is lives = absurd lives
    newcomer (Some row) (Some writer) is lives = (
      (writer, is_attach id event writer is),
      served_at_first row.standing (outflow writer) (outflow row.writer) lives.gets,
    )

    -- what is known of a subscriber that has failed: it stays as it was, since it doesn't leave
    abbrev StaysIfFailed : Subscriber Writer → Subscriber Writer → Type 0
    StaysIfFailed old new = (old.standing ≡ Served → ⊥) → new ≡ old

    -- the standing of one that has failed stays
    standing_stays : (old new : Subscriber Writer) → StaysIfFailed old new → (old.standing ≡ Served → ⊥)
        → new.standing ≡ old.standing
    standing_stays old new stays failed = ap (λ (row : Subscriber Writer). row.standing) (stays failed)

    stayer_by : (before after : Standing) (old new : Subscriber Writer) (now : Life Writer) → old.standing ≡ before
        → new.standing ≡ after → GetsBy before (outflow now.writer) (outflow old.writer) id now.events
        → GetsBy after (outflow now.writer) (outflow new.writer) id (now.events ++ event ∷ [])
        → StaysIfFailed old new → (new.standing ≡ Starved → (old.standing ≡ Starved) ⊎ IsSubscribeOf event id)
        → ChangesBy before after outflow id event old new
    stayer_by Served Served old new now was is one other stays starves = other.fails ∙ sym one.fails
    stayer_by Served Broken old new now was is one other stays starves = other.puts.fails ∙ ap risen (sym one.fails)
    stayer_by Served Starved old new now was is one other stays starves = elim (starves is) [
      | inl before ↦ absurd (served_not_starved (sym was ∙ before))
      | inr asks ↦ (asks, other.puts.fails ∙ sym one.fails)
    ]
    stayer_by Broken Served old new now was is one other stays starves =
        absurd (served_not_broken (sym is
        ∙ standing_stays old new stays (λ served. served_not_broken (sym served ∙ was)) ∙ was))
    stayer_by Broken Broken old new now was is one other stays starves =
        stays (λ served. served_not_broken (sym served ∙ was))
    stayer_by Broken Starved old new now was is one other stays starves =
        absurd (broken_not_starved (sym (sym is
        ∙ standing_stays old new stays (λ served. served_not_broken (sym served ∙ was)) ∙ was)))
    stayer_by Starved Served old new now was is one other stays starves =
        absurd (served_not_starved (sym is
        ∙ standing_stays old new stays (λ served. served_not_starved (sym served ∙ was)) ∙ was))
    stayer_by Starved Broken old new now was is one other stays starves =
        absurd (broken_not_starved (sym is
        ∙ standing_stays old new stays (λ served. served_not_starved (sym served ∙ was)) ∙ was))
    stayer_by Starved Starved old new now was is one other stays starves =
        stays (λ served. served_not_starved (sym served ∙ was))

    -- a subscriber that was there, where the event isn't that it leaves
    stayer : (old : Subscriber Writer) (new : Option (Subscriber Writer)) (now : Option (Life Writer))
        → LivesAt outflow id (Some old) now → LivesAt outflow id new (onward id event now)
        → ((row : Subscriber Writer) → new ≡ Some row → StaysIfFailed old row)
        → (IsStarved new → (old.standing ≡ Starved) ⊎ IsSubscribeOf event id)
        → ChangesAt outflow id event (Some old) new
    stayer old new None lived lives stays starves = absurd lived
    stayer old None (Some now) lived lives stays starves = absurd lives
    stayer old (Some row) (Some now) lived lives stays starves =
        stayer_by old.standing row.standing old row now refl refl lived.gets lives.gets (stays row refl) starves

    change_by : (left : Bool) → leaves id event ≡ left → (old new : Option (Subscriber Writer))
        (now after : Option (Life Writer)) → LivesAt outflow id old now → LivesAt outflow id new after
        → (left ≡ true → after ≡ None) → (left ≡ false → after ≡ onward id event now)
        → ((one row : Subscriber Writer) → old ≡ Some one → new ≡ Some row → left ≡ false → StaysIfFailed one row)
        → (IsStarved new → IsStarved old ⊎ IsSubscribeOf event id) → ChangesAt outflow id event old new
    change_by true left None None now after lived lives gone on stays starves = tt
    change_by true left (Some one) None now after lived lives gone on stays starves = is_detach id event left
    change_by true left old (Some row) now after lived lives gone on stays starves =
        absurd (subst (λ (life : Option (Life Writer)). LivesAt outflow id (Some row) life) (gone refl) lives)
    change_by false left None new None after lived lives gone on stays starves =
        newcomer new (comes_with id event) refl
        (subst (λ (life : Option (Life Writer)). LivesAt outflow id new life) (on refl) lives)
    change_by false left None new (Some now) after lived lives gone on stays starves = absurd lived
    change_by false left (Some one) new now after lived lives gone on stays starves =
        stayer one new now lived
        (subst (λ (life : Option (Life Writer)). LivesAt outflow id new life) (on refl) lives)
        (λ row is. stays one row refl is refl) starves

  row_is : (one other : Subscriber Writer) → Some one ≡ Some other → one ≡ other
  row_is one other same = ap (λ (row : Option (Subscriber Writer)). unwrap_or row one) same

  -- how an event changes each subscriber of a table that fitted events
  pub changes : (outflow : Writer → Outflow) (old new : List (Subscriber Writer)) (event : Event Writer)
      (events : List (Event Writer)) → TableGrows outflow (IsSubscribeOf event) old new event → Fits outflow old events
      → Changes outflow event old new
  changes outflow old new event events grows fits id =
      change_by outflow id event (leaves id event) refl (subscriber_at id old) (subscriber_at id new) (life id events)
      (life id (events ++ event ∷ [])) (fits id) (grows.fits events fits id) (life_left id events event)
      (life_more id events event)
      (λ one row was is stay failed. elim (grows.stays id one was failed) [
        | inl same ↦ row_is row one (sym is ∙ same)
        | inr leaving ↦ absurd (true≢false (sym (ap (leaves id) leaving ∙ same_id id) ∙ stay))
      ]) (grows.starves id)

  -- an event that was taken is served
  pub serves_one : (outflow : Writer → Outflow) (old new : Relaying Writer) (number : ℕ) (event : Event Writer)
      (May : ℕ → Type 0) → TakesOne old.taker number (Some event) new.taker
      → TableGrows outflow May old.rows new.rows event → ((id : ℕ) → May id → IsSubscribeOf event id)
      → new.no_room ≡ old.no_room → ServesTaken outflow old → ServesOne outflow old new
  serves_one outflow old new number event May takes grows asks room serves =
      let widened : TableGrows outflow (IsSubscribeOf event) old.rows new.rows event = record {
        fits = grows.fits;
        stays = grows.stays;
        starves = λ id starved. elim (grows.starves id starved) [
          | inl was ↦ inl was
          | inr may ↦ inr (asks id may)
        ];
      } in record {
        number = number;
        event = event;
        takes = takes;
        fits = grows.fits;
        changes = changes outflow old.rows new.rows event serves.served widened serves.fits;
        no_room = room;
      }

  -- who asks for a topic
  asks_for : (id : ℕ) (event : Event Writer) → (topic : List ℕ) × (event ≡ Subscribe id topic) → (other : ℕ)
      → other ≡ id → IsSubscribeOf event other
  asks_for id event asks other same = subst (IsSubscribeOf event) (sym same) asks

  -- an event that was taken is served, by which a subscriber asks for a topic that finds no memory
  pub serves_topic : (outflow : Writer → Outflow) (old new : Relaying Writer) (number id : ℕ) (event : Event Writer)
      → TakesOne old.taker number (Some event) new.taker
      → TableGrows outflow (λ other. other ≡ id) old.rows new.rows event
      → IsSubscribeOf event id → new.no_room ≡ old.no_room → ServesTaken outflow old
      → (serves : ServesOne outflow old new) × IsSubscribeOf serves.event id
  unfolding serves_one
  serves_topic outflow old new number id event takes grows asks room serves = (
    serves_one outflow old new number event (λ other. other ≡ id) takes grows (asks_for id event asks) room serves,
    asks,
  )
