-- What the events of a subscriber that is there, and messages, make of a table.
use Rattle.std.proofs.Common.{◌≡◌, inl, inr, ℕ, ◌+◌, ◌-◌, nat_eq, Bool, true, false, ◌&&◌, if◌then◌else◌}
use Rattle.std.proofs.Common.{List, [], ◌∷◌, ◌++◌, Option, Some, None, refl, sym, ap, subst, ◌∙◌, unwrap_or}
use Rattle.std.proofs.Common.{bytes_eq, cond}
use Rattle.std.specs.Bool.{⊤}
use Rattle.zmtp_wire.specs.Frame.{text}
use Rattle.zmtp_wire.specs.Device.{Outflow, Puts}
use Rattle.zmtp_wire.specs.Ping.{pong_if_short}
use Rattle.iopub_event.specs.declared.event.Event.{Event}
use Rattle.iopub_event.specs.declared.event.Event.TheVariants.{Message, Subscribe, Cancel, Pong}
use Rattle.iopub_relay.specs.declared.subscriber.Standing.{Standing}
use Rattle.iopub_relay.specs.declared.subscriber.Standing.TheVariants.{Served, Broken, Starved}
use Rattle.iopub_relay.specs.declared.subscriber.Subscriber.{Subscriber}
use Rattle.iopub_relay.specs.declared.table.EventOutcome.TheVariants.{Done, NoTopic}
use Rattle.iopub_relay.specs.Counts.{holding_of}
use Rattle.iopub_relay.specs.Life.{Life, leaves, comes_with, life}
use Rattle.iopub_relay.specs.Topics.{held, held_after, matches}
use Rattle.iopub_relay.specs.Feed.{brings, feed}
use Rattle.iopub_relay.specs.Rows.{subscriber_at, IsAt}
use Rattle.iopub_relay.specs.Table.{GetsBy, Lives, LivesAt, IsStarved, ServesEvent, GetsText, ReceivesBy}
use Rattle.iopub_relay.specs.Table.{Receives, AllReceive}
use Rattle.iopub_relay.proofs.LifeLemmas.{onward, life_more, held_more, feed_more}
use Rattle.iopub_relay.proofs.RowLemmas.{same_id, found}
use Rattle.iopub_relay.proofs.StandingLemmas.{broken_not_served, broken_not_starved, served_not_starved}
use Rattle.iopub_relay.proofs.TableLemmas.{puts_on, matches_same, grown, gets_on, lives_on}
use Rattle.iopub_relay.proofs.TableLemmas.{keeps_at, fits_still, subscribe_is_of, cancel_is_of, pong_is_of, changed}
use Rattle.iopub_relay.proofs.TableLemmas.{starves_by, starves_nobody, stays_failed, stays_by, IsOf}

module _ {Writer : Type 0} (outflow : Writer → Outflow) where
  -- a subscriber whose topics alone were changed lives on
  retopic : (id : ℕ) (row one : Subscriber Writer) (now : Life Writer) (event : Event Writer)
      → one.writer ≡ row.writer → one.standing ≡ row.standing → brings id (held id now.events) event ≡ []
      → ((topic : List ℕ) → holding_of one.topics topic ≡ held_after id topic (holding_of row.topics topic) event)
      → Lives outflow id row now → Lives outflow id one (grown now event)
  retopic id row one now event writer standing nothing topics lives = record {
    gets = subst (λ (stands : Standing). GetsBy stands (outflow now.writer) (outflow one.writer) id
        (now.events ++ event ∷ []))
        (sym standing)
        (subst (λ (w : Writer). GetsBy row.standing (outflow now.writer) (outflow w) id (now.events ++ event ∷ []))
        (sym writer)
        (gets_on row.standing (outflow now.writer) (outflow row.writer) id now.events event (λ served. nothing)
        lives.gets));
    topics = λ served topic. topics topic
        ∙ ap (λ (count : ℕ). held_after id topic count event) (lives.topics (sym standing ∙ served) topic)
        ∙ sym (held_more id now.events event topic);
  }

  -- a subscriber that is served subscribes to a topic
  pub subscribe_there : (id place : ℕ) (rows new : List (Subscriber Writer)) (one : Subscriber Writer) (topic : List ℕ)
      (stands : IsAt id place rows) → stands.row.standing ≡ Served → new ≡ stands.before ++ one ∷ stands.behind
      → one.id ≡ id
      → one.writer ≡ stands.row.writer → one.standing ≡ stands.row.standing
      → ((other : List ℕ) → holding_of one.topics other ≡ (if bytes_eq topic other
      then holding_of stands.row.topics other + 1 else holding_of stands.row.topics other))
      → ServesEvent outflow rows new (Subscribe id topic) Done
  subscribe_there id place rows new one topic stands served is_new is writer standing topics =
      let (fits, others, before, after) = changed outflow id place rows new one (Subscribe id topic) stands is_new is
      (subscribe_is_of outflow id topic) refl
      (λ lived lives. retopic id stands.row one lived (Subscribe id topic) writer standing refl
      (λ other. topics other ∙ ap (λ (b : Bool). if b && bytes_eq topic other
      then holding_of stands.row.topics other + 1 else holding_of stands.row.topics other) (sym (same_id id))) lives)
      in record {
        fits = fits;
        stays = stays_by outflow id rows new stands.row (Subscribe id topic) others before served;
        starves = starves_by outflow (λ id. ⊥) id rows new stands.row one others before after
            (λ starved. inl (sym standing ∙ starved));
      }

  -- a subscriber gives a topic up
  pub cancel_there : (id place : ℕ) (rows new : List (Subscriber Writer)) (one : Subscriber Writer) (topic : List ℕ)
      (stands : IsAt id place rows) → stands.row.standing ≡ Served → new ≡ stands.before ++ one ∷ stands.behind
      → one.id ≡ id
      → one.writer ≡ stands.row.writer → one.standing ≡ stands.row.standing
      → ((other : List ℕ) → holding_of one.topics other ≡ (if bytes_eq topic other
      then holding_of stands.row.topics other - 1 else holding_of stands.row.topics other))
      → ServesEvent outflow rows new (Cancel id topic) Done
  cancel_there id place rows new one topic stands served is_new is writer standing topics =
      let (fits, others, before, after) = changed outflow id place rows new one (Cancel id topic) stands is_new is
      (cancel_is_of outflow id topic) refl
      (λ lived lives. retopic id stands.row one lived (Cancel id topic) writer standing refl
      (λ other. topics other ∙ ap (λ (b : Bool). if b && bytes_eq topic other
      then holding_of stands.row.topics other - 1 else holding_of stands.row.topics other) (sym (same_id id))) lives)
      in record {
        fits = fits;
        stays = stays_by outflow id rows new stands.row (Cancel id topic) others before served;
        starves = starves_by outflow (λ id. ⊥) id rows new stands.row one others before after
            (λ starved. inl (sym standing ∙ starved));
      }

  -- who gets a text isn't starved
  starves_text : (standing : Standing) (old new : Outflow) (octets : List ℕ) → GetsText standing old new octets
      → standing ≡ Starved → ⊥
  starves_text Served old new octets gets starved = served_not_starved starved
  starves_text Broken old new octets gets starved = broken_not_starved starved
  starves_text Starved old new octets gets starved = absurd gets

  ponged : (id : ℕ) (context : List ℕ) (old new : Subscriber Writer) (now : Life Writer) (standing : Standing)
      → old.standing ≡ Served → new.standing ≡ standing
      → GetsText standing (outflow old.writer) (outflow new.writer) (pong_if_short context) → Lives outflow id old now
      → GetsBy standing (outflow now.writer) (outflow new.writer) id (now.events ++ Pong id context ∷ [])
  ponged id context old new now Served served is gets lives =
      subst (λ (octets : List ℕ). Puts (outflow now.writer) (outflow new.writer) octets 0)
      (sym (feed_more id now.events (Pong id context)
      ∙ ap (λ (b : Bool). feed id now.events ++ (if b then pong_if_short context else [])) (same_id id)))
      (puts_on (outflow now.writer) (outflow old.writer) (outflow new.writer) (feed id now.events)
      (pong_if_short context) 0
      (subst (λ (s : Standing). GetsBy s (outflow now.writer) (outflow old.writer) id now.events) served lives.gets)
      gets)
  ponged id context old new now Broken served is (front, lost, cut, some, puts) lives = record {
    before = now.events;
    event = Pong id context;
    behind = [];
    split = refl;
    front = front;
    lost = lost;
    cut = ap (λ (b : Bool). if b then pong_if_short context else []) (same_id id) ∙ cut;
    some = some;
    puts = puts_on (outflow now.writer) (outflow old.writer) (outflow new.writer) (feed id now.events) front 1
        (subst (λ (s : Standing). GetsBy s (outflow now.writer) (outflow old.writer) id now.events) served lives.gets)
        puts;
  }
  ponged id context old new now Starved served is gets lives = absurd gets

  -- a subscriber that is served gets a PONG
  pub pong_there : (id place : ℕ) (rows new : List (Subscriber Writer)) (one : Subscriber Writer) (context : List ℕ)
      (stands : IsAt id place rows) → stands.row.standing ≡ Served → new ≡ stands.before ++ one ∷ stands.behind
      → one.id ≡ id → one.topics ≡ stands.row.topics
      → GetsText one.standing (outflow stands.row.writer) (outflow one.writer) (pong_if_short context)
      → ServesEvent outflow rows new (Pong id context) Done
  pong_there id place rows new one context stands served is_new is topics gets =
      let (fits, others, before, after) = changed outflow id place rows new one (Pong id context) stands is_new is
      (pong_is_of outflow id context) refl
      (λ lived lives. record {
        gets = ponged id context stands.row one lived one.standing served refl gets lives;
        topics = λ still topic. ap (λ topics. holding_of topics topic) topics ∙ lives.topics served topic
            ∙ sym (held_more id lived.events (Pong id context) topic);
      })
      in record {
        fits = fits;
        stays = stays_by outflow id rows new stands.row (Pong id context) others before served;
        starves = starves_by outflow (λ id. ⊥) id rows new stands.row one others before after
            (λ starved. absurd (starves_text one.standing (outflow stands.row.writer) (outflow one.writer)
            (pong_if_short context) gets starved));
      }

  failed_still : (id place : ℕ) (rows : List (Subscriber Writer)) (event : Event Writer) (stands : IsAt id place rows)
      → (stands.row.standing ≡ Served → ⊥) → IsOf outflow id event → leaves id event ≡ false
      → comes_with id event ≡ None → ServesEvent outflow rows rows event Done
  failed_still id place rows event stands failed of stays away =
      let there : subscriber_at id rows ≡ Some stands.row =
      ap (subscriber_at id) stands.split
      ∙ found id stands.before stands.behind stands.row stands.is stands.below in record {
        fits = λ events fits. fits_still outflow id rows rows events event of (λ other apart. refl)
            (keeps_at outflow id rows rows events event stays
            (λ row now stood served. absurd (failed
            (ap (λ (found : Option (Subscriber Writer)). (unwrap_or found row).standing) (sym there ∙ stood) ∙ served)))
            (λ gone. away) refl) fits;
        stays = stays_failed outflow rows event;
        starves = starves_nobody outflow rows;
      }

  -- a subscriber that has failed subscribes to a topic, gives one up or asks for a PONG: it stays as it is
  pub subscribe_failed : (id place : ℕ) (rows : List (Subscriber Writer)) (topic : List ℕ) (stands : IsAt id place rows)
      → (stands.row.standing ≡ Served → ⊥) → ServesEvent outflow rows rows (Subscribe id topic) Done
  subscribe_failed id place rows topic stands failed =
      failed_still id place rows (Subscribe id topic) stands failed (subscribe_is_of outflow id topic) refl refl

  pub cancel_failed : (id place : ℕ) (rows : List (Subscriber Writer)) (topic : List ℕ) (stands : IsAt id place rows)
      → (stands.row.standing ≡ Served → ⊥) → ServesEvent outflow rows rows (Cancel id topic) Done
  cancel_failed id place rows topic stands failed =
      failed_still id place rows (Cancel id topic) stands failed (cancel_is_of outflow id topic) refl refl

  pub pong_failed : (id place : ℕ) (rows : List (Subscriber Writer)) (context : List ℕ) (stands : IsAt id place rows)
      → (stands.row.standing ≡ Served → ⊥) → ServesEvent outflow rows rows (Pong id context) Done
  pong_failed id place rows context stands failed =
      failed_still id place rows (Pong id context) stands failed (pong_is_of outflow id context) refl refl

  -- there is no memory for a topic of a subscriber that is served
  pub subscribe_starved : (id place : ℕ) (rows new : List (Subscriber Writer)) (one : Subscriber Writer)
      (topic : List ℕ) (stands : IsAt id place rows) → new ≡ stands.before ++ one ∷ stands.behind → one.id ≡ id
      → one.writer ≡ stands.row.writer → stands.row.standing ≡ Served → one.standing ≡ Starved
      → ServesEvent outflow rows new (Subscribe id topic) (NoTopic id)
  subscribe_starved id place rows new one topic stands is_new is writer served starved =
      let (fits, others, before, after) = changed outflow id place rows new one (Subscribe id topic) stands is_new is
      (subscribe_is_of outflow id topic) refl
      (λ lived lives. record {
        gets = subst (λ (s : Standing). GetsBy s (outflow lived.writer) (outflow one.writer) id
            (lived.events ++ Subscribe id topic ∷ [])) (sym starved) (record {
              before = lived.events;
              topic = topic;
              behind = [];
              split = refl;
              puts = subst (λ (w : Writer). Puts (outflow lived.writer) (outflow w) (feed id lived.events) 0)
                  (sym writer)
                  (subst (λ (s : Standing). GetsBy s (outflow lived.writer) (outflow stands.row.writer) id lived.events)
                  served lives.gets);
            });
        topics = λ still other. absurd (served_not_starved (sym still ∙ starved));
      })
      in (
        (topic, refl),
        (
          record {
            fits = fits;
            stays = stays_by outflow id rows new stands.row (Subscribe id topic) others before served;
            starves = starves_by outflow (λ other. other ≡ id) id rows new stands.row one others before after
                (λ starved. inr refl);
          },
          subst (λ (found : Option (Subscriber Writer)). IsStarved found) (sym after) starved,
        ),
      )

  -- a message leaves a subscriber's id
  pub same_by : (standing : Standing) (due : Bool) (frames : List (List ℕ)) (old new : Subscriber Writer)
      → ReceivesBy outflow standing due frames old new → new.id ≡ old.id
  same_by Served true frames old new hears = hears.same
  same_by Served false frames old new hears = ap (λ (row : Subscriber Writer). row.id) hears
  same_by Broken due frames old new hears = ap (λ (row : Subscriber Writer). row.id) hears
  same_by Starved due frames old new hears = ap (λ (row : Subscriber Writer). row.id) hears

  -- what a message makes of the subscriber of an id
  abbrev pub ReceivesAt : List (List ℕ) → Option (Subscriber Writer) → Option (Subscriber Writer) → Type 0
  ReceivesAt frames None None = ⊤
  ReceivesAt frames None (Some new) = ⊥
  ReceivesAt frames (Some old) None = ⊥
  ReceivesAt frames (Some old) (Some new) = Receives outflow frames old new

  receives_first : (test : Bool) (frames : List (List ℕ)) (old new : Subscriber Writer)
      (olds news : Option (Subscriber Writer)) → Receives outflow frames old new → ReceivesAt frames olds news
      → ReceivesAt frames (cond test (Some old) olds) (cond test (Some new) news)
  receives_first true frames old new olds news first others = first
  receives_first false frames old new olds news first others = others

  receives_at : (id : ℕ) (frames : List (List ℕ)) (olds news : List (Subscriber Writer))
      → AllReceive outflow frames olds news
      → ReceivesAt frames (subscriber_at id olds) (subscriber_at id news)
  receives_at id frames [] [] hear = tt
  receives_at id frames [] (new ∷ news) hear = absurd hear
  receives_at id frames (old ∷ olds) [] hear = absurd hear
  receives_at id frames (old ∷ olds) (new ∷ news) hear =
      subst (λ (test : Bool). ReceivesAt frames (subscriber_at id (old ∷ olds))
      (cond test (Some new) (subscriber_at id news)))
      (ap (nat_eq id) (sym (same_by old.standing (matches (holding_of old.topics) frames) frames old new hear.0)))
      (receives_first (nat_eq id old.id) frames old new (subscriber_at id olds) (subscriber_at id news) hear.0
      (receives_at id frames olds news hear.1))

  -- a message that is for nobody, or comes to one that has failed
  receives_nothing : (id : ℕ) (frames : List (List ℕ)) (old new : Subscriber Writer) (now : Life Writer)
      → (old.standing ≡ Served → matches (held id now.events) frames ≡ false) → new ≡ old → Lives outflow id old now
      → Lives outflow id new (grown now (Message frames))
  receives_nothing id frames old new now due same lives =
      subst (λ (row : Subscriber Writer). Lives outflow id row (grown now (Message frames))) (sym same)
      (lives_on outflow id old now (Message frames) (λ served. record {
        nothing = ap (λ (b : Bool). if b then text frames else []) (due served);
        keeps = λ topic count. refl;
      }) lives)

  delivered : (id : ℕ) (frames : List (List ℕ)) (old new : Subscriber Writer) (now : Life Writer) (standing : Standing)
      → old.standing ≡ Served → matches (held id now.events) frames ≡ true → new.standing ≡ standing
      → GetsText standing (outflow old.writer) (outflow new.writer) (text frames) → Lives outflow id old now
      → GetsBy standing (outflow now.writer) (outflow new.writer) id (now.events ++ Message frames ∷ [])
  delivered id frames old new now Served served due is gets lives =
      subst (λ (octets : List ℕ). Puts (outflow now.writer) (outflow new.writer) octets 0)
      (sym (feed_more id now.events (Message frames)
      ∙ ap (λ (b : Bool). feed id now.events ++ (if b then text frames else [])) due))
      (puts_on (outflow now.writer) (outflow old.writer) (outflow new.writer) (feed id now.events) (text frames) 0
      (subst (λ (s : Standing). GetsBy s (outflow now.writer) (outflow old.writer) id now.events) served lives.gets)
      gets)
  delivered id frames old new now Broken served due is (front, lost, cut, some, puts) lives = record {
    before = now.events;
    event = Message frames;
    behind = [];
    split = refl;
    front = front;
    lost = lost;
    cut = ap (λ (b : Bool). if b then text frames else []) due ∙ cut;
    some = some;
    puts = puts_on (outflow now.writer) (outflow old.writer) (outflow new.writer) (feed id now.events) front 1
        (subst (λ (s : Standing). GetsBy s (outflow now.writer) (outflow old.writer) id now.events) served lives.gets)
        puts;
  }
  delivered id frames old new now Starved served due is gets lives = absurd gets

  receives_by : (id : ℕ) (frames : List (List ℕ)) (old new : Subscriber Writer) (now : Life Writer)
      (standing : Standing)
      (due : Bool) → old.standing ≡ standing → matches (holding_of old.topics) frames ≡ due
      → ReceivesBy outflow standing due frames old new → Lives outflow id old now
      → Lives outflow id new (grown now (Message frames))
  receives_by id frames old new now Served true served due hears lives = record {
    gets = delivered id frames old new now new.standing served
        (sym (matches_same (holding_of old.topics) (held id now.events) (lives.topics served) frames) ∙ due) refl
        hears.gets lives;
    topics = λ still topic. ap (λ topics. holding_of topics topic) hears.topics ∙ lives.topics served topic
        ∙ sym (held_more id now.events (Message frames) topic);
  }
  receives_by id frames old new now Served false served due hears lives =
      receives_nothing id frames old new now
      (λ s. sym (matches_same (holding_of old.topics) (held id now.events) (lives.topics s) frames) ∙ due) hears lives
  receives_by id frames old new now Broken due is matching hears lives =
      receives_nothing id frames old new now (λ served. absurd (broken_not_served (sym is ∙ served))) hears lives
  receives_by id frames old new now Starved due is matching hears lives =
      receives_nothing id frames old new now (λ served. absurd (served_not_starved (sym served ∙ is))) hears lives

  message_at : (id : ℕ) (frames : List (List ℕ)) (old new : Option (Subscriber Writer)) (now : Option (Life Writer))
      → ReceivesAt frames old new → LivesAt outflow id old now → LivesAt outflow id new (onward id (Message frames) now)
  message_at id frames None None None hears lives = tt
  message_at id frames None None (Some now) hears lives = absurd lives
  message_at id frames None (Some new) now hears lives = absurd hears
  message_at id frames (Some old) None now hears lives = absurd hears
  message_at id frames (Some old) (Some new) None hears lives = absurd lives
  message_at id frames (Some old) (Some new) (Some now) hears lives =
      receives_by id frames old new now old.standing (matches (holding_of old.topics) frames) refl refl hears lives

  starves_one : (standing : Standing) (due : Bool) (frames : List (List ℕ)) (old new : Subscriber Writer)
      → ReceivesBy outflow standing due frames old new → new.standing ≡ Starved → old.standing ≡ Starved
  starves_one Served true frames old new hears starved =
      absurd (starves_text new.standing (outflow old.writer) (outflow new.writer) (text frames) hears.gets starved)
  starves_one Served false frames old new hears starved =
      sym (ap (λ (row : Subscriber Writer). row.standing) hears) ∙ starved
  starves_one Broken due frames old new hears starved =
      sym (ap (λ (row : Subscriber Writer). row.standing) hears) ∙ starved
  starves_one Starved due frames old new hears starved =
      sym (ap (λ (row : Subscriber Writer). row.standing) hears) ∙ starved

  starves_at : (frames : List (List ℕ)) (old new : Option (Subscriber Writer)) → ReceivesAt frames old new
      → IsStarved new → IsStarved old
  starves_at frames None None hears starved = starved
  starves_at frames None (Some new) hears starved = absurd hears
  starves_at frames (Some old) None hears starved = absurd starved
  starves_at frames (Some old) (Some new) hears starved =
      starves_one old.standing (matches (holding_of old.topics) frames) frames old new hears starved

  fails_one : (standing : Standing) (due : Bool) (frames : List (List ℕ)) (old new : Subscriber Writer)
      → (standing ≡ Served → ⊥) → ReceivesBy outflow standing due frames old new → new ≡ old
  fails_one Served due frames old new failed hears = absurd (failed refl)
  fails_one Broken due frames old new failed hears = hears
  fails_one Starved due frames old new failed hears = hears

  fails_at : (frames : List (List ℕ)) (old new : Option (Subscriber Writer)) (row : Subscriber Writer)
      → old ≡ Some row → (row.standing ≡ Served → ⊥) → ReceivesAt frames old new → new ≡ Some row
  fails_at frames None None row stands failed hears = stands
  fails_at frames None (Some new) row stands failed hears = absurd hears
  fails_at frames (Some old) None row stands failed hears = absurd hears
  fails_at frames (Some old) (Some new) row stands failed hears =
      let same = ap (λ (found : Option (Subscriber Writer)). unwrap_or found old) stands in
      ap (λ (one : Subscriber Writer). Some one)
      (fails_one old.standing (matches (holding_of old.topics) frames) frames old new
      (λ served. failed (sym (ap (λ (one : Subscriber Writer). one.standing) same) ∙ served)) hears ∙ same)

  -- a message came to all subscribers
  pub message_served : (frames : List (List ℕ)) (old new : List (Subscriber Writer)) → AllReceive outflow frames old new
      → ServesEvent outflow old new (Message frames) Done
  message_served frames old new hear = record {
    fits = λ events fits id. subst (λ (now : Option (Life Writer)). LivesAt outflow id (subscriber_at id new) now)
        (sym (life_more id events (Message frames) refl))
        (message_at id frames (subscriber_at id old) (subscriber_at id new) (life id events)
        (receives_at id frames old new hear)
        (fits id));
    stays = λ id row stands failed.
        inl (fails_at frames (subscriber_at id old) (subscriber_at id new) row stands failed
        (receives_at id frames old new hear));
    starves = λ id starved.
        inl (starves_at frames (subscriber_at id old) (subscriber_at id new)
        (receives_at id frames old new hear) starved);
  }
