-- Edits of the rows of a table at a place, and what they make of it.
use Rattle.std.proofs.Common.{◌≡◌, ℕ, ◌+◌, ◌-◌, List, ◌∷◌, ◌++◌, get_or, if◌then◌else◌, bytes_eq, refl, sym, ap}
use Rattle.std.proofs.Common.{subst, ◌∙◌}
use Rattle.std.specs.List.{insert, remove, slice_set}
use Rattle.zmtp_wire.specs.Device.{Outflow}
use Rattle.zmtp_wire.specs.Ping.{pong_if_short}
use Rattle.iopub_event.specs.declared.event.Event.TheVariants.{Attach, Subscribe, Cancel, Pong, Detach}
use Rattle.iopub_relay.specs.declared.subscriber.Standing.{Standing}
use Rattle.iopub_relay.specs.declared.subscriber.Standing.TheVariants.{Served, Broken, Starved}
use Rattle.iopub_relay.specs.declared.subscriber.Subscriber.{Subscriber}
use Rattle.iopub_relay.specs.declared.table.EventOutcome.TheVariants.{Done, NoTopic}
use Rattle.iopub_relay.specs.Counts.{holding_of}
use Rattle.iopub_relay.specs.Rows.{AreBelow, AreAbove, AreRising, IsAt, IsFree}
use Rattle.iopub_relay.specs.Table.{ServesEvent, GetsText, PongsBy}
use Rattle.iopub_relay.proofs.RowLemmas.{rising_with, rising_without, rising_at, set_here, removed_here}
use Rattle.iopub_relay.proofs.RowLemmas.{inserted_here, here}
use Rattle.iopub_relay.proofs.TableLemmas.{attach_new, detach_there}
use Rattle.iopub_relay.proofs.ServeLemmas.{subscribe_there, subscribe_failed, subscribe_starved, cancel_there}
use Rattle.iopub_relay.proofs.ServeLemmas.{cancel_failed, pong_there, pong_failed}
use Rattle.iopub_relay.proofs.StandingLemmas.{broken_not_served, served_not_starved}

module _ {Writer : Type 0} (id place : ℕ) (rows : List (Subscriber Writer)) where
  removed : (stands : IsAt id place rows) → remove rows place ≡ stands.before ++ stands.behind
  removed stands =
      ap (λ (all : List (Subscriber Writer)). remove all place) stands.split
      ∙ ap (λ (n : ℕ). remove (stands.before ++ stands.row ∷ stands.behind) n) (sym stands.at)
      ∙ removed_here stands.before stands.behind stands.row

  inserted : (free : IsFree id place rows) (row : Subscriber Writer)
      → insert rows place row ≡ free.before ++ row ∷ free.behind
  inserted free row =
      ap (λ (all : List (Subscriber Writer)). insert all place row) free.split
      ∙ ap (λ (n : ℕ). insert (free.before ++ free.behind) n row) (sym free.at)
      ∙ inserted_here free.before free.behind row

  set : (stands : IsAt id place rows) (row : Subscriber Writer)
      → slice_set rows place row ≡ stands.before ++ row ∷ stands.behind
  set stands row =
      ap (λ (all : List (Subscriber Writer)). slice_set all place row) stands.split
      ∙ ap (λ (n : ℕ). slice_set (stands.before ++ stands.row ∷ stands.behind) n row) (sym stands.at)
      ∙ set_here stands.before stands.behind stands.row row

  -- the row that stands at the place
  pub is_row : (stands : IsAt id place rows) (row : Subscriber Writer) → row ≡ get_or rows place row
      → row ≡ stands.row
  is_row stands row is =
      is ∙ ap (λ (all : List (Subscriber Writer)). get_or all place row) stands.split
      ∙ ap (λ (n : ℕ). get_or (stands.before ++ stands.row ∷ stands.behind) n row) (sym stands.at)
      ∙ here stands.before stands.behind stands.row row

  -- a row that is put into its own place changes nothing
  set_same : (stands : IsAt id place rows) (row : Subscriber Writer) → row ≡ stands.row
      → slice_set rows place row ≡ rows
  set_same stands row same =
      set stands row ∙ ap (λ (one : Subscriber Writer). stands.before ++ one ∷ stands.behind) same ∙ sym stands.split

  -- the ids rise without the row
  pub rising_removed : IsAt id place rows → AreRising rows → AreRising (remove rows place)
  rising_removed stands rising =
      subst (λ (all : List (Subscriber Writer)). AreRising all) (sym (removed stands))
      (rising_without stands.before stands.behind stands.row
      (subst (λ (all : List (Subscriber Writer)). AreRising all) stands.split rising))

  -- the ids rise with a row at its place
  pub rising_inserted : IsFree id place rows → (row : Subscriber Writer) → row.id ≡ id → AreRising rows
      → AreRising (insert rows place row)
  rising_inserted free row is rising =
      subst (λ (all : List (Subscriber Writer)). AreRising all) (sym (inserted free row))
      (rising_with free.before free.behind row
      (subst (λ (all : List (Subscriber Writer)). AreRising all) free.split rising)
      (subst (λ (one : ℕ). AreBelow one free.before) (sym is) free.below)
      (subst (λ (one : ℕ). AreAbove one free.behind) (sym is) free.above))

  -- the ids rise with a row in its place changed
  pub rising_set : IsAt id place rows → (row : Subscriber Writer) → row.id ≡ id → AreRising rows
      → AreRising (slice_set rows place row)
  rising_set stands row is rising =
      subst (λ (all : List (Subscriber Writer)). AreRising all) (sym (set stands row))
      (rising_at stands.before stands.behind stands.row row (is ∙ sym stands.is)
      (subst (λ (all : List (Subscriber Writer)). AreRising all) stands.split rising))

  answered_id : (outflow : Writer → Outflow) (standing : Standing) (context : List ℕ) (row one : Subscriber Writer)
      → PongsBy outflow standing context row one → one.id ≡ row.id
  answered_id outflow Served context row one answers = answers.same
  answered_id outflow Broken context row one answers = ap (λ (row : Subscriber Writer). row.id) answers
  answered_id outflow Starved context row one answers = ap (λ (row : Subscriber Writer). row.id) answers

  -- the ids rise where that a PONG is asked for was answered
  pub rising_answered : (outflow : Writer → Outflow) (stands : IsAt id place rows) (context : List ℕ)
      (row one : Subscriber Writer) → row ≡ stands.row → PongsBy outflow row.standing context row one
      → AreRising rows → AreRising (slice_set rows place one)
  rising_answered outflow stands context row one same answers rising =
      rising_set stands one (answered_id outflow row.standing context row one answers
      ∙ ap (λ (one : Subscriber Writer). one.id) same ∙ stands.is) rising

  module _ (outflow : Writer → Outflow) where
    -- a subscriber's row was taken out
    pub detach_removed : IsAt id place rows → ServesEvent outflow rows (remove rows place) (Detach id) Done
    detach_removed stands = detach_there outflow id place rows (remove rows place) stands (removed stands)

    -- a subscriber's row was put in
    pub attach_inserted : IsFree id place rows → (row : Subscriber Writer) → row.id ≡ id → row.standing ≡ Served
        → ((topic : List ℕ) → holding_of row.topics topic ≡ 0)
        → ServesEvent outflow rows (insert rows place row) (Attach id row.writer) Done
    attach_inserted free row is served holding =
        attach_new outflow id place rows (insert rows place row) row free (inserted free row) is served holding

    -- a subscriber's row holds a topic once more
    pub subscribe_set : (stands : IsAt id place rows) (one : Subscriber Writer) (topic : List ℕ)
        → stands.row.standing ≡ Served → one.id ≡ id → one.writer ≡ stands.row.writer
        → one.standing ≡ stands.row.standing
        → ((other : List ℕ) → holding_of one.topics other ≡ (if bytes_eq topic other
        then holding_of stands.row.topics other + 1 else holding_of stands.row.topics other))
        → ServesEvent outflow rows (slice_set rows place one) (Subscribe id topic) Done
    subscribe_set stands one topic served is writer standing topics =
        subscribe_there outflow id place rows (slice_set rows place one) one topic stands served (set stands one) is
        writer standing topics

    -- a subscriber's row has failed
    pub failed_set : (stands : IsAt id place rows) (row : Subscriber Writer) (topic : List ℕ) → row ≡ stands.row
        → (row.standing ≡ Served → ⊥) → ServesEvent outflow rows (slice_set rows place row) (Subscribe id topic) Done
    failed_set stands row topic same failed =
        subst (λ (new : List (Subscriber Writer)). ServesEvent outflow rows new (Subscribe id topic) Done)
        (sym (set_same stands row same))
        (subscribe_failed outflow id place rows topic stands
        (λ served. failed (ap (λ (one : Subscriber Writer). one.standing) same ∙ served)))

    -- the same where a topic is given up
    pub failed_cancel_set : (stands : IsAt id place rows) (row : Subscriber Writer) (topic : List ℕ) → row ≡ stands.row
        → (row.standing ≡ Served → ⊥) → ServesEvent outflow rows (slice_set rows place row) (Cancel id topic) Done
    failed_cancel_set stands row topic same failed =
        subst (λ (new : List (Subscriber Writer)). ServesEvent outflow rows new (Cancel id topic) Done)
        (sym (set_same stands row same))
        (cancel_failed outflow id place rows topic stands
        (λ served. failed (ap (λ (one : Subscriber Writer). one.standing) same ∙ served)))

    -- the same where a PONG is asked for
    failed_pong_set : (stands : IsAt id place rows) (row : Subscriber Writer) (context : List ℕ)
        → row ≡ stands.row → (row.standing ≡ Served → ⊥)
        → ServesEvent outflow rows (slice_set rows place row) (Pong id context) Done
    failed_pong_set stands row context same failed =
        subst (λ (new : List (Subscriber Writer)). ServesEvent outflow rows new (Pong id context) Done)
        (sym (set_same stands row same))
        (pong_failed outflow id place rows context stands
        (λ served. failed (ap (λ (one : Subscriber Writer). one.standing) same ∙ served)))

    -- a subscriber's writer got a PONG
    pong_set : (stands : IsAt id place rows) (one : Subscriber Writer) (context : List ℕ)
        → stands.row.standing ≡ Served → one.id ≡ id → one.topics ≡ stands.row.topics
        → GetsText one.standing (outflow stands.row.writer) (outflow one.writer) (pong_if_short context)
        → ServesEvent outflow rows (slice_set rows place one) (Pong id context) Done
    pong_set stands one context served is topics gets =
        pong_there outflow id place rows (slice_set rows place one) one context stands served (set stands one) is topics
        gets

    -- that a PONG is asked for was answered
    answered_set : (stands : IsAt id place rows) (row one : Subscriber Writer) (context : List ℕ) (standing : Standing)
        → row ≡ stands.row → row.standing ≡ standing → PongsBy outflow standing context row one
        → ServesEvent outflow rows (slice_set rows place one) (Pong id context) Done
    answered_set stands row one context Served same served answers =
        pong_set stands one context (ap (λ (one : Subscriber Writer). one.standing) (sym same) ∙ served)
        (answers.same ∙ ap (λ (one : Subscriber Writer). one.id) same ∙ stands.is)
        (answers.topics ∙ ap (λ (one : Subscriber Writer). one.topics) same)
        (subst (λ (was : Subscriber Writer). GetsText one.standing (outflow was.writer) (outflow one.writer)
        (pong_if_short context)) same answers.gets)
    answered_set stands row one context Broken same failed answers =
        subst (λ (now : Subscriber Writer). ServesEvent outflow rows (slice_set rows place now) (Pong id context) Done)
        (sym answers)
        (failed_pong_set stands row context same (λ served. broken_not_served (sym failed ∙ served)))
    answered_set stands row one context Starved same failed answers =
        subst (λ (now : Subscriber Writer). ServesEvent outflow rows (slice_set rows place now) (Pong id context) Done)
        (sym answers)
        (failed_pong_set stands row context same (λ served. served_not_starved (sym served ∙ failed)))

    pub answered : (stands : IsAt id place rows) (row one : Subscriber Writer) (context : List ℕ) → row ≡ stands.row
        → PongsBy outflow row.standing context row one
        → ServesEvent outflow rows (slice_set rows place one) (Pong id context) Done
    answered stands row one context same answers = answered_set stands row one context row.standing same refl answers

    -- a subscriber's row is starved
    pub starved_set : (stands : IsAt id place rows) (one : Subscriber Writer) (topic : List ℕ) → one.id ≡ id
        → one.writer ≡ stands.row.writer → stands.row.standing ≡ Served → one.standing ≡ Starved
        → ServesEvent outflow rows (slice_set rows place one) (Subscribe id topic) (NoTopic id)
    starved_set stands one topic is writer served starved =
        subscribe_starved outflow id place rows (slice_set rows place one) one topic stands (set stands one) is writer
        served starved

    -- a subscriber's row holds a topic once less
    pub cancel_set : (stands : IsAt id place rows) (one : Subscriber Writer) (topic : List ℕ)
        → stands.row.standing ≡ Served → one.id ≡ id → one.writer ≡ stands.row.writer
        → one.standing ≡ stands.row.standing
        → ((other : List ℕ) → holding_of one.topics other ≡ (if bytes_eq topic other
        then holding_of stands.row.topics other - 1 else holding_of stands.row.topics other))
        → ServesEvent outflow rows (slice_set rows place one) (Cancel id topic) Done
    cancel_set stands one topic served is writer standing topics =
        cancel_there outflow id place rows (slice_set rows place one) one topic stands served (set stands one) is
        writer standing topics
