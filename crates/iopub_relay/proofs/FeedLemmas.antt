-- A table over a list of events, and the writers that it leaves.
use Rattle.std.proofs.Common.{◌≡◌, inl, inr, ℕ, ◌+◌, ◌<◌, nat_eq, Bool, true, false, List, [], ◌∷◌, ◌++◌, length, map}
use Rattle.std.proofs.Common.{Option, Some}
use Rattle.std.proofs.Common.{None, refl, sym, ap, subst, ◌∙◌, cond, option_map, if◌then◌else◌}
use Rattle.std.proofs.Common.{append_assoc, length-append, arith}
use Rattle.std.proofs.Common.{Result, Ok, Err}
use Rattle.std.specs.Global.{Vec}
use Rattle.std.specs.Result.{IfOk}
use Rattle.zmtp_wire.specs.Device.{Outflow, Puts}
use Rattle.iopub_event.specs.declared.event.Event.{Event}
use Rattle.iopub_relay.specs.declared.subscriber.Standing.{Standing}
use Rattle.iopub_relay.specs.declared.subscriber.Standing.TheVariants.{Served as IsServed, Broken, Starved}
use Rattle.iopub_relay.specs.declared.subscriber.Subscriber.{Subscriber}
use Rattle.iopub_relay.specs.Life.{Life, life}
use Rattle.iopub_relay.specs.Feed.{feed, feed_behind, Gets, WriterIsFed, writer_of, AreAboveId, AreRisingIds}
use Rattle.iopub_relay.specs.Rows.{subscriber_at, AreAbove, AreRising}
use Rattle.iopub_relay.specs.Table.{GetsBy, BreaksOff, LivesAt, Fits, FitsMore, IsStarved, StarvesOnly}
use Rattle.iopub_relay.proofs.LifeLemmas.{feed_on}

module _ {Writer : Type 0} where
  -- the writers of rows
  abbrev pub writers_in : List (Subscriber Writer) → List (ℕ × Writer)
  writers_in rows = map (λ row. (row.id, row.writer)) rows

  above_ids : (id : ℕ) (rows : List (Subscriber Writer)) → AreAbove id rows → AreAboveId id (writers_in rows)
  above_ids id [] above = tt
  above_ids id (row ∷ rows) above = (above.0, above_ids id rows above.1)

  -- the ids of writers rise as those of the rows
  pub rising_ids : (rows : List (Subscriber Writer)) → AreRising rows → AreRisingIds (writers_in rows)
  rising_ids [] rising = tt
  rising_ids (row ∷ rows) rising = (above_ids row.id rows rising.0, rising_ids rows rising.1)

  writer_by : (test : Bool) (row : Subscriber Writer) (writer : Option Writer) (found : Option (Subscriber Writer))
      → writer ≡ option_map (λ row. row.writer) found
      → (if test then Some row.writer else writer) ≡ option_map (λ row. row.writer) (cond test (Some row) found)
  writer_by true row writer found same = refl
  writer_by false row writer found same = same

  writer_is : (id : ℕ) (rows : List (Subscriber Writer))
      → writer_of id (writers_in rows) ≡ option_map (λ row. row.writer) (subscriber_at id rows)
  writer_is id [] = refl
  writer_is id (row ∷ rows) = writer_by (nat_eq id row.id) row (writer_of id (writers_in rows)) (subscriber_at id rows)
      (writer_is id rows)

  -- nobody found no memory for a topic
  abbrev pub NobodyStarves : List (Subscriber Writer) → Type 0
  NobodyStarves rows = (id : ℕ) → IsStarved (subscriber_at id rows) → ⊥

  -- a writer whose subscriber broke off got a beginning of its feed, and not all of it
  pub broken_off : (old new : Outflow) (id : ℕ) (events : List (Event Writer)) → BreaksOff old new id events
      → (front : List ℕ) × (lost : List ℕ) × (feed id events ≡ front ++ lost) × (0 < length lost) × Puts old new front 1
  broken_off old new id events gets =
      let behind = feed_behind id (gets.before ++ gets.event ∷ []) gets.behind in
      let whole : feed id events ≡ (feed id gets.before ++ gets.front) ++ (gets.lost ++ behind) =
      ap (feed id) gets.split ∙ feed_on id [] gets.before (gets.event ∷ gets.behind)
      ∙ ap (λ (octets : List ℕ). feed id gets.before ++ (octets ++ behind)) gets.cut
      ∙ ap (λ (octets : List ℕ). feed id gets.before ++ octets) (append_assoc gets.front gets.lost behind)
      ∙ sym (append_assoc (feed id gets.before) gets.front (gets.lost ++ behind)) in
      let some = gets.some in
      let long : length (gets.lost ++ behind) ≡ length gets.lost + length behind = length-append gets.lost behind in
      (feed id gets.before ++ gets.front, gets.lost ++ behind, whole, omega (arith, some, long), gets.puts)

  module _ (outflow : Writer → Outflow) where
    -- A table served these events, and nobody found no memory for a topic.
    pub record Served (events : List (Event Writer)) (rows : List (Subscriber Writer)) : Type 0 where
      pub fits : Fits outflow rows events
      pub nobody : NobodyStarves rows

    -- none is served yet
    pub served_none : Served [] []
    served_none = record { fits = λ id. tt; nobody = λ id starved. starved }

    -- one more is served
    pub served_more : (events : List (Event Writer)) (event : Event Writer) (old new : List (Subscriber Writer))
        → Served events old → FitsMore outflow old new event → StarvesOnly (λ id. ⊥) old new
        → Served (events ++ event ∷ []) new
    served_more events event old new so_far fits starves = record {
      fits = fits events so_far.fits;
      nobody = λ id starved. elim (starves id starved) [
        | inl was ↦ so_far.nobody id was
        | inr never ↦ never
      ];
    }

    gets_all : (standing : Standing) (old new : Outflow) (id : ℕ) (events : List (Event Writer))
        → (standing ≡ Starved → ⊥) → GetsBy standing old new id events → Gets old new (feed id events)
    gets_all IsServed old new id events fed gets = inl gets
    gets_all Starved old new id events fed gets = absurd (fed refl)
    gets_all Broken old new id events fed gets = inr (broken_off old new id events gets)

    fed_at : (id : ℕ) (row : Option (Subscriber Writer)) (now : Option (Life Writer)) → (IsStarved row → ⊥)
        → LivesAt outflow id row now → WriterIsFed outflow id now (option_map (λ row. row.writer) row)
    fed_at id None None fed lives = tt
    fed_at id None (Some now) fed lives = absurd lives
    fed_at id (Some row) None fed lives = absurd lives
    fed_at id (Some row) (Some now) fed lives =
        gets_all row.standing (outflow now.writer) (outflow row.writer) id now.events fed lives.gets

    -- what a table that served events leaves
    pub fed_all : (events : List (Event Writer)) (rows : List (Subscriber Writer)) (id : ℕ) → Served events rows
        → WriterIsFed outflow id (life id events) (writer_of id (writers_in rows))
    fed_all events rows id served =
        subst (λ (writer : Option Writer). WriterIsFed outflow id (life id events) writer) (sym (writer_is id rows))
        (fed_at id (subscriber_at id rows) (life id events) (served.nobody id) (served.fits id))

    -- the same of the answer, where there is one
    pub fed_ok : {Fault : Type 0} (result : Result (Vec (ℕ × Writer)) Fault) (events : List (Event Writer))
        (rows : List (Subscriber Writer)) → Served events rows → IfOk result (λ left. left.items ≡ writers_in rows)
        → IfOk result (λ left. (id : ℕ) → WriterIsFed outflow id (life id events) (writer_of id left.items))
    fed_ok (Err fault) events rows served writers = tt
    fed_ok (Ok left) events rows served writers = λ id.
        subst (λ (writers : List (ℕ × Writer)). WriterIsFed outflow id (life id events) (writer_of id writers))
        (sym writers)
        (fed_all events rows id served)

    -- the ids of the answer rise, where there is one
    pub rising_ok : {Fault : Type 0} (result : Result (Vec (ℕ × Writer)) Fault) (rows : List (Subscriber Writer))
        → AreRising rows → IfOk result (λ left. left.items ≡ writers_in rows)
        → IfOk result (λ left. AreRisingIds left.items)
    rising_ok (Err fault) rows rising writers = tt
    rising_ok (Ok left) rows rising writers =
        subst (λ (writers : List (ℕ × Writer)). AreRisingIds writers) (sym writers) (rising_ids rows rising)
