-- What one more entry that was taken makes of what a relay keeps.
use Rattle.std.proofs.Common.{Option}
use Rattle.std.proofs.Common.{◌≡◌, inl, inr, ℕ, suc, min, List, [], ◌∷◌, ◌++◌, Some, None, refl, sym, ap, subst, ◌∙◌}
use Rattle.std.proofs.Common.{arith}
use Rattle.std.proofs.lemmas.List.{append-nil}
use Rattle.zmtp_wire.specs.Device.{Outflow, greatest_count, risen}
use Rattle.iopub_queue.specs.Entries.{Entry, part_of}
use Rattle.iopub_queue.proofs.Parts.{of_append, of_other}
use Rattle.iopub_queue.specs.Values.{Taking}
use Rattle.iopub_queue.specs.Calls.{TakesOne}
use Rattle.iopub_event.specs.declared.event.Event.{Event}
use Rattle.iopub_event.specs.declared.event.Event.TheVariants.{Attach}
use Rattle.iopub_relay.specs.declared.subscriber.Subscriber.{Subscriber}
use Rattle.iopub_relay.specs.Rows.{subscriber_at, AreRising}
use Rattle.iopub_relay.specs.Table.{Fits, FitsMore}
use Rattle.iopub_relay.specs.Relay.{Relaying, items_in, IsAttach, IsWithout, EntriesAreServed}
use Rattle.iopub_relay.specs.Relay.{AreOfNumbers, ServesTaken, LacksRoom}

counted_more : (lost : ℕ) → risen (min lost greatest_count) ≡ min (suc lost) greatest_count
counted_more lost = omega arith

module _ {T : Type 0} where
  items_in_on : (front back : List (Entry T)) → items_in (front ++ back) ≡ items_in front ++ items_in back
  items_in_on [] back = refl
  items_in_on ((number, Some item) ∷ front) back = ap (λ rest. item ∷ rest) (items_in_on front back)
  items_in_on ((number, None) ∷ front) back = items_in_on front back

module _ {Writer : Type 0} where
  without_more : (events served : List (Event Writer)) (lost : ℕ) (event : Event Writer) → IsWithout events served lost
      → IsWithout (events ++ event ∷ []) (served ++ event ∷ []) lost
  without_more [] served lost event without =
      inl ([], ap (λ (front : List (Event Writer)). front ++ event ∷ []) without.0, (refl, without.1))
  without_more (first ∷ events) served lost event (inl (rest, is, more)) =
      inl (
        rest ++ event ∷ [],
        ap (λ (front : List (Event Writer)). front ++ event ∷ []) is,
        without_more events rest lost event more,
      )
  without_more (first ∷ events) served lost event (inr (fewer, is, attach, more)) =
      inr (fewer, is, attach, without_more events served fewer event more)

  without_lost : (events served : List (Event Writer)) (lost : ℕ) (event : Event Writer) → IsAttach event
      → IsWithout events served lost → IsWithout (events ++ event ∷ []) served (suc lost)
  without_lost [] served lost event attach without = inr (lost, refl, attach, without)
  without_lost (first ∷ events) served lost event attach (inl (rest, is, more)) =
      inl (rest, is, without_lost events rest lost event attach more)
  without_lost (first ∷ events) served lost event attach (inr (fewer, is, before, more)) =
      inr (suc fewer, ap suc is, before, without_lost events served fewer event attach more)

  -- entries of the queue's publishers, with one more
  numbers_more : (old new : Taking (Event Writer)) (number : ℕ) (part : Option (Event Writer))
      → TakesOne old number part new → AreOfNumbers old.count old.taken → AreOfNumbers new.count new.taken
  numbers_more old new number part takes of_numbers other above =
      let same : new.count ≡ old.count = ap (λ (taker : Taking (Event Writer)). taker.count) takes.added in
      let known = takes.known in
      ap (λ (taker : Taking (Event Writer)). part_of other taker.taken) takes.added
      ∙ of_append other old.taken ((number, part) ∷ [])
      ∙ ap (λ (front : List (Option (Event Writer))). front ++ part_of other ((number, part) ∷ []))
      (of_numbers other (omega (arith, same, above)))
      ∙ of_other other number part [] (λ is. omega (arith, same, known, above, is))

  -- what was served, with one more event
  served_more : (old new : Taking (Event Writer)) (number no_room : ℕ) (event : Event Writer)
      (served : List (Event Writer)) → TakesOne old number (Some event) new → EntriesAreServed old.taken no_room served
      → EntriesAreServed new.taken no_room (served ++ event ∷ [])
  served_more old new number no_room event served takes is = record {
    turned_away = is.turned_away;
    without = subst (λ (events : List (Event Writer)). IsWithout events (served ++ event ∷ []) is.turned_away)
        (sym (ap (λ (taker : Taking (Event Writer)). items_in taker.taken) takes.added
        ∙ items_in_on old.taken ((number, Some event) ∷ [])))
        (without_more (items_in old.taken) served is.turned_away event is.without);
    counted = is.counted;
  }

  -- with a close
  served_close : (old new : Taking (Event Writer)) (number no_room : ℕ) (served : List (Event Writer))
      → TakesOne old number None new → EntriesAreServed old.taken no_room served
      → EntriesAreServed new.taken no_room served
  served_close old new number no_room served takes is = record {
    turned_away = is.turned_away;
    without = subst (λ (events : List (Event Writer)). IsWithout events served is.turned_away)
        (sym (ap (λ (taker : Taking (Event Writer)). items_in taker.taken) takes.added
        ∙ items_in_on old.taken ((number, None) ∷ []) ∙ append-nil (items_in old.taken))) is.without;
    counted = is.counted;
  }

  -- with a newcomer for which there was no room
  served_lacking : (old new : Taking (Event Writer)) (number no_room id : ℕ) (writer : Writer)
      (served : List (Event Writer)) → TakesOne old number (Some (Attach id writer)) new
      → EntriesAreServed old.taken no_room served → EntriesAreServed new.taken (risen no_room) served
  served_lacking old new number no_room id writer served takes is = record {
    turned_away = suc is.turned_away;
    without = subst (λ (events : List (Event Writer)). IsWithout events served (suc is.turned_away))
        (sym (ap (λ (taker : Taking (Event Writer)). items_in taker.taken) takes.added
        ∙ items_in_on old.taken ((number, Some (Attach id writer)) ∷ [])))
        (without_lost (items_in old.taken) served is.turned_away (Attach id writer) tt is.without);
    counted = ap risen is.counted ∙ counted_more is.turned_away;
  }

  module _ (outflow : Writer → Outflow) where
    -- a relay that took nothing and has no subscribers serves what it took
    pub serves_none : (taker : Taking (Event Writer)) → taker.taken ≡ []
        → ServesTaken outflow record { taker = taker; rows = []; no_room = 0 }
    serves_none taker nothing = record {
      numbers = λ number above. ap (part_of number) nothing;
      served = [];
      is_served = subst (λ (taken : List (Entry (Event Writer))). EntriesAreServed taken 0 []) (sym nothing)
          (record { turned_away = 0; without = (refl, refl); counted = refl });
      rising = tt;
      fits = λ id. tt;
    }

    -- one that took an event and serves it goes on so
    pub serves_more : (old new : Relaying Writer) (number : ℕ) (event : Event Writer)
        → TakesOne old.taker number (Some event) new.taker → FitsMore outflow old.rows new.rows event
        → AreRising new.rows → new.no_room ≡ old.no_room → ServesTaken outflow old → ServesTaken outflow new
    serves_more old new number event takes grows rising room serves = record {
      numbers = numbers_more old.taker new.taker number (Some event) takes serves.numbers;
      served = serves.served ++ event ∷ [];
      is_served = subst (λ (n : ℕ). EntriesAreServed new.taker.taken n (serves.served ++ event ∷ [])) (sym room)
          (served_more old.taker new.taker number old.no_room event serves.served takes serves.is_served);
      rising = rising;
      fits = grows serves.served serves.fits;
    }

    -- one that took a close goes on so
    pub serves_close : (old new : Relaying Writer) (number : ℕ) → TakesOne old.taker number None new.taker
        → new ≡ record old { taker = new.taker } → ServesTaken outflow old → ServesTaken outflow new
    serves_close old new number takes same serves =
        let rows = ap (λ (relay : Relaying Writer). relay.rows) same in
        let room = ap (λ (relay : Relaying Writer). relay.no_room) same in record {
          numbers = numbers_more old.taker new.taker number None takes serves.numbers;
          served = serves.served;
          is_served = subst (λ (n : ℕ). EntriesAreServed new.taker.taken n serves.served) (sym room)
              (served_close old.taker new.taker number old.no_room serves.served takes serves.is_served);
          rising = subst (λ (rows : List (Subscriber Writer)). AreRising rows) (sym rows) serves.rising;
          fits = subst (λ (rows : List (Subscriber Writer)). Fits outflow rows serves.served) (sym rows) serves.fits;
        }

    -- and one that took a newcomer for which there was no room
    pub serves_lacking : (id : ℕ) (old new : Relaying Writer) → LacksRoom id old new → ServesTaken outflow old
        → ServesTaken outflow new
    serves_lacking id old new lacks serves = record {
      numbers = numbers_more old.taker new.taker lacks.number (Some (Attach id lacks.writer)) lacks.takes
          serves.numbers;
      served = serves.served;
      is_served = subst (λ (n : ℕ). EntriesAreServed new.taker.taken n serves.served) (sym lacks.no_room)
          (served_lacking old.taker new.taker lacks.number old.no_room id lacks.writer serves.served lacks.takes
          serves.is_served);
      rising = subst (λ (rows : List (Subscriber Writer)). AreRising rows) (sym lacks.rows) serves.rising;
      fits = subst (λ (rows : List (Subscriber Writer)). Fits outflow rows serves.served) (sym lacks.rows) serves.fits;
    }

  -- a relay that took a newcomer for which there was no room
  pub lacks_room : (id number : ℕ) (event : Event Writer) (old new : Relaying Writer)
      → TakesOne old.taker number (Some event) new.taker → (writer : Writer) × (event ≡ Attach id writer)
      → subscriber_at id old.rows ≡ None → new.rows ≡ old.rows → new.no_room ≡ risen old.no_room → LacksRoom id old new
  lacks_room id number event old new takes came absent rows room = record {
    number = number;
    writer = came.0;
    takes = subst (λ (event : Event Writer). TakesOne old.taker number (Some event) new.taker) came.1 takes;
    absent = absent;
    rows = rows;
    no_room = room;
  }
