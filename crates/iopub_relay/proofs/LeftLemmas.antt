-- What is left of a relay: its subscribers by their rows.
use Rattle.std.proofs.Common.{map}
use Rattle.std.proofs.Common.{◌≡◌, inl, inr, ℕ, nat_eq, Bool, true, false, List, [], ◌∷◌, Option}
use Rattle.std.proofs.Common.{Some, None, refl, sym, subst, cond, option_map, if◌then◌else◌}
use Rattle.zmtp_wire.specs.Device.{Outflow}
use Rattle.iopub_event.specs.declared.event.Event.{Event}
use Rattle.iopub_relay.specs.declared.subscriber.Standing.{Standing}
use Rattle.iopub_relay.specs.declared.subscriber.Standing.TheVariants.{Served, Broken, Starved}
use Rattle.iopub_relay.specs.declared.subscriber.Subscriber.{Subscriber}
use Rattle.iopub_relay.specs.Life.{Life, life}
use Rattle.iopub_relay.specs.Feed.{AreAboveId, AreRisingIds}
use Rattle.iopub_relay.specs.Rows.{subscriber_at, AreAbove, AreRising}
use Rattle.iopub_relay.specs.Table.{GetsBy, LivesAt}
use Rattle.iopub_relay.specs.Relay.{Relaying, ServesTaken, has_failed, left_by, left_of, GetsMarked, SubscriberIsLeft}
use Rattle.iopub_relay.specs.Relay.{RelayIsLeft}

module _ {Writer : Type 0} where
  above_left : (id : ℕ) (rows : List (Subscriber Writer)) → AreAbove id rows
      → AreAboveId id (map (λ entry. (entry.0, entry.1)) (left_by rows))
  above_left id [] above = tt
  above_left id (row ∷ rows) above = (above.0, above_left id rows above.1)

  rising_left : (rows : List (Subscriber Writer)) → AreRising rows
      → AreRisingIds (map (λ entry. (entry.0, entry.1)) (left_by rows))
  rising_left [] rising = tt
  rising_left (row ∷ rows) rising = (above_left row.id rows rising.0, rising_left rows rising.1)

  -- what is left of a row
  abbrev left_of_row : Subscriber Writer → Writer × Bool
  left_of_row row = (row.writer, has_failed row.standing)

  left_if : (test : Bool) (row : Subscriber Writer) (left : Option (Writer × Bool))
      (found : Option (Subscriber Writer)) → left ≡ option_map left_of_row found
      → (if test then Some (row.writer, has_failed row.standing) else left)
      ≡ option_map left_of_row (cond test (Some row) found)
  left_if true row left found same = refl
  left_if false row left found same = same

  left_is : (id : ℕ) (rows : List (Subscriber Writer))
      → left_of id (left_by rows) ≡ option_map left_of_row (subscriber_at id rows)
  left_is id [] = refl
  left_is id (row ∷ rows) = left_if (nat_eq id row.id) row (left_of id (left_by rows)) (subscriber_at id rows)
      (left_is id rows)

  gets_marked : (standing : Standing) (old new : Outflow) (id : ℕ) (events : List (Event Writer))
      → GetsBy standing old new id events → GetsMarked (has_failed standing) old new id events
  gets_marked Served old new id events gets = gets
  gets_marked Broken old new id events gets = inl gets
  gets_marked Starved old new id events gets = inr gets

  module _ (outflow : Writer → Outflow) where
    left_at : (id : ℕ) (row : Option (Subscriber Writer)) (now : Option (Life Writer)) → LivesAt outflow id row now
        → SubscriberIsLeft outflow id now (option_map left_of_row row)
    left_at id None None lives = tt
    left_at id None (Some now) lives = absurd lives
    left_at id (Some row) None lives = absurd lives
    left_at id (Some row) (Some now) lives =
        gets_marked row.standing (outflow now.writer) (outflow row.writer) id now.events lives.gets

    -- what is left of a relay
    pub left_over : (relay : Relaying Writer) → ServesTaken outflow relay
        → RelayIsLeft outflow relay.taker.taken relay.no_room (left_by relay.rows)
    left_over relay serves = record {
      served = serves.served;
      is_served = serves.is_served;
      rising = rising_left relay.rows serves.rising;
      each = λ id. subst (λ (left : Option (Writer × Bool)). SubscriberIsLeft outflow id (life id serves.served) left)
          (sym (left_is id relay.rows))
          (left_at id (subscriber_at id relay.rows) (life id serves.served) (serves.fits id));
    }
