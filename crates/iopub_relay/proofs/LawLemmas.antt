-- A subscriber of everything.
use Rattle.std.proofs.Common.{◌≡◌, ℕ, ◌+◌, ◌<◌, nat_lt, Bool, true, false, ◌&&◌, ◌||◌, if◌then◌else◌, List, [], ◌∷◌}
use Rattle.std.proofs.Common.{◌++◌}
use Rattle.std.proofs.Common.{length, map, flat_map, Some, None, refl, ap, ◌∙◌, arith, bytes_eq}
use Rattle.std.specs.List.{AllByRecursion, list_any}
use Rattle.zmtp_wire.specs.Frame.{text}
use Rattle.iopub_event.specs.declared.event.Event.{Event}
use Rattle.iopub_event.specs.declared.event.Event.TheVariants.{Message, Attach, Subscribe}
use Rattle.iopub_relay.specs.Life.{leaves, since_it_left, first_life, life_begun}
use Rattle.iopub_relay.specs.Topics.{Holding, held, begins_in, beginnings}
use Rattle.iopub_relay.specs.Feed.{feed_behind}
use Rattle.iopub_relay.specs.Laws.{GetsEverything}
use Rattle.iopub_relay.proofs.LifeLemmas.{held_more}
use Rattle.iopub_relay.proofs.RowLemmas.{same_id}

begins_empty : (topics : Holding) (octets : List ℕ) → topics [] ≡ 1 → begins_in topics octets ≡ true
begins_empty topics [] holds = ap (λ (count : ℕ). nat_lt 0 count || false) holds
begins_empty topics (octet ∷ octets) holds =
    ap (λ (count : ℕ). nat_lt 0 count || list_any (λ beginning. nat_lt 0 (topics beginning))
    (map (λ beginning. octet ∷ beginning) (beginnings octets))) holds

none_leaves : (Writer : Type 0) (id : ℕ) (messages : List (List (List ℕ)))
    → list_any (leaves {Writer = Writer} id) (map Message messages) ≡ false
none_leaves Writer id [] = refl
none_leaves Writer id (frames ∷ messages) = none_leaves Writer id messages

module _ {Writer : Type 0} (id : ℕ) where
  all_heard : (before : List (Event Writer)) (messages : List (List (List ℕ))) → held id before [] ≡ 1
      → AllByRecursion (λ (frames : List (List ℕ)). 0 < length frames) messages
      → feed_behind id before (map Message messages) ≡ flat_map text messages
  all_heard before [] holds some = refl
  all_heard before ([] ∷ messages) holds some = let none = some.0 in absurd (omega (arith, none))
  all_heard before ((first ∷ others) ∷ messages) holds some =
      ap (λ (b : Bool). (if b then text (first ∷ others) else [])
      ++ feed_behind id (before ++ Message (first ∷ others) ∷ []) (map Message messages))
      (begins_empty (held id before) first holds)
      ∙ ap (λ (rest : List ℕ). text (first ∷ others) ++ rest)
      (all_heard (before ++ Message (first ∷ others) ∷ []) messages
      (held_more id before (Message (first ∷ others)) [] ∙ holds) some.1)

-- a subscriber of everything gets all
pub gets_everything : {Writer : Type 0} → GetsEverything Writer
gets_everything {Writer} id writer messages some =
    let events : List (Event Writer) = Subscribe id [] ∷ map Message messages in
    record {
      now = record { writer = writer; events = events };
      lives = ap (λ (b : Bool). first_life id (if b
          then (if b then since_it_left id (map Message messages) else events) else (Attach id writer ∷ events)))
          (none_leaves Writer id messages)
          ∙ ap (λ (b : Bool). life_begun (if b then Some writer else None) events (first_life id events)) (same_id id);
      came = refl;
      gets = all_heard id (Subscribe id [] ∷ []) messages
          (ap (λ (b : Bool). if b && bytes_eq [] [] then 0 + 1 else 0) (same_id id)) some;
    }
