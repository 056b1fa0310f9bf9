-- What pumps, one after the other, took.
use Rattle.std.proofs.Common.{◌≡◌, ℕ, suc, ◌+◌, ◌<◌, List, [], ◌∷◌, ◌++◌, length, Option, Some, None, refl, sym, ap}
use Rattle.std.proofs.Common.{subst, ◌∙◌, arith}
use Rattle.std.proofs.Common.{append_assoc, length-append}
use Rattle.std.proofs.lemmas.List.{append-nil}
use Rattle.zmtp_wire.specs.Device.{Outflow}
use Rattle.iopub_queue.specs.Entries.{Entry}
use Rattle.iopub_queue.specs.Values.{Taking}
use Rattle.iopub_queue.specs.Calls.{TakesOne}
use Rattle.iopub_event.specs.declared.event.Event.{Event}
use Rattle.iopub_event.specs.declared.event.Event.TheVariants.{Attach}
use Rattle.iopub_relay.specs.declared.relay.Pumped.{Pumped}
use Rattle.iopub_relay.specs.declared.relay.Pumped.TheVariants as pumped
use Rattle.iopub_relay.specs.declared.relay.Drain.TheVariants as drain
use Rattle.iopub_relay.specs.Relay.{Relaying, TookEntry, Pumps, PumpsOn, Drains}

module _ {Writer : Type 0} (outflow : Writer → Outflow) where
  -- So many entries were taken, one pump after the other.
  pub record Took (old : Relaying Writer) (count : ℕ) (new : Relaying Writer) : Type 0 where
    pub entries : List (Entry (Event Writer))
    pub taken : new.taker ≡ record old.taker { taken = old.taker.taken ++ entries }
    pub pumps : PumpsOn outflow count old new
    pub counted : length entries ≡ count

  -- none yet
  pub took_none : (relay : Relaying Writer) → Took relay 0 relay
  took_none relay = record {
    entries = [];
    taken = ap (λ (entries : List (Entry (Event Writer))). record relay.taker { taken = entries })
        (sym (append-nil relay.taker.taken));
    pumps = refl;
    counted = refl;
  }

  -- one more
  took_more : (old middle new : Relaying Writer) (count number : ℕ) (part : Option (Event Writer)) (answer : Pumped)
      → Took old count middle → TookEntry answer → Pumps outflow middle answer new
      → TakesOne middle.taker number part new.taker → Took old (suc count) new
  took_more old middle new count number part answer took one pumps takes =
      let counted = took.counted in
      let long : length (took.entries ++ (number, part) ∷ []) ≡ length took.entries + 1 =
      length-append took.entries ((number, part) ∷ []) in record {
        entries = took.entries ++ (number, part) ∷ [];
        taken = takes.added
            ∙ ap (λ (taker : Taking (Event Writer)). record taker { taken = taker.taken ++ (number, part) ∷ [] })
            took.taken
            ∙ ap (λ (entries : List (Entry (Event Writer))). record old.taker { taken = entries })
            (append_assoc old.taker.taken took.entries ((number, part) ∷ []));
        pumps = (middle, answer, took.pumps, one, pumps);
        counted = omega (arith, counted, long);
      }

  pumps_counted : (old new : Relaying Writer) (count : ℕ) (took : Took old count new)
      → PumpsOn outflow (length took.entries) old new
  pumps_counted old new count took = subst (λ (n : ℕ). PumpsOn outflow n old new) (sym took.counted) took.pumps

  -- a drain that ends where the closes of all were taken
  pub drained_whole : (old middle new : Relaying Writer) (limit count : ℕ) → count < limit
      → Took old count middle → Pumps outflow middle pumped.Complete new → Drains outflow limit old drain.Complete new
  drained_whole old middle new limit count below took pumps =
      subst (λ (relay : Relaying Writer). Drains outflow limit old drain.Complete relay) (sym pumps.0) (record {
        entries = took.entries;
        taken = took.taken;
        pumps = pumps_counted old middle count took;
        ends = (subst (λ (n : ℕ). n < limit) (sym took.counted) below, pumps.1);
      })

  -- a drain that ends where nothing is found
  pub drained_empty : (old middle new : Relaying Writer) (limit count : ℕ) → count < limit
      → Took old count middle → Pumps outflow middle pumped.Empty new → Drains outflow limit old drain.Empty new
  drained_empty old middle new limit count below took pumps =
      subst (λ (relay : Relaying Writer). Drains outflow limit old drain.Empty relay) (sym pumps.1) (record {
        entries = took.entries;
        taken = took.taken;
        pumps = pumps_counted old middle count took;
        ends = (subst (λ (n : ℕ). n < limit) (sym took.counted) below, pumps.0.told, pumps.0.incomplete);
      })

  -- a drain that took as many as it may
  pub drained_more : (old new : Relaying Writer) (limit count : ℕ) → count ≡ limit → Took old count new
      → Drains outflow limit old drain.More new
  drained_more old new limit count all took = record {
    entries = took.entries;
    taken = took.taken;
    pumps = pumps_counted old new count took;
    ends = took.counted ∙ all;
  }

  -- a pump that took an entry
  pub pumped_one : (old middle new : Relaying Writer) (count : ℕ) (result : Pumped)
      → Pumps outflow middle result new → (result ≡ pumped.Complete → ⊥) → (result ≡ pumped.Empty → ⊥)
      → Took old count middle → Took old (suc count) new
  pumped_one old middle new count pumped.Did pumps some more took =
      took_more old middle new count pumps.0.number (Some pumps.0.event) pumped.Did took tt pumps pumps.0.takes
  pumped_one old middle new count (pumped.Closed number) pumps some more took =
      took_more old middle new count number None (pumped.Closed number) took tt pumps pumps.0
  pumped_one old middle new count pumped.Empty pumps some more took = absurd (more refl)
  pumped_one old middle new count pumped.Complete pumps some more took = absurd (some refl)
  pumped_one old middle new count (pumped.NoTopic id) pumps some more took =
      took_more old middle new count pumps.0.number (Some pumps.0.event) (pumped.NoTopic id) took tt pumps
      pumps.0.takes
  pumped_one old middle new count (pumped.NoRoom id) pumps some more took =
      took_more old middle new count pumps.number (Some (Attach id pumps.writer)) (pumped.NoRoom id) took tt pumps
      pumps.takes
