-- An engine that was closed left what is well blocked, and its publisher the close after it.
use Rattle.std.proofs.Common.{◌≡◌, ◌⊎◌, inl, inr, ℕ, List, [], ◌∷◌, ◌++◌, Option, None, ap, subst, sym, ◌∙◌}
use Rattle.std.proofs.Common.{append_assoc}
use Rattle.interp_core.specs.Interpreter.{Meaning}
use Rattle.iopub_event.specs.declared.event.Event.{Event}
use Rattle.iopub_queue.specs.Calls.{Adds}
use Rattle.iopub_queue.specs.Entries.{StandsBehind, part_of}
use Rattle.iopub_queue.specs.Values.{Publishing}
use Rattle.jmsg_envelope.specs.Stamp.{StampMeaning, Stamping}
use Rattle.kernel_engine.specs.declared.parts.Parts.{Parts}
use Rattle.kernel_engine.specs.declared.side.Side.{Side}
use Rattle.kernel_engine.specs.Handles.{Pays, PaysNot, owed_items}
use Rattle.kernel_engine.specs.WellBlocked.{IsWellBlocked, KeepsBlocks}
use Rattle.kernel_engine.specs.World.{world_of}
use Rattle.iopub_queue.specs.Sink.{publisher_sink}
use Rattle.kernel_workers.specs.Ending.{EndsBlocked, IsBlockedAndClosed, IsBlockedBy, closed_list, sealing_by}
use Rattle.kernel_workers.specs.Staying.{IsSameEngine}

-- what a publisher published is its part of what it was told of
pub own_part : {T : Type 0} (old closed : Publishing T) (part : Option T) → Adds old part closed
    → part_of closed.number closed.told ≡ closed.published
own_part old closed part adds =
    subst (λ (number : ℕ). part_of number closed.told ≡ closed.published) (sym adds.number) adds.own_part

-- an engine closed its publisher, and an idle that was owed was published before
pub closed_all : {I S W : Type 0} (engine end parts : Parts I (Publishing (Event W)) S W)
    (closed : Publishing (Event W)) → parts ≡ end
    → Pays publisher_sink engine end ⊎ PaysNot publisher_sink engine end → Adds parts.publishing.sink None closed
    → closed.published ≡ closed_list engine
closed_all {I} {S} {W} engine end parts closed same (inl pays) adds =
    adds.published ∙ ap (λ (p : Parts I (Publishing (Event W)) S W). p.publishing.sink.published ++ None ∷ []) same
    ∙ ap (λ (l : List (Option (Event W))). l ++ None ∷ []) pays.items
    ∙ append_assoc engine.publishing.sink.published (owed_items engine.owed) (None ∷ [])
closed_all engine end parts closed same (inr vain) adds = absurd vain.refused

-- an engine of which no idle was owed closed its publisher behind all that this was told of
pub closed_behind : {I S W : Type 0} (engine end parts : Parts I (Publishing (Event W)) S W)
    (closed : Publishing (Event W)) → parts ≡ end
    → Pays publisher_sink engine end ⊎ PaysNot publisher_sink engine end → Adds parts.publishing.sink None closed
    → engine.owed ≡ None
    → StandsBehind closed.told (engine.publishing.sink.number, None) engine.publishing.sink.told
closed_behind {I} {S} {W} engine end parts closed same (inl pays) adds none =
    subst (λ (p : Parts I (Publishing (Event W)) S W). StandsBehind closed.told (p.publishing.sink.number, None)
    p.publishing.sink.told) (same ∙ pays.settled none) adds.behind
closed_behind engine end parts closed same (inr vain) adds none = absurd vain.refused

module _ {I S W Cell : Type 0} (m : Meaning I Cell) (stamps : Stamping S) where
  -- an idle that was owed was published, since a publisher never refuses
  all_paid : (engine parts : Parts I (Publishing (Event W)) S W)
      → Pays publisher_sink engine parts ⊎ PaysNot publisher_sink engine parts
      → Pays publisher_sink engine parts
  all_paid engine parts (inl pays) = pays
  all_paid engine parts (inr vain) = absurd vain.refused

  -- what an engine leaves is well blocked, by its channel, key and stamp, and last stands the close
  pub ends_blocked : (engine end parts : Parts I (Publishing (Event W)) S W) (closed : Publishing (Event W))
      → parts ≡ end → Pays publisher_sink engine end ⊎ PaysNot publisher_sink engine end
      → KeepsBlocks (world_of m publisher_sink stamps) parts → Adds parts.publishing.sink None closed
      → EndsBlocked m stamps engine closed
  ends_blocked engine end parts closed same paid keeps adds =
      let pays = all_paid engine parts (subst (λ (p : Parts I (Publishing (Event W)) S W).
      Pays publisher_sink engine p ⊎ PaysNot publisher_sink engine p) (sym same) paid) in
      record {
        queue = adds.queue ∙ pays.same.0;
        number = adds.number ∙ pays.same.1;
        blocked = record {
          said = parts.publishing.sink.published;
          next = parts.publishing.next;
          blocked = subst (λ (p : Parts I (Publishing (Event W)) S W). IsWellBlocked m
              (stamps.is_date (stamps.meaning p.publishing.stamp)) p.side
              (sealing_by stamps p.publishing.signer p.publishing.stamp) parts.publishing.next p.owed
              parts.publishing.sink.published) pays.rest keeps.blocked;
          closed = adds.published;
        };
      }

  -- what is well blocked by an engine is so by another that is the same
  pub blocked_same : (old new : Parts I (Publishing (Event W)) S W) (items : List (Option (Event W)))
      → IsSameEngine stamps old new → IsBlockedBy m stamps new items → IsBlockedBy m stamps old items
  blocked_same old new items same blocked =
      subst (λ (meant : StampMeaning). IsBlockedAndClosed m (stamps.is_date meant) old.side
      (record { key = old.publishing.signer; session = meant.session; id = stamps.id_text meant }) items)
      same.meant
      (subst (λ (key : List ℕ). IsBlockedAndClosed m (stamps.is_date (stamps.meaning new.publishing.stamp)) old.side
      (sealing_by stamps key new.publishing.stamp) items) same.signer
      (subst (λ (side : Side). IsBlockedAndClosed m (stamps.is_date (stamps.meaning new.publishing.stamp)) side
      (sealing_by stamps new.publishing.signer new.publishing.stamp) items) same.side blocked))

  -- what an engine left is what another would have left that is the same
  pub ends_same : (old new : Parts I (Publishing (Event W)) S W) (closed : Publishing (Event W))
      → IsSameEngine stamps old new → EndsBlocked m stamps new closed → EndsBlocked m stamps old closed
  ends_same old new closed same ends = record {
    queue = ends.queue ∙ same.queue;
    number = ends.number ∙ same.number;
    blocked = blocked_same old new closed.published same ends.blocked;
  }
