-- What stays of an engine that took a message.
use Rattle.std.proofs.Common.{◌≡◌, inl, inr, ℕ, List, ap, refl, subst, is_some, false}
use Rattle.iopub_event.specs.declared.event.Event.{Event}
use Rattle.iopub_queue.specs.Values.{Publishing as Publisher}
use Rattle.interp_core.specs.Interpreter.{Meaning}
use Rattle.jmsg_envelope.specs.Stamp.{Stamping}
use Rattle.jmsg_envelope.specs.declared.envelope.Envelope.{Envelope}
use Rattle.kernel_engine.specs.declared.asked.Asked.{Asked}
use Rattle.kernel_engine.specs.declared.asked.Done.{Done}
use Rattle.kernel_engine.specs.declared.asked.Done.TheVariants.{Ignored, Lost, Handled, Refused}
use Rattle.kernel_engine.specs.declared.asked.Unread.{Unread}
use Rattle.kernel_engine.specs.declared.asked.Unread.TheVariants.{NoRequest, NoMemory}
use Rattle.kernel_engine.specs.declared.does.Does.{Does}
use Rattle.kernel_engine.specs.declared.fault.EngineFault.{EngineFault}
use Rattle.kernel_engine.specs.declared.fault.EngineFault.TheVariants.{OwedIdle, Memory, Worn}
use Rattle.kernel_engine.specs.declared.parts.Parts.{Parts}
use Rattle.kernel_engine.specs.Handles.{AddsBlock, HandlesErr}
use Rattle.kernel_engine.specs.WellBlocked.{Block}
use Rattle.kernel_engine.specs.Orders.{ends, order_of_request}
use Rattle.kernel_engine.specs.Takes.{Asks, Finishes, GoesUnread, Takes}
use Rattle.kernel_engine.specs.World.{World, world_of}
use Rattle.iopub_queue.specs.Sink.{publisher_sink}
use Rattle.kernel_workers.specs.declared.outcomes.Outcome.{Outcome}
use Rattle.kernel_workers.specs.declared.outcomes.Outcomes.{Outcomes}
use Rattle.kernel_workers.specs.Jobs.{EndsNothing}
use Rattle.kernel_workers.specs.Outcomes.{Records}
use Rattle.kernel_workers.specs.Staying.{IsSameEngine}

-- what was recorded of where a reply goes was recorded of the message that it belongs to
pub recorded : (to message : List (List ℕ)) (outcome : Outcome) (old new : Outcomes) → to ≡ message
    → Records to outcome old new → Records message outcome old new
recorded to message outcome old new own records =
    subst (λ (frames : List (List ℕ)). Records frames outcome old new) own records

module _ {I S W Cell : Type 0} (m : Meaning I Cell) (stamps : Stamping S) (may : Type 0) where
  abbrev world : World I (Publisher (Event W)) S W Cell
  world = world_of m publisher_sink stamps

  -- an engine that didn't change
  stays : (old new : Parts I (Publisher (Event W)) S W) → new ≡ old → IsSameEngine stamps old new
  stays old new same = rw (same) (record { side = refl; queue = refl; number = refl; signer = refl; meant = refl })

  -- a block was added
  pub added : (block : Block) (old new : Parts I (Publisher (Event W)) S W) → AddsBlock world block old new
      → IsSameEngine stamps old new
  added block old new adds = record {
    side = adds.side;
    queue = adds.same.0;
    number = adds.same.1;
    signer = adds.signer;
    meant = adds.meant;
  }

  -- a request was refused
  pub refused_same : (request : Envelope) (old new : Parts I (Publisher (Event W)) S W) (fault : EngineFault)
      → HandlesErr world may request old fault new → IsSameEngine stamps old new
  refused_same request old new (OwedIdle back) hands = record {
    side = ap (λ (p : Parts I (Publisher (Event W)) S W). p.side) hands.owes.asked.rest;
    queue = hands.owes.asked.same.0;
    number = hands.owes.asked.same.1;
    signer = ap (λ (p : Parts I (Publisher (Event W)) S W). p.publishing.signer) hands.owes.asked.rest;
    meant = ap (λ (p : Parts I (Publisher (Event W)) S W). stamps.meaning p.publishing.stamp) hands.owes.asked.rest;
  }
  refused_same request old new Memory (inl none) = record {
    side = ap (λ (p : Parts I (Publisher (Event W)) S W). p.side) none.rest;
    queue = none.same.0;
    number = none.same.1;
    signer = ap (λ (p : Parts I (Publisher (Event W)) S W). p.publishing.signer) none.rest;
    meant = none.meant;
  }
  refused_same request old new Memory (inr cut) = added cut.block old new cut.adds
  refused_same request old new Worn (many, same) = stays old new same

  -- a message was taken
  pub taken_same : (frames : List (List ℕ)) (old new : Parts I (Publisher (Event W)) S W) (done : Done)
      → Takes world may frames old done new → IsSameEngine stamps old new
  taken_same frames old new Ignored (none, same) = stays old new same
  taken_same frames old new Lost (few, same) = stays old new same
  taken_same frames old new (Handled handled) (request, opened, ok) = added ok.block old new ok.adds
  taken_same frames old new (Refused fault) (inl (request, opened, why)) = refused_same request old new fault why
  taken_same frames old new (Refused fault) (inr worn) = stays old new worn.same

  -- what came of a request that doesn't ask for the kernel's end
  pub ends_nothing : (frames : List (List ℕ)) (asked : Asked) (old new : Parts I (Publisher (Event W)) S W)
      (done : Done)
      → Asks old.publishing.signer old.side frames asked → is_some (ends (order_of_request asked.does)) ≡ false
      → Finishes world may asked old done new → EndsNothing old.publishing.signer old.side frames done
  ends_nothing frames asked old new Ignored asks none never = tt
  ends_nothing frames asked old new Lost asks none never = tt
  ends_nothing frames asked old new (Handled handled) asks none (read, ok) = (
    asked.request,
    asks.opened,
    subst (λ (does : Does). is_some (ends (order_of_request does)) ≡ false) read none,
  )
  ends_nothing frames asked old new (Refused fault) asks none why = tt

  -- a message that isn't read doesn't ask for the kernel's end, as far as it is known
  pub unread_ends : (frames : List (List ℕ)) (unread : Unread) (done : Done)
      (engine : Parts I (Publisher (Event W)) S W) → GoesUnread engine unread done
      → EndsNothing engine.publishing.signer engine.side frames done
  unread_ends frames NoRequest done engine is = rw (is) tt
  unread_ends frames NoMemory done engine (inl (few, is)) = rw (is) tt
  unread_ends frames NoMemory done engine (inr (many, is)) = rw (is) tt
