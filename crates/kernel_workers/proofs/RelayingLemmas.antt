-- A relay takes from the same queue, whatever it pumps.
use Rattle.std.proofs.Common.{◌≡◌, refl, ap, ◌∙◌}
use Rattle.zmtp_wire.specs.Device.{Outflow}
use Rattle.iopub_event.specs.declared.event.Event.{Event}
use Rattle.iopub_queue.specs.Values.{Taking}
use Rattle.iopub_relay.specs.declared.relay.Pumped.{Pumped}
use Rattle.iopub_relay.specs.declared.relay.Pumped.TheVariants as pumped
use Rattle.iopub_relay.specs.Relay.{Relaying, Pumps}
use Rattle.kernel_workers.specs.Staying.{IsSameQueue}

module _ {W : Type 0} where
  by_taker : (old new : Relaying W) (taker : Taking (Event W)) → new.taker ≡ taker
      → taker.queue ≡ old.taker.queue → taker.count ≡ old.taker.count → IsSameQueue old new
  by_taker old new taker is queue count = record {
    queue = ap (λ (one : Taking (Event W)). one.queue) is ∙ queue;
    count = ap (λ (one : Taking (Event W)). one.count) is ∙ count;
  }

  by_relay : (old new : Relaying W) → new ≡ old → IsSameQueue old new
  by_relay old new is = record {
    queue = ap (λ (one : Relaying W). one.taker.queue) is;
    count = ap (λ (one : Relaying W). one.taker.count) is;
  }

  -- a pump leaves the queue
  pub pumped_same : (outflow : W → Outflow) (old new : Relaying W) (answer : Pumped) → Pumps outflow old answer new
      → IsSameQueue old new
  pumped_same outflow old new pumped.Did pumps = by_taker old new _ pumps.0.takes.added refl refl
  pumped_same outflow old new (pumped.Closed number) pumps = by_taker old new _ pumps.0.added refl refl
  pumped_same outflow old new pumped.Empty pumps = by_relay old new pumps.1
  pumped_same outflow old new pumped.Complete pumps = by_relay old new pumps.0
  pumped_same outflow old new (pumped.NoTopic id) pumps = by_taker old new _ pumps.0.takes.added refl refl
  pumped_same outflow old new (pumped.NoRoom id) pumps = by_taker old new _ pumps.takes.added refl refl

  -- and so do two
  pub same_on : (old middle new : Relaying W) → IsSameQueue old middle → IsSameQueue middle new → IsSameQueue old new
  same_on old middle new one other = record {
    queue = other.queue ∙ one.queue;
    count = other.count ∙ one.count;
  }
