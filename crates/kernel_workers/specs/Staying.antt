-- What no request changes of an engine, and what no pump changes of a relay.
use Rattle.std.specs.Prelude.{◌≡◌}
use Rattle.iopub_queue.specs.Values.{Publishing as Publisher}
use Rattle.iopub_relay.specs.Relay.{Relaying}
use Rattle.jmsg_envelope.specs.Stamp.{Stamping}
use Rattle.kernel_engine.specs.declared.parts.Parts.{Parts}

-- An engine is the same one, whatever was published in between: it has its channel, its publisher and its key, and its
-- stamp means the same.
pub record IsSameEngine {I S T W : Type 0} (stamps : Stamping S) (old new : Parts I (Publisher T) S W)
    : Type 0 where
  pub side : new.side ≡ old.side
  pub queue : new.publishing.sink.queue ≡ old.publishing.sink.queue
  pub number : new.publishing.sink.number ≡ old.publishing.sink.number
  pub signer : new.publishing.signer ≡ old.publishing.signer
  pub meant : stamps.meaning new.publishing.stamp ≡ stamps.meaning old.publishing.stamp

-- a relay takes from the queue that it took from
pub record IsSameQueue {W : Type 0} (old new : Relaying W) : Type 0 where
  pub queue : new.taker.queue ≡ old.taker.queue
  pub count : new.taker.count ≡ old.taker.count
