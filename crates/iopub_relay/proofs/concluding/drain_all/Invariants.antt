use Rattle.iopub_relay.specs.Relay.{TakesMore}
use Rattle.iopub_relay.proofs.concluding.drain_all.Given as goal

abbrev pub invariant-loop : goal.invariant-loop
invariant-loop g l = TakesMore l.fn.relay.taker l.relay.taker
