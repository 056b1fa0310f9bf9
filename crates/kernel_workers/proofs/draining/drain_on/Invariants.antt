use Rattle.iopub_relay.specs.Relay.{TakesMore}
use Rattle.kernel_workers.proofs.draining.drain_on.Given as goal

abbrev pub invariant-loop : goal.invariant-loop
invariant-loop g l = TakesMore l.fn.relay.taker l.relay.taker
