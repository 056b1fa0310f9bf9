use Rattle.iopub_relay.proofs.DrainLemmas.{Took}
use Rattle.iopub_relay.proofs.relay.Relay.drain.Given as goal

abbrev pub invariant-loop : goal.invariant-loop
invariant-loop g l = Took g.W.Outlet.outflow l.fn.self l.counter l.self
