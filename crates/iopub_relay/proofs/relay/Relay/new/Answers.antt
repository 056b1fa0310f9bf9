use Rattle.iopub_relay.proofs.TakenLemmas.{serves_none}
use Rattle.iopub_relay.proofs.relay.Relay.new.Goals as goal

pub invariant_of-result : goal.invariant_of-result
invariant_of-result g c = rw c.new.ensures (serves_none g.W.Outlet.outflow c.args.taker c.requires)
