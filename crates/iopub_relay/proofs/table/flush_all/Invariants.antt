use Rattle.iopub_relay.proofs.FlushLemmas.{FlushedSoFar}
use Rattle.iopub_relay.proofs.table.flush_all.Given as goal

abbrev pub invariant-loop-place : goal.invariant-loop-place
invariant-loop-place g l = FlushedSoFar g.W.Outlet.outflow l.fn.subscribers.items l.subscribers.items l.place
