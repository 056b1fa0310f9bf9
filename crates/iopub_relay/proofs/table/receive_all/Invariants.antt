use Rattle.listed.specs.Bodies.{bodies}
use Rattle.iopub_relay.proofs.ReceiveLemmas.{ReceivedSoFar}
use Rattle.iopub_relay.proofs.table.receive_all.Given as goal

abbrev pub invariant-loop-place : goal.invariant-loop-place
invariant-loop-place g l = ReceivedSoFar g.W.Outlet.outflow (bodies l.frames) l.fn.rows.items l.rows.items l.place
