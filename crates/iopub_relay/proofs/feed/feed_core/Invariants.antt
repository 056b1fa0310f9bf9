use Rattle.std.proofs.Common.{◌≡◌, ◌++◌}
use Rattle.iopub_relay.proofs.FeedLemmas.{Served}
use Rattle.iopub_relay.proofs.feed.feed_core.Given as goal

abbrev pub invariant-loop-event : goal.invariant-loop-event
invariant-loop-event g l = record {
  served : Served g.W.Outlet.outflow l.yielded l.table;
  rest : l.fn.events.items ≡ l.yielded ++ l.event-iterator.rest.items;
}
