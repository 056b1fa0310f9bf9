use Rattle.std.proofs.Common.{◌≡◌}
use Rattle.std.specs.Vec.Iter.{into_iter_items}
use Rattle.zmtp_connection.proofs.HandLemmas.{HandedSoFar}
use Rattle.zmtp_connection.proofs.listening.hand_traffic.Given as goal

abbrev pub invariant-loop-item : goal.invariant-loop-item
invariant-loop-item g l = record {
  same : g.L.Listener.names l.listener ≡ g.L.Listener.names l.fn.listener;
  so_far : HandedSoFar g.L.Listener.hears l.fn.listener l.fn.traffic (into_iter_items l.item-iterator) l.listener;
}
