use Rattle.std.proofs.Common.{◌≡◌, ◌++◌, []}
use Rattle.std.specs.Vec.Iter.{drain_items, drain_kept}
use Rattle.listed.specs.Bodies.{bodies}
use Rattle.zmtp_wire.specs.Frame.{bodies_of}
use Rattle.zmtp_wire.proofs.traffic.pending.message.Given as goal

abbrev pub invariant-loop-frame : goal.invariant-loop-frame
invariant-loop-frame l = record {
  same : bodies l.bodies.items ++ bodies_of (drain_items l.frame-iterator) ≡ bodies_of l.fn.frames.items;
  kept : drain_kept l.frame-iterator ≡ [];
}
