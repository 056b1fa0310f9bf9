use Rattle.std.proofs.Common.{◌≡◌, ◌+◌, ◌≤◌, length, drop, min}
use Rattle.zmtp_wire.specs.Frame.{front_octets}
use Rattle.zmtp_wire.specs.Pending.{pending_octets}
use Rattle.zmtp_wire.proofs.traffic.pending.Pending.held.Given as goal

abbrev pub invariant-loop-frame : goal.invariant-loop-frame
invariant-loop-frame l = (l.held ≤ 18446744073709551615)
    × (min (length (front_octets (drop l.frame-index l.self.frames.items)) + l.held) 18446744073709551615
    ≡ min (length (pending_octets l.self)) 18446744073709551615)
