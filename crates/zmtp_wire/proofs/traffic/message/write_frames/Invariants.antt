use Rattle.std.proofs.Common.{drop}
use Rattle.listed.specs.Bodies.{bodies}
use Rattle.zmtp_wire.specs.Frame.{text}
use Rattle.zmtp_wire.proofs.DeviceLemmas.{PutSoFar}
use Rattle.zmtp_wire.proofs.traffic.message.write_frames.Given as goal

abbrev pub invariant-loop-i : goal.invariant-loop-i
invariant-loop-i g l = PutSoFar (g.W.Outlet.outflow l.fn.writer) (g.W.Outlet.outflow l.writer) (text (bodies l.frames))
    (text (bodies (drop l.i l.frames)))
