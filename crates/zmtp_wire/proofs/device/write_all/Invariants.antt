use Rattle.std.specs.Prelude.{length}
use Rattle.zmtp_wire.proofs.DeviceLemmas.{PutSoFar}
use Rattle.zmtp_wire.proofs.device.write_all.Given as goal

abbrev pub invariant-loop-rest : goal.invariant-loop-rest
invariant-loop-rest g l = PutSoFar (g.W.Outlet.outflow l.fn.writer) (g.W.Outlet.outflow l.writer) l.octets l.rest

abbrev pub decreases-loop-rest : goal.decreases-loop-rest
decreases-loop-rest g l = length l.rest
