use Rattle.std.proofs.Common.{drop, vec_capacity}
use Rattle.listed.specs.Bodies.{bodies}
use Rattle.zmtp_wire.proofs.MessageLemmas.{Appended}
use Rattle.zmtp_wire.proofs.traffic.message.append_frames.Given as goal

abbrev pub invariant-loop-i : goal.invariant-loop-i
invariant-loop-i l = Appended l.initial.out.items l.out.items (vec_capacity l.initial.out) (vec_capacity l.out)
    (bodies (drop l.i l.frames)) (bodies l.frames)
