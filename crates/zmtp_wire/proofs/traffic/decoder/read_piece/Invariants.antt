use Rattle.std.proofs.Common.{◌++◌, length}
use Rattle.zmtp_wire.specs.Pending.{pending_octets}
use Rattle.zmtp_wire.proofs.FeedLemmas.{Fed}
use Rattle.zmtp_wire.proofs.traffic.decoder.read_piece.Given as goal

abbrev pub invariant-loop-rest : goal.invariant-loop-rest
invariant-loop-rest l = Fed l.fn.pending.limits (pending_octets l.fn.pending ++ l.fn.piece) l.traffic.items l.pending
    l.rest

abbrev pub decreases-loop-rest : goal.decreases-loop-rest
decreases-loop-rest l = length l.rest
