use Rattle.std.proofs.Common.{◌++◌}
use Rattle.std.proofs.lemmas.Result.{err_from_is_err_and}
use Rattle.zmtp_wire.specs.Pending.{pending_octets}
use Rattle.zmtp_wire.proofs.FeedLemmas.{fed_whole, fed_fault}
use Rattle.zmtp_wire.proofs.traffic.decoder.read_piece.Goals as goal

pub returns-in_err-step-clause-err : goal.returns-in_err-step-clause-err
returns-in_err-step-clause-err c =
    let p = err_from_is_err_and c.from_residual.result c.from_residual.ensures.1 in
    rw (p.1, p.2) (fed_fault c.args.pending.now.limits (pending_octets c.args.pending.now ++ c.args.piece.now)
    c.loop-rest.traffic.items c.loop-rest.pending _ c.loop-rest.rest.now c.loop-rest.invariant
    c.in_err-step.ensures.err)

pub loop-rest-preserved-in-Continue-branch-2 : goal.loop-rest-preserved-in-Continue-branch-2
loop-rest-preserved-in-Continue-branch-2 c =
    rw (c.in_ok-push.ensures.items, c.in-Some.whole-is, c.split_at.ensures.back)
    (fed_whole c.args.pending.now.limits (pending_octets c.args.pending.now ++ c.args.piece.now)
    c.loop-rest.traffic.items c.loop-rest.pending c.step.new.self c.in-Some.whole
    c.in_ok-step.step.taken c.loop-rest.rest.now c.loop-rest.invariant (rw c.in-Some.is at c.in_ok-step.ensures.ok))
