use Rattle.zmtp_wire.proofs.DeviceLemmas.{put_more}
use Rattle.zmtp_wire.proofs.device.write_all.Goals as goal

pub loop-rest-preserved : goal.loop-rest-preserved
loop-rest-preserved g c =
    put_more (g.W.Outlet.outflow c.args.writer.now) (g.W.Outlet.outflow c.loop-rest.writer)
    (g.W.Outlet.outflow c.write.new.self) c.args.octets.now
    c.loop-rest.rest.now c.split_at.result.1.now c.in_ok-count.count c.loop-rest.invariant c.in_ok-count.ensures.writes
    c.split_at.ensures.back c.if-count-eq0.false
