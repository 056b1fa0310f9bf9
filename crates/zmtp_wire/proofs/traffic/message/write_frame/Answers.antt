use Rattle.std.proofs.Common.{rules, ◌∙◌, false, length, nat_lt}
use Rattle.zmtp_wire.specs.Frame.{head_octets}
use Rattle.zmtp_wire.proofs.DeviceLemmas.{adds_before, adds_on}
use Rattle.zmtp_wire.proofs.traffic.message.write_frame.Goals as goal

pub returns-in_err-write_all : goal.returns-in_err-write_all
returns-in_err-write_all g c =
    let head = head_octets c.args.more (nat_lt 255 (length c.args.body.now)) false (length c.args.body.now) in
    adds_before (g.W.Outlet.outflow c.args.writer.now) (g.W.Outlet.outflow c.write_all.new.writer)
    c.in_err-write_all.field-0.0 c.from_residual.result head c.args.body.now (search rules)
    (rw (c.octets.ensures ∙ c.frame_head-head.ensures) at c.in_err-write_all.ensures)

pub returns : goal.returns
returns g c =
    let head = head_octets c.args.more (nat_lt 255 (length c.args.body.now)) false (length c.args.body.now) in
    adds_on (g.W.Outlet.outflow c.args.writer.now) (g.W.Outlet.outflow c.write_all.new.writer)
    (g.W.Outlet.outflow c.write_all-2.new.writer) c.write_all-2.result head c.args.body.now
    (rw (c.octets.ensures ∙ c.frame_head-head.ensures) at c.in_ok-write_all.ensures) c.write_all-2.ensures
