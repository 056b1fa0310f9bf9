use Rattle.std.proofs.Common.{rules, ◌+◌, drop, length, nat_lt, refl, false}
use Rattle.listed.specs.Bodies.{bodies}
use Rattle.zmtp_wire.specs.Frame.{text, frame_octets, shortest}
use Rattle.zmtp_wire.proofs.DeviceLemmas.{put_cut, put_on}
use Rattle.zmtp_wire.proofs.MessageLemmas.{text_from}
use Rattle.zmtp_wire.proofs.traffic.message.write_frames.Goals as goal

pub returns-in_err-write_frame : goal.returns-in_err-write_frame
returns-in_err-write_frame g c =
    let frames = c.args.frames.now in
    let more = nat_lt (c.loop-i.i + 1) (length frames) in
    put_cut (g.W.Outlet.outflow c.args.writer.now) (g.W.Outlet.outflow c.loop-i.writer)
    (g.W.Outlet.outflow c.write_frame.new.writer) c.in_err-write_frame.field-0.0 c.from_residual.result
    (text (bodies frames)) (text (bodies (drop c.loop-i.i frames)))
    (frame_octets more false (shortest c.index-frames-i.result.items)) (text (bodies (drop (c.loop-i.i + 1) frames)))
    (search rules) c.loop-i.invariant
    (text_from frames c.loop-i.i c.index-frames-i.result more (search rules) c.index-frames-i.is refl)
    (rw c.deref.ensures.value at c.in_err-write_frame.ensures)

pub loop-i-preserved : goal.loop-i-preserved
loop-i-preserved g c =
    let frames = c.args.frames.now in
    let more = nat_lt (c.loop-i.i + 1) (length frames) in
    put_on (g.W.Outlet.outflow c.args.writer.now) (g.W.Outlet.outflow c.loop-i.writer)
    (g.W.Outlet.outflow c.write_frame.new.writer) (text (bodies frames)) (text (bodies (drop c.loop-i.i frames)))
    (frame_octets more false (shortest c.index-frames-i.result.items)) (text (bodies (drop (c.loop-i.i + 1) frames)))
    c.loop-i.invariant
    (text_from frames c.loop-i.i c.index-frames-i.result more (search rules) c.index-frames-i.is refl)
    (rw c.deref.ensures.value at c.in_ok-write_frame.ensures)
