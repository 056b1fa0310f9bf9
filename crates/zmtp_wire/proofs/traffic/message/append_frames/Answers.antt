use Rattle.std.proofs.Common.{◌+◌, length, nat_lt, vec_capacity, refl, rules, arith}
use Rattle.std.proofs.lemmas.Grind.{common_steps}
use Rattle.zmtp_wire.proofs.MessageLemmas.{appended_more, has_room}
use Rattle.zmtp_wire.proofs.traffic.message.append_frames.Goals as goal

pub append_frame-requires : goal.append_frame-requires
append_frame-requires c =
    let room = has_room c.args.out.now.items c.loop-i.out.items (vec_capacity c.args.out.now)
    (vec_capacity c.loop-i.out) c.args.frames.now c.loop-i.i c.index-frames-i.result
    (nat_lt (c.loop-i.i + 1) (length c.args.frames.now)) (search rules) c.index-frames-i.is c.loop-i.invariant
    (grind (arith, common_steps)) in
    rw c.deref.ensures.value (grind (arith, common_steps))

pub loop-i-preserved : goal.loop-i-preserved
loop-i-preserved c =
    appended_more c.args.out.now.items c.loop-i.out.items c.append_frame.new.out.items (vec_capacity c.args.out.now)
    (vec_capacity c.loop-i.out) (vec_capacity c.append_frame.new.out) c.args.frames.now c.loop-i.i
    c.index-frames-i.result (nat_lt (c.loop-i.i + 1) (length c.args.frames.now)) (search rules) c.index-frames-i.is
    refl c.loop-i.invariant (rw c.deref.ensures.value at c.append_frame.ensures.frame) c.append_frame.ensures.room
