use Rattle.std.proofs.Common.{ℕ, ◌<◌, length, length-append, length-drop, slice_index, bit_xor, ap, arith}
use Rattle.std.proofs.lemmas.List.{get_or_default, length-map, length-take}
use Rattle.std.proofs.lemmas.List.Edits.{map_over_more}
use Rattle.jmsg_envelope.proofs.hmac.masked.Goals as goal

pub loop-octet-preserved : goal.loop-octet-preserved
loop-octet-preserved c =
    let items = c.loop-octet.octet-items in
    let index = c.loop-octet.octet-index in
    let among : index < length c.args.block.now = omega arith in
    let as_long = simp (length-append, length-map, length-take, length-drop) at (ap length c.loop-octet.invariant) in
    let within : index < length items = omega (arith, as_long) in
    map_over_more (λ (octet : ℕ). bit_xor octet c.args.pad) c.args.block.now items index (slice_index items index) among
    c.loop-octet.invariant (get_or_default items index 0 (slice_index items index) within)
