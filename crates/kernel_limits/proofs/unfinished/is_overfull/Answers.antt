use Rattle.std.proofs.Common.{◌≡◌, ◌+◌, ◌<◌, arith, take}
use Rattle.std.specs.List.{sum_by}
use Rattle.std.proofs.lemmas.List.Sums.{sum_by_more_le}
use Rattle.kernel_limits.specs.declared.unfinished.Part.{Part}
use Rattle.kernel_limits.proofs.unfinished.is_overfull.Goals as goal

pub returns-in-None : goal.returns-in-None
returns-in-None c =
    let within = sum_by_more_le (λ (part : Part). part.octets) c.args.parts.now c.loop-part.part-index
    (record { number = 0; octets = 0 }) c.loop-part-test.true in
    let kept : c.loop-part.room + sum_by (λ (part : Part). part.octets) (take c.loop-part.part-index c.args.parts.now)
    ≡ 67108864 = c.loop-part.invariant in
    let short = c.in-None.ensures in
    let over : 67108864 < sum_by (λ (part : Part). part.octets) c.args.parts.now = grind (arith) in
    grind (arith)
