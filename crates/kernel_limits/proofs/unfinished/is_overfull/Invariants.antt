use Rattle.std.specs.Prelude.{◌≡◌, ◌+◌, take}
use Rattle.std.specs.List.{sum_by}
use Rattle.kernel_limits.specs.declared.unfinished.Part.{Part}
use Rattle.kernel_limits.proofs.unfinished.is_overfull.Given as goal

abbrev pub invariant-loop-part : goal.invariant-loop-part
invariant-loop-part l =
    l.room + sum_by (λ (part : Part). part.octets) (take l.part-index l.parts) ≡ 67108864
