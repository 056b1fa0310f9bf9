use Rattle.std.proofs.Common.{◌≡◌, ◌++◌, length}
use Rattle.arith_syntax.specs.Packed.{parts_of}
use Rattle.arith_syntax.proofs.parts.PartsRef.unpacked.Given as goal

abbrev pub invariant-loop-part : goal.invariant-loop-part
invariant-loop-part l = parts_of l.fn.self ≡ l.parts.items ++ parts_of l.left

abbrev pub decreases-loop-part : goal.decreases-loop-part
decreases-loop-part l = length (parts_of l.left)
