use Rattle.std.proofs.Common.{reverse, length}
use Rattle.arith_syntax.specs.Packed.{parts_of}
use Rattle.arith_value.proofs.OnePassLemmas.{Passes}
use Rattle.arith_value.proofs.one_pass.value_in_one_pass.Given as goal

abbrev pub invariant-loop-part : goal.invariant-loop-part
invariant-loop-part l = Passes l.variables l.text (parts_of l.parts) (parts_of l.left) (reverse l.waiting.items)

abbrev pub decreases-loop-part : goal.decreases-loop-part
decreases-loop-part l = length (parts_of l.left)
