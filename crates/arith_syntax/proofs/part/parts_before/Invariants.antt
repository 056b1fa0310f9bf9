use Rattle.std.proofs.Common.{◌≡◌, ◌≤◌, ◌+◌, ◌*◌, ℕ, List, length, take}
use Rattle.arith_syntax.specs.Parts.{before, trees_in}
use Rattle.arith_syntax.proofs.TreeLemmas.{dropped}
use Rattle.arith_syntax.proofs.part.parts_before.Given as goal

abbrev pub invariant-loop-due : goal.invariant-loop-due
invariant-loop-due l =
    (l.size ≤ length l.parts) × (l.due + 2 * l.size ≤ 1 + 2 * length l.parts)
    × ((text : List ℕ) → dropped l.due (trees_in text (take l.size l.parts)) ≡ before (trees_in text l.parts))

abbrev pub decreases-loop-due : goal.decreases-loop-due
decreases-loop-due l = l.size
