use Rattle.std.proofs.Common.{◌≡◌, ℕ, List, ◌++◌, length}
use Rattle.std.specs.List.{filter}
use Rattle.sql_cells.specs.Parts.{IsParted, does}
use Rattle.sql_cells.proofs.cut.cut.Given as goal

abbrev pub invariant-parts : goal.invariant-parts
invariant-parts l =
    (tail : List (List ℕ)) → IsParted l.rest tail
    → (parts : List (List ℕ)) × IsParted l.text parts × (l.pieces.items ++ filter does tail ≡ filter does parts)

abbrev pub decreases-parts : goal.decreases-parts
decreases-parts l = length l.rest
