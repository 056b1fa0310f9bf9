use Rattle.std.proofs.Common.{◌≡◌, ℕ, List, [], length}
use Rattle.sql_cells.specs.Parts.{IsParted, last_from}
use Rattle.sql_cells.proofs.cut.last_part.Given as goal

abbrev pub invariant-parts : goal.invariant-parts
invariant-parts l =
    (tail : List (List ℕ)) → IsParted l.rest tail
    → (parts : List (List ℕ)) × IsParted l.text parts × (last_from l.last tail ≡ last_from [] parts)

abbrev pub decreases-parts : goal.decreases-parts
decreases-parts l = length l.rest
