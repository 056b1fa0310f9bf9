use Rattle.std.proofs.Common.{◌≡◌, ℕ, List, length}
use Rattle.std.specs.Prelude.{codes}
use Rattle.sql_cells.specs.Parts.{IsSplit, last_solid}
use Rattle.sql_cells.proofs.cut.last_solid.Given as goal

abbrev pub invariant-things : goal.invariant-things
invariant-things l =
    (tail : List (List ℕ)) → IsSplit l.rest tail
    → (things : List (List ℕ)) × IsSplit l.text things × (last_solid l.last tail ≡ last_solid (codes ";") things)

abbrev pub decreases-things : goal.decreases-things
decreases-things l = length l.rest
