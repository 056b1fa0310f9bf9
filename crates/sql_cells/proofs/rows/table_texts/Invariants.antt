use Rattle.std.proofs.Common.{◌≡◌, ◌++◌, ◌∷◌, drop, map}
use Rattle.sql_cells.specs.Tables.{texts}
use Rattle.sql_cells.proofs.rows.table_texts.Given as goal

abbrev pub invariant-loop-row : goal.invariant-loop-row
invariant-loop-row l =
    l.table.items ++ map texts (drop l.row-index l.rows) ≡ l.names ∷ map texts l.rows
