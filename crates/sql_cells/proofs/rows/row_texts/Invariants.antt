use Rattle.std.proofs.Common.{◌≡◌, ◌++◌, drop, map}
use Rattle.sql_cells.specs.Values.{value_text}
use Rattle.sql_cells.proofs.rows.row_texts.Given as goal

abbrev pub invariant-cells : goal.invariant-cells
invariant-cells l =
    l.cells.items ++ map value_text (drop l.at l.row) ≡ map value_text l.row
