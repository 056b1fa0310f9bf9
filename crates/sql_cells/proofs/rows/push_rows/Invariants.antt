use Rattle.std.proofs.Common.{◌≡◌, ◌++◌, drop}
use Rattle.std.specs.List.{flat_map}
use Rattle.sql_cells.specs.Tables.{html_row}
use Rattle.sql_cells.proofs.rows.push_rows.Given as goal

abbrev pub invariant-loop-row : goal.invariant-loop-row
invariant-loop-row l =
    l.html.items ++ flat_map html_row (drop l.row-index l.rows) ≡ l.fn.html.items ++ flat_map html_row l.rows
