use Rattle.std.proofs.Common.{◌≡◌, ◌++◌, drop}
use Rattle.sql_cells.specs.Tables.{boxes}
use Rattle.sql_cells.proofs.tables.push_boxes.Given as goal

abbrev pub invariant-loop-at : goal.invariant-loop-at
invariant-loop-at l =
    l.text.items ++ boxes l.cells l.at (drop l.at l.widths) ≡ l.fn.text.items ++ boxes l.cells 0 l.widths
