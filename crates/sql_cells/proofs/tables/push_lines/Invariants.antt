use Rattle.std.proofs.Common.{◌≡◌, ◌++◌, drop}
use Rattle.std.specs.List.{flat_map}
use Rattle.sql_cells.specs.Tables.{line}
use Rattle.sql_cells.proofs.tables.push_lines.Given as goal

abbrev pub invariant-loop-cells : goal.invariant-loop-cells
invariant-loop-cells l =
    l.text.items ++ flat_map (line l.widths) (drop l.cells-index l.rows) ≡ l.fn.text.items
    ++ flat_map (line l.widths) l.rows
