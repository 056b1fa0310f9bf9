use Rattle.std.proofs.Common.{◌≡◌, ◌++◌, drop}
use Rattle.std.specs.List.{flat_map}
use Rattle.sql_cells.specs.Tables.{html_cell}
use Rattle.sql_cells.specs.Values.{value_html}
use Rattle.sql_cells.proofs.rows.push_cells.Given as goal

abbrev pub invariant-cells : goal.invariant-cells
invariant-cells l =
    l.html.items ++ flat_map (λ value. html_cell (value_html value)) (drop l.at l.row) ≡ l.fn.html.items
    ++ flat_map (λ value. html_cell (value_html value)) l.row
