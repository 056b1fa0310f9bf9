use Rattle.std.proofs.Common.{◌≡◌, ◌++◌, drop}
use Rattle.std.specs.List.{flat_map}
use Rattle.sql_cells.specs.Tables.{html_name}
use Rattle.sql_cells.proofs.rows.push_names.Given as goal

abbrev pub invariant-loop-name : goal.invariant-loop-name
invariant-loop-name l =
    l.html.items ++ flat_map html_name (drop l.name-index l.names) ≡ l.fn.html.items ++ flat_map html_name l.names
