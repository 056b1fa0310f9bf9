use Rattle.std.proofs.Common.{◌≡◌, ◌++◌, drop}
use Rattle.sql_cells.specs.Tables.{printed}
use Rattle.sql_cells.proofs.tables.push_printed.Given as goal

abbrev pub invariant-loop-octet : goal.invariant-loop-octet
invariant-loop-octet l =
    l.text.items ++ printed l.previous (drop l.octet-index l.cell) ≡ l.fn.text.items ++ printed 0 l.cell
