use Rattle.std.proofs.Common.{◌≡◌, ◌++◌, drop}
use Rattle.sql_cells.proofs.rows.name_texts.Given as goal

abbrev pub invariant-loop-name : goal.invariant-loop-name
invariant-loop-name l =
    l.cells.items ++ drop l.name-index l.names ≡ l.names
