use Rattle.std.proofs.Common.{◌≡◌, ◌++◌, drop}
use Rattle.std.specs.List.{flat_map}
use Rattle.sql_cells.specs.Inspections.{next_column}
use Rattle.sql_cells.proofs.inspections.push_next_columns.Given as goal

abbrev pub invariant-loop-column : goal.invariant-loop-column
invariant-loop-column l =
    l.words.items ++ flat_map next_column (drop l.column-index l.columns)
    ≡ l.fn.words.items ++ flat_map next_column l.columns
