use Rattle.std.proofs.Common.{◌≡◌, ◌++◌, drop}
use Rattle.std.specs.List.{flat_map}
use Rattle.sql_cells.specs.Inspections.{column_words}
use Rattle.sql_cells.proofs.inspections.push_all_named.Given as goal

abbrev pub invariant-loop-column : goal.invariant-loop-column
invariant-loop-column l =
    l.words.items ++ flat_map (column_words l.name l.table) (drop l.column-index l.columns)
    ≡ l.fn.words.items ++ flat_map (column_words l.name l.table) l.columns
