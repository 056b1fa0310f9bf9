use Rattle.std.proofs.Common.{◌≡◌, ◌++◌, drop}
use Rattle.std.specs.List.{flat_map}
use Rattle.sql_cells.specs.Inspections.{table_words}
use Rattle.sql_cells.proofs.inspections.push_tables.Given as goal

abbrev pub invariant-loop-table : goal.invariant-loop-table
invariant-loop-table l =
    l.words.items ++ flat_map (table_words l.name) (drop l.table-index l.tables)
    ≡ l.fn.words.items ++ flat_map (table_words l.name) l.tables
