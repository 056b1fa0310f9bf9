use Rattle.std.proofs.Common.{◌≡◌, ◌++◌, drop}
use Rattle.std.specs.List.{flat_map}
use Rattle.sql_cells.specs.Tables.{dashes}
use Rattle.sql_cells.proofs.tables.push_all_dashes.Given as goal

abbrev pub invariant-loop-wide : goal.invariant-loop-wide
invariant-loop-wide l =
    l.text.items ++ flat_map dashes (drop l.wide-index l.widths) ≡ l.fn.text.items ++ flat_map dashes l.widths
