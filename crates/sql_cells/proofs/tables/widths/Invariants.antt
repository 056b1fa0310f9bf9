use Rattle.std.proofs.Common.{◌≡◌, ◌+◌, ◌++◌, ℕ}
use Rattle.sql_cells.specs.Tables.{widths_from}
use Rattle.sql_cells.proofs.tables.widths.Given as goal

abbrev pub invariant-columns : goal.invariant-columns
invariant-columns l =
    (more : ℕ) → l.at + more ≡ l.columns → l.widths.items ++ widths_from l.rows l.at more
    ≡ widths_from l.rows 0 l.columns
