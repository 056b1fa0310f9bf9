use Rattle.std.proofs.Common.{◌≡◌, ◌++◌, drop}
use Rattle.std.specs.List.{flat_map}
use Rattle.sql_cells.specs.Dots.{listed_row}
use Rattle.sql_cells.proofs.dots.listed_text.Given as goal

abbrev pub invariant-loop-row : goal.invariant-loop-row
invariant-loop-row l =
    l.text.items ++ flat_map listed_row (drop l.row-index l.rows) ≡ flat_map listed_row l.rows
