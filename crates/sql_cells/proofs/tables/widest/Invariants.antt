use Rattle.std.proofs.Common.{◌≡◌, drop}
use Rattle.std.specs.Prelude.{max}
use Rattle.sql_cells.specs.Tables.{widest}
use Rattle.sql_cells.proofs.tables.widest.Given as goal

abbrev pub invariant-loop-cells : goal.invariant-loop-cells
invariant-loop-cells l =
    max l.most (widest l.at (drop l.cells-index l.rows)) ≡ widest l.at l.rows
