use Rattle.std.proofs.Common.{◌≡◌, ◌≤◌, ◌+◌, drop}
use Rattle.sql_cells.specs.Tables.{width}
use Rattle.sql_cells.proofs.tables.width.Given as goal

abbrev pub invariant-loop-octet : goal.invariant-loop-octet
invariant-loop-octet l =
    (l.count + width (drop l.octet-index l.text) ≡ width l.text) × (l.count ≤ l.octet-index)
