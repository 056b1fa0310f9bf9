use Rattle.std.proofs.Common.{◌≡◌, ◌+◌, ◌≤◌, drop}
use Rattle.std.specs.Prelude.{nat_lt, if◌then◌else◌}
use Rattle.sql_cells.specs.Places.{line_start}
use Rattle.sql_cells.proofs.places.line_start.Given as goal

abbrev pub invariant-loop-at : goal.invariant-loop-at
invariant-loop-at l =
    ((if nat_lt 0 (line_start (drop l.at l.text)) then l.at + line_start (drop l.at l.text) else l.start)
    ≡ line_start l.text) × (l.start ≤ l.at)
