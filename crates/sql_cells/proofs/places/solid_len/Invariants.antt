use Rattle.std.proofs.Common.{◌≡◌, ◌+◌, ◌≤◌, drop}
use Rattle.std.specs.Prelude.{nat_lt, if◌then◌else◌}
use Rattle.sql_cells.specs.Places.{solid_len}
use Rattle.sql_cells.proofs.places.solid_len.Given as goal

abbrev pub invariant-loop-at : goal.invariant-loop-at
invariant-loop-at l =
    ((if nat_lt 0 (solid_len (drop l.at l.text)) then l.at + solid_len (drop l.at l.text) else l.len)
    ≡ solid_len l.text) × (l.len ≤ l.at)
