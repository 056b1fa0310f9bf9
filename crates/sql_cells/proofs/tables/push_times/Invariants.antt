use Rattle.std.proofs.Common.{◌≡◌, ◌++◌}
use Rattle.std.specs.Prelude.{replicate}
use Rattle.sql_cells.proofs.tables.push_times.Given as goal

abbrev pub invariant-times : goal.invariant-times
invariant-times l =
    l.text.items ≡ l.fn.text.items ++ replicate l.at l.octet
