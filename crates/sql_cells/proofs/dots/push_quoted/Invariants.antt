use Rattle.std.proofs.Common.{◌≡◌, ◌++◌, drop}
use Rattle.std.specs.List.{flat_map}
use Rattle.sql_cells.specs.Dots.{quoted_octet}
use Rattle.sql_cells.proofs.dots.push_quoted.Given as goal

abbrev pub invariant-loop-octet : goal.invariant-loop-octet
invariant-loop-octet l =
    l.sql.items ++ flat_map quoted_octet (drop l.octet-index l.name) ≡ l.fn.sql.items ++ flat_map quoted_octet l.name
