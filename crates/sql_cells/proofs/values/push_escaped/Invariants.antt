use Rattle.std.proofs.Common.{◌≡◌, ◌++◌, drop}
use Rattle.std.specs.List.{flat_map}
use Rattle.sql_cells.specs.Values.{escaped_octet}
use Rattle.sql_cells.proofs.values.push_escaped.Given as goal

abbrev pub invariant-loop-octet : goal.invariant-loop-octet
invariant-loop-octet l =
    l.html.items ++ flat_map escaped_octet (drop l.octet-index l.text) ≡ l.fn.html.items
    ++ flat_map escaped_octet l.text
