use Rattle.std.proofs.Common.{◌≡◌, ◌++◌, drop}
use Rattle.std.specs.List.{flat_map}
use Rattle.sql_cells.specs.Values.{hex_octet}
use Rattle.sql_cells.proofs.values.push_hexes.Given as goal

abbrev pub invariant-loop-octet : goal.invariant-loop-octet
invariant-loop-octet l =
    l.text.items ++ flat_map hex_octet (drop l.octet-index l.octets) ≡ l.fn.text.items ++ flat_map hex_octet l.octets
