use Rattle.std.proofs.Common.{◌≡◌, ◌++◌, drop}
use Rattle.std.specs.List.{flat_map}
use Rattle.sql_cells.specs.Places.{below}
use Rattle.sql_cells.proofs.places.push_all_below.Given as goal

abbrev pub invariant-loop-octet : goal.invariant-loop-octet
invariant-loop-octet l =
    l.words.items ++ flat_map below (drop l.octet-index l.line) ≡ l.fn.words.items ++ flat_map below l.line
