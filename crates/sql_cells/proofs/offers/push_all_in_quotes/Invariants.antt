use Rattle.std.proofs.Common.{◌≡◌, ◌++◌, drop}
use Rattle.std.specs.List.{flat_map}
use Rattle.sql_cells.specs.Offers.{in_quotes}
use Rattle.sql_cells.proofs.offers.push_all_in_quotes.Given as goal

abbrev pub invariant-loop-octet : goal.invariant-loop-octet
invariant-loop-octet l =
    l.text.items ++ flat_map in_quotes (drop l.octet-index l.name) ≡ l.fn.text.items ++ flat_map in_quotes l.name
