use Rattle.std.proofs.Common.{◌≡◌, ◌++◌, drop, map}
use Rattle.sql_cells.specs.Offers.{offered_text}
use Rattle.sql_cells.proofs.offers.push_names.Given as goal

abbrev pub invariant-loop-name : goal.invariant-loop-name
invariant-loop-name l =
    l.texts.items ++ map offered_text (drop l.name-index l.names) ≡ l.fn.texts.items ++ map offered_text l.names
