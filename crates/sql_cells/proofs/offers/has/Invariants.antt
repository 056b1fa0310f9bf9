use Rattle.std.proofs.Common.{◌≡◌, drop}
use Rattle.sql_cells.specs.Offers.{has}
use Rattle.sql_cells.proofs.offers.has.Given as goal

abbrev pub invariant-loop-other : goal.invariant-loop-other
invariant-loop-other l = has (drop l.other-index l.names) l.name ≡ has l.names l.name
