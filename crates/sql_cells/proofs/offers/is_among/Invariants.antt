use Rattle.std.proofs.Common.{◌≡◌, drop, map}
use Rattle.sql_cells.specs.Offers.{is_among}
use Rattle.sql_cells.proofs.offers.is_among.Given as goal

abbrev pub invariant-loop-entry : goal.invariant-loop-entry
invariant-loop-entry l =
    is_among (map (λ k. k.0.now) (drop l.entry-index l.table)) l.name ≡ is_among (map (λ k. k.0.now) l.table) l.name
