use Rattle.std.proofs.Common.{◌≡◌, drop, map}
use Rattle.sql_cells.specs.Offers.{offer_all}
use Rattle.sql_cells.proofs.offers.offer_words.Given as goal

abbrev pub invariant-loop-entry : goal.invariant-loop-entry
invariant-loop-entry l =
    offer_all l.word l.offered.items (map (λ k. k.0.now) (drop l.entry-index l.table))
    ≡ offer_all l.word l.fn.offered.items (map (λ k. k.0.now) l.table)
