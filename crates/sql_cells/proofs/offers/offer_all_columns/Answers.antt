use Rattle.std.proofs.Common.{◌≡◌, ◌∷◌, ◌+◌, drop, arith}
use Rattle.std.proofs.lemmas.Grind.{common_steps}
use Rattle.sql_cells.proofs.OfferLemmas.{columns_offered}
use Rattle.sql_cells.proofs.offers.offer_all_columns.Goals as goal

pub loop-table-preserved : goal.loop-table-preserved
loop-table-preserved c =
    let rest = drop (c.loop-table.table-index + 1) c.args.tables.now in
    let step : drop c.loop-table.table-index c.args.tables.now
    ≡ c.table-item.result ∷ drop (c.loop-table.table-index + 1) c.args.tables.now = grind (arith, common_steps) in
    columns_offered c.args.word.now c.loop-table.offered.items c.offer_columns.new.offered.items _
    c.table-item.result rest
    (rw c.as_slice.ensures at c.in_ok-offer_columns.ensures) (rw step at c.loop-table.invariant)
