use Rattle.std.proofs.Common.{◌≡◌, drop}
use Rattle.sql_cells.specs.Offers.{column_names, offer_all}
use Rattle.sql_cells.proofs.offers.offer_columns.Given as goal

abbrev pub invariant-loop-column : goal.invariant-loop-column
invariant-loop-column l =
    offer_all l.word l.offered.items (column_names (drop l.column-index l.columns))
    ≡ offer_all l.word l.fn.offered.items (column_names l.columns)
