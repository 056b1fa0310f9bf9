use Rattle.std.proofs.Common.{◌≡◌, drop}
use Rattle.sql_cells.specs.Offers.{all_columns, offer_all}
use Rattle.sql_cells.proofs.offers.offer_all_columns.Given as goal

abbrev pub invariant-loop-table : goal.invariant-loop-table
invariant-loop-table l =
    offer_all l.word l.offered.items (all_columns (drop l.table-index l.tables))
    ≡ offer_all l.word l.fn.offered.items (all_columns l.tables)
