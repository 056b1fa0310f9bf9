use Rattle.std.proofs.Common.{◌≡◌, drop}
use Rattle.sql_cells.specs.Offers.{offer_all, table_names}
use Rattle.sql_cells.proofs.offers.offer_tables.Given as goal

abbrev pub invariant-loop-table : goal.invariant-loop-table
invariant-loop-table l =
    offer_all l.word l.offered.items (table_names (drop l.table-index l.tables))
    ≡ offer_all l.word l.fn.offered.items (table_names l.tables)
