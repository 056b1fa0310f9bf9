use Rattle.std.proofs.Common.{◌≡◌, drop}
use Rattle.sql_cells.specs.Offers.{offer_all, view_names}
use Rattle.sql_cells.proofs.offers.offer_views.Given as goal

abbrev pub invariant-loop-view : goal.invariant-loop-view
invariant-loop-view l =
    offer_all l.word l.offered.items (view_names (drop l.view-index l.views))
    ≡ offer_all l.word l.fn.offered.items (view_names l.views)
