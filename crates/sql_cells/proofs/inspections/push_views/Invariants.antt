use Rattle.std.proofs.Common.{◌≡◌, ◌++◌, drop}
use Rattle.std.specs.List.{flat_map}
use Rattle.sql_cells.specs.Inspections.{view_words}
use Rattle.sql_cells.proofs.inspections.push_views.Given as goal

abbrev pub invariant-loop-view : goal.invariant-loop-view
invariant-loop-view l =
    l.words.items ++ flat_map (view_words l.name) (drop l.view-index l.views)
    ≡ l.fn.words.items ++ flat_map (view_words l.name) l.views
