use Rattle.std.proofs.Common.{◌≡◌, ◌++◌, drop, flat_map}
use Rattle.sql_cells.specs.Inspections.{next_name}
use Rattle.sql_cells.proofs.inspections.push_next_names.Given as goal

abbrev pub invariant-loop-place : goal.invariant-loop-place
invariant-loop-place l =
    l.words.items ++ flat_map (next_name l.table) (drop l.place-index l.places)
    ≡ l.fn.words.items ++ flat_map (next_name l.table) l.places
