-- What follows from the definitions.
use Rattle.std.specs.Prelude.{◌≡◌, ◌≤◌, List, ◌∷◌, ◌++◌, length}
use Rattle.iopub_queue.specs.Entries.{Entry, StartsWith, Agree, part_of, StandsBehind}

-- an entry was taken, and a front is a beginning of what was taken before it
pub record IsTakenBehind {T : Type 0} (taken : List (Entry T)) (entry : Entry T) (front : List (Entry T)) : Type 0 where
  pub before : List (Entry T)
  pub behind : List (Entry T)
  pub whole : taken ≡ before ++ entry ∷ behind
  pub starts : StartsWith before front

-- The order of what was told is kept in what is taken. Say that what was told and what was taken agree. An entry was
-- told last in a beginning of it, after a front. If as many entries of its number were taken as stand in that
-- beginning, the entry was taken, after the front.
abbrev pub OrderIsKept : Type 0 → Type 0
OrderIsKept T = (whole told taken front : List (Entry T)) (entry : Entry T) → Agree whole taken → StartsWith whole told
    → StandsBehind told entry front → length (part_of entry.0 told) ≤ length (part_of entry.0 taken)
    → IsTakenBehind taken entry front
