use Rattle.std.proofs.Common.{◌≡◌, ◌+◌, ◌≤◌, drop}
use Rattle.std.specs.Prelude.{nat_lt, if◌then◌else◌}
use Rattle.sql_cells.specs.Words.{word_start}
use Rattle.sql_cells.proofs.words.word_start.Given as goal

abbrev pub invariant-loop-at : goal.invariant-loop-at
invariant-loop-at l =
    ((if nat_lt 0 (word_start (drop l.at l.text)) then l.at + word_start (drop l.at l.text) else l.start)
    ≡ word_start l.text) × (l.start ≤ l.at)
