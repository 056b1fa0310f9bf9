use Rattle.std.proofs.Common.{◌≡◌, ◌≤◌, length}
use Rattle.sql_cells.specs.Parts.{past_gaps}
use Rattle.sql_cells.proofs.gaps.past_gaps.Given as goal

abbrev pub invariant-gaps : goal.invariant-gaps
invariant-gaps l = (past_gaps l.rest ≡ past_gaps l.text) × (length l.rest ≤ length l.text)

abbrev pub decreases-gaps : goal.decreases-gaps
decreases-gaps l = length l.rest
