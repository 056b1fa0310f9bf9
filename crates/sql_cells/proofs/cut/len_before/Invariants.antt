use Rattle.std.proofs.Common.{◌≡◌, ◌+◌, ◌-◌, ◌≤◌, length, drop}
use Rattle.std.specs.List.{prefix_len}
use Rattle.sql_cells.specs.Parts.{is_other}
use Rattle.sql_cells.proofs.cut.len_before.Given as goal

abbrev pub invariant-loop-len : goal.invariant-loop-len
invariant-loop-len l =
    (l.len + prefix_len (is_other l.octet) (drop l.len l.text) ≡ prefix_len (is_other l.octet) l.text)
    × (l.len ≤ length l.text)

abbrev pub decreases-loop-len : goal.decreases-loop-len
decreases-loop-len l = length l.text - l.len
