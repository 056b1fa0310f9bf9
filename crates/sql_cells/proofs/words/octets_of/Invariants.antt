use Rattle.std.proofs.Common.{◌≡◌, ◌+◌, drop}
use Rattle.sql_cells.specs.Words.{octets_of}
use Rattle.sql_cells.proofs.words.octets_of.Given as goal

abbrev pub invariant-loop-at : goal.invariant-loop-at
invariant-loop-at l = l.at + octets_of l.left (drop l.at l.text) ≡ octets_of l.characters l.text
