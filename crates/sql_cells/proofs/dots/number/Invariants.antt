use Rattle.std.proofs.Common.{◌≡◌, drop}
use Rattle.sql_cells.specs.Dots.{number_from}
use Rattle.sql_cells.proofs.dots.number.Given as goal

abbrev pub invariant-loop-octet : goal.invariant-loop-octet
invariant-loop-octet l = number_from l.number (drop l.octet-index l.word) ≡ number_from 0 l.word
