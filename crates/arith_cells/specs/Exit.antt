-- The exit statuses of the program, and the lines for a person.
use Rattle.std.specs.Prelude.{ℕ, List, Option, Some, None, codes}
use Rattle.arith_cells.specs.declared.status.Status.{Status}
use Rattle.arith_cells.specs.declared.status.Status.TheVariants.{Done, Failed, WordsRefused}

-- the exit status of the program
abbrev pub exit_code : Status → ℕ
exit_code Done = 0
exit_code Failed = 1
exit_code WordsRefused = 2

-- the line for a person on standard error, if there is one
abbrev pub exit_line : Status → Option (List ℕ)
exit_line Done = None
exit_line Failed = Some (codes "arith_cells: failed")
exit_line WordsRefused = Some (codes "usage: arith_cells < CELLS")
