use Rattle.std.proofs.Common.{◌≡◌, ◌+◌, drop}
use Rattle.sqlite_syntax.specs.Lex.{comment_len}
use Rattle.sql_cells.proofs.gaps.comment_len.Given as goal

abbrev pub invariant-loop-at : goal.invariant-loop-at
invariant-loop-at l = l.at + comment_len (drop l.at l.text) ≡ comment_len l.text
