use Rattle.std.proofs.Common.{string_bytes}
use Rattle.std.specs.Str.{chars}
use Rattle.arith_shell.proofs.CursorLemmas.{ReadsAround}
use Rattle.arith_shell.proofs.cursor.word_around.Given as goal

abbrev pub invariant-loop-c : goal.invariant-loop-c
invariant-loop-c l = ReadsAround (chars l.text) l.cursor l.yielded (string_bytes l.word) l.left
