use Rattle.std.proofs.Common.{length, ◌-◌, ◌≤◌, take}
use Rattle.std.specs.List.{All}
use Rattle.arith_syntax.specs.Tokens.{IsWordCharacter}
use Rattle.arith_syntax.proofs.lexer.word_size.Given as goal

abbrev pub invariant-loop-size : goal.invariant-loop-size
invariant-loop-size l = (l.size ≤ length l.text) × All IsWordCharacter (take l.size l.text)

abbrev pub decreases-loop-size : goal.decreases-loop-size
decreases-loop-size l = length l.text - l.size
