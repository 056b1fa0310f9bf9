use Rattle.std.proofs.Common.{length, ◌-◌}
use Rattle.arith_syntax.specs.Lexed.{IsReached}
use Rattle.arith_syntax.proofs.lexer.tokens.Given as goal

abbrev pub invariant-loop-place : goal.invariant-loop-place
invariant-loop-place l = IsReached l.text l.found.items l.place

abbrev pub decreases-loop-place : goal.decreases-loop-place
decreases-loop-place l = length l.text - l.place
