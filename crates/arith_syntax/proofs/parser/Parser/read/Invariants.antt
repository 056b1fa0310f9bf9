use Rattle.std.proofs.Common.{◌≡◌, take, Some}
use Rattle.arith_syntax.specs.Machine.{run, start, state_of}
use Rattle.arith_syntax.specs.Reading.{tokens_of}
use Rattle.arith_syntax.proofs.parser.Parser.read.Given as goal

abbrev pub invariant-loop-placed : goal.invariant-loop-placed
invariant-loop-placed l = run (Some start) (tokens_of (take l.placed-index l.tokens)) ≡ Some (state_of l.text l.self)
