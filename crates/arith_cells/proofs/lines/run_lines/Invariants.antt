use Rattle.std.specs.Prelude.{IfSome}
use Rattle.arith_cells.proofs.LinesLemmas.{IsUnderway}
use Rattle.arith_cells.proofs.lines.run_lines.Given as goal

abbrev pub invariant-lines : goal.invariant-lines
invariant-lines g l =
    IfSome (g.R.Read.remaining l.initial.reader)
    (λ input. IsUnderway g.I.Interpreter.meaning l.initial.interpreter input (g.W.Write.contents l.initial.writer)
    (g.W.Write.contents l.writer) l.interpreter (g.R.Read.remaining l.reader))
