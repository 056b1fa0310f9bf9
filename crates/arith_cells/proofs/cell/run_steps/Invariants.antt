use Rattle.arith_cells.proofs.StepsLemmas.{IsBegun}
use Rattle.arith_cells.proofs.cell.run_steps.Given as goal

abbrev pub decreases-steps : goal.decreases-steps
decreases-steps g l = g.I.Interpreter.meaning.steps l.cell

abbrev pub invariant-steps : goal.invariant-steps
invariant-steps g l =
    IsBegun g.I.Interpreter.meaning l.initial.interpreter l.initial.cell (g.W.Write.contents l.initial.writer)
    (g.W.Write.contents l.writer) l.interpreter l.cell
