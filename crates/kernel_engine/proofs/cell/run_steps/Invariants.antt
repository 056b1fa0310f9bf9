-- What holds between two steps.
use Rattle.kernel_engine.specs.Growth.{PutsUnder}
use Rattle.kernel_engine.specs.Runs.{Underway}
use Rattle.kernel_engine.proofs.cell.run_steps.Given as goal

abbrev pub invariant-steps : goal.invariant-steps
invariant-steps g l =
    Underway g.I.Interpreter.meaning l.fn.interp l.fn.cell l.interp l.cell
    (PutsUnder g.P.Publish.sink g.S.Stamp.stamp l.fn.block.heading l.fn.publishing
    l.publishing) l.fn.block.silent

abbrev pub decreases-steps : goal.decreases-steps
decreases-steps g l = g.I.Interpreter.meaning.steps l.cell
