use Rattle.kernel_engine.specs.Growth.{PutsUnder}
use Rattle.kernel_engine.proofs.CellLemmas.{text_refused}
use Rattle.kernel_engine.proofs.GrowthLemmas.{puts_none}
use Rattle.kernel_engine.proofs.cell.run_text.Goals as goal

pub returns-in-Err : goal.returns-in-Err
returns-in-Err g c =
    text_refused g.I.Interpreter.meaning c.args.interp.now c.args.code.now c.in-Err.fault c.begin.new.self
    (g.T.Stop.may_ask c.args.stop.now)
    (PutsUnder g.P.Publish.sink g.S.Stamp.stamp c.args.block.now.heading
    c.args.publishing.now c.args.publishing.now)
    c.args.block.now.silent c.in-Err.ensures.answered c.in-Err.ensures.refused
    (puts_none g.P.Publish.sink g.S.Stamp.stamp c.args.block.now.heading
    g.met.P.Publish.laws.same_itself c.args.publishing.now)
