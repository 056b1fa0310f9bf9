use Rattle.std.proofs.lemmas.Result.{err_from_is_err_and}
use Rattle.kernel_engine.specs.Growth.{PutsUnder}
use Rattle.kernel_engine.proofs.CellLemmas.{stopped_whole, step_whole, step_cut}
use Rattle.kernel_engine.proofs.GrowthLemmas.{puts_none}
use Rattle.kernel_engine.proofs.cell.run_one.Goals as goal

pub returns-then-asked-clause-ran : goal.returns-then-asked-clause-ran
returns-then-asked-clause-ran g c =
    stopped_whole g.I.Interpreter.meaning c.args.interp.now c.args.cell.now (g.T.Stop.may_ask c.args.stop.now)
    (PutsUnder g.P.Publish.sink g.S.Stamp.stamp c.args.block.now.heading
    c.args.publishing.now c.args.publishing.now)
    c.args.block.now.silent c.requires (c.asked.ensures c.if-asked.true)
    (puts_none g.P.Publish.sink g.S.Stamp.stamp c.args.block.now.heading
    g.met.P.Publish.laws.same_itself c.args.publishing.now)

pub returns-in_err-put_outputs-clause-ran : goal.returns-in_err-put_outputs-clause-ran
returns-in_err-put_outputs-clause-ran g c =
    let p = err_from_is_err_and c.from_residual.result c.from_residual.ensures.1 in
    rw (p.1) (step_cut g.I.Interpreter.meaning c.args.interp.now c.args.cell.now (g.T.Stop.may_ask c.args.stop.now)
    c.step-outputs.result.outputs c.step-outputs.new.self c.step-outputs.new.cell
    (PutsUnder g.P.Publish.sink g.S.Stamp.stamp c.args.block.now.heading
    c.args.publishing.now c.put_outputs.new.self)
    c.args.block.now.silent c.step-outputs.result.next c.requires c.step-outputs.ensures.stepped
    c.step-outputs.ensures.ended
    c.in_err-put_outputs.ensures)

pub returns-clause-ran : goal.returns-clause-ran
returns-clause-ran g c =
    step_whole g.I.Interpreter.meaning c.args.interp.now c.args.cell.now (g.T.Stop.may_ask c.args.stop.now)
    c.step-outputs.result.outputs c.step-outputs.new.self c.step-outputs.new.cell
    (PutsUnder g.P.Publish.sink g.S.Stamp.stamp c.args.block.now.heading
    c.args.publishing.now c.put_outputs.new.self)
    c.args.block.now.silent c.step-outputs.result.next c.outcome_of.result c.requires c.step-outputs.ensures.stepped
    c.outcome_of.ensures c.in_ok-put_outputs.ensures
