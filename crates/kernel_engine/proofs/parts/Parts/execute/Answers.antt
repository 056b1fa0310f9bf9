use Rattle.std.proofs.lemmas.Result.{err_from_is_err_and}
use Rattle.kernel_engine.specs.Growth.{PutsUnder}
use Rattle.kernel_engine.proofs.ExecuteLemmas.{executed_cut, executed_fault, executed_values}
use Rattle.kernel_engine.proofs.parts.Parts.execute.Goals as goal

pub returns-in_default-clause-ran : goal.returns-in_default-clause-ran
returns-in_default-clause-ran g c =
    executed_cut g.I.Interpreter.meaning c.args.code c.args.expressions c.args.self.now.count c.args.self.now.interp
    (g.T.Stop.may_ask c.args.stop.now)
    (PutsUnder g.P.Publish.sink g.S.Stamp.stamp c.args.block.now.heading
    c.args.self.now.publishing c.run_cell-failure.new.self.publishing)
    c.args.block.now.silent _ (rw c.as_str.ensures at c.in_default.ensures.ran)

pub returns-in_err-values-in-None-clause-ran : goal.returns-in_err-values-in-None-clause-ran
returns-in_err-values-in-None-clause-ran g c =
    let p = err_from_is_err_and c.from_residual.result c.from_residual.ensures.1 in
    rw (p.1) (executed_values g.I.Interpreter.meaning c.args.code c.args.expressions c.args.self.now.count
    c.args.self.now.interp (g.T.Stop.may_ask c.args.stop.now)
    (PutsUnder g.P.Publish.sink g.S.Stamp.stamp c.args.block.now.heading
    c.args.self.now.publishing c.run_cell-failure.new.self.publishing)
    c.args.block.now.silent c.run_cell-failure.new.self.interp _ c.in-Ok.failure c.in-None.is
    (rw c.as_str.ensures at c.in-Ok.ensures.ran) c.in_err-values-in-None.ensures)

pub returns-in-Some-clause-ran : goal.returns-in-Some-clause-ran
returns-in-Some-clause-ran g c =
    executed_fault g.I.Interpreter.meaning c.args.code c.args.expressions c.args.self.now.count c.args.self.now.interp
    (g.T.Stop.may_ask c.args.stop.now)
    (PutsUnder g.P.Publish.sink g.S.Stamp.stamp c.args.block.now.heading
    c.args.self.now.publishing c.run_cell-failure.new.self.publishing)
    c.args.block.now.silent c.run_cell-failure.new.self.interp c.in-Some.fault c.in-Ok.failure c.tell_failure.result
    c.in-Some.is
    c.tell_failure.ensures (rw c.as_str.ensures at c.in-Ok.ensures.ran)
