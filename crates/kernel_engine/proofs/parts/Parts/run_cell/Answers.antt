use Rattle.std.proofs.lemmas.Result.{err_from_is_err_and}
use Rattle.kernel_engine.specs.Course.{TextRuns}
use Rattle.kernel_engine.specs.Growth.{PutsUnder}
use Rattle.kernel_engine.proofs.GrowthLemmas.{puts_told}
use Rattle.kernel_engine.proofs.TellLemmas.{cut_before_last, tells_nothing, tells_cut, tells_last}
use Rattle.kernel_engine.proofs.parts.Parts.run_cell.Goals as goal

pub returns-in_err-put_input-clause-ran : goal.returns-in_err-put_input-clause-ran
returns-in_err-put_input-clause-ran g c =
    let p = err_from_is_err_and c.from_residual.result c.from_residual.ensures.1 in
    rw (p.1) (tells_nothing g.I.Interpreter.meaning c.args.self.now.interp c.args.code.now c.args.self.now.count
    (PutsUnder g.P.Publish.sink g.S.Stamp.stamp c.args.block.now.heading
    c.args.self.now.publishing c.put_input.new.publishing)
    c.args.block.now.silent (g.T.Stop.may_ask c.args.stop.now) c.in_err-put_input.ensures)

pub returns-in_err-outcome-clause-ran : goal.returns-in_err-outcome-clause-ran
returns-in_err-outcome-clause-ran g c =
    let p = err_from_is_err_and c.from_residual-in_err-outcome.result
    c.from_residual-in_err-outcome.ensures.1 in
    let puts = PutsUnder g.P.Publish.sink g.S.Stamp.stamp c.args.block.now.heading in
    rw (p.1) (tells_cut (TextRuns g.I.Interpreter.meaning c.args.self.now.interp c.args.code.now)
    (g.T.Stop.may_ask c.args.stop.now) c.args.code.now c.args.self.now.count c.run_text.new.interp
    (puts c.args.self.now.publishing c.put_input.new.publishing)
    (puts c.put_input.new.publishing c.run_text.new.publishing)
    (puts c.args.self.now.publishing c.run_text.new.publishing) c.args.block.now.silent
    (puts_told g.P.Publish.sink g.S.Stamp.stamp c.args.block.now.heading
    g.met.P.Publish.laws.same_on c.args.block.now.silent c.args.self.now.publishing c.put_input.new.publishing
    c.run_text.new.publishing)
    c.in_ok-put_input.ensures c.in_err-outcome.ensures (λ publications rest. cut_before_last g.I.Interpreter.meaning
    c.args.self.now.interp c.args.code.now (g.T.Stop.may_ask c.args.stop.now) c.args.self.now.count _ _ _ _
    publications rest
    c.in_err-outcome.ensures.runs))

pub returns-clause-ran : goal.returns-clause-ran
returns-clause-ran g c =
    let puts = PutsUnder g.P.Publish.sink g.S.Stamp.stamp c.args.block.now.heading in
    tells_last (TextRuns g.I.Interpreter.meaning c.args.self.now.interp c.args.code.now)
    (g.T.Stop.may_ask c.args.stop.now) c.args.code.now c.args.self.now.count c.run_text.new.interp
    (puts c.args.self.now.publishing c.put_input.new.publishing)
    (puts c.put_input.new.publishing c.run_text.new.publishing)
    (puts c.args.self.now.publishing c.run_text.new.publishing) c.args.block.now.silent
    (puts_told g.P.Publish.sink g.S.Stamp.stamp c.args.block.now.heading
    g.met.P.Publish.laws.same_on c.args.block.now.silent c.args.self.now.publishing c.put_input.new.publishing
    c.run_text.new.publishing)
    (puts c.run_text.new.publishing c.put_last.new.publishing)
    (puts c.args.self.now.publishing c.put_last.new.publishing)
    (puts_told g.P.Publish.sink g.S.Stamp.stamp c.args.block.now.heading
    g.met.P.Publish.laws.same_on c.args.block.now.silent c.args.self.now.publishing c.run_text.new.publishing
    c.put_last.new.publishing)
    c.in_ok-outcome.outcome c.put_last.result c.in_ok-put_input.ensures c.in_ok-outcome.ensures c.put_last.ensures
