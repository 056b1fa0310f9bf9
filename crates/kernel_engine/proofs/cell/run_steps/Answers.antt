use Rattle.std.proofs.Common.{arith, ◌≡◌}
use Rattle.std.proofs.lemmas.Result.{err_from_is_err_and}
use Rattle.kernel_engine.specs.Growth.{PutsUnder}
use Rattle.kernel_engine.proofs.CellLemmas.{none_underway, done_whole, underway_on, whole_on, cut_on}
use Rattle.kernel_engine.proofs.GrowthLemmas.{puts_none, puts_told}
use Rattle.kernel_engine.proofs.cell.run_steps.Goals as goal

pub steps-init : goal.steps-init
steps-init g c =
    none_underway g.I.Interpreter.meaning c.args.interp.now c.args.cell
    (PutsUnder g.P.Publish.sink g.S.Stamp.stamp c.args.block.now.heading
    c.args.publishing.now c.args.publishing.now)
    c.args.block.now.silent
    (puts_none g.P.Publish.sink g.S.Stamp.stamp c.args.block.now.heading
    g.met.P.Publish.laws.same_itself c.args.publishing.now)

pub returns-in_err-ended : goal.returns-in_err-ended
returns-in_err-ended g c =
    let p = err_from_is_err_and c.from_residual.result c.from_residual.ensures.1 in
    let puts = PutsUnder g.P.Publish.sink g.S.Stamp.stamp c.args.block.now.heading in
    rw (p.1) (cut_on g.I.Interpreter.meaning c.args.interp.now c.args.cell c.steps.interp c.steps.cell
    c.run_one.new.interp c.run_one.new.cell (puts c.args.publishing.now c.steps.publishing)
    (puts c.steps.publishing c.run_one.new.publishing) (puts c.args.publishing.now c.run_one.new.publishing)
    c.args.block.now.silent
    (puts_told g.P.Publish.sink g.S.Stamp.stamp c.args.block.now.heading
    g.met.P.Publish.laws.same_on c.args.block.now.silent c.args.publishing.now c.steps.publishing
    c.run_one.new.publishing)
    c.steps.invariant c.in_err-ended.ensures.ran)

pub returns-in-Some : goal.returns-in-Some
returns-in-Some g c =
    let puts = PutsUnder g.P.Publish.sink g.S.Stamp.stamp c.args.block.now.heading in
    let ran = rw (c.in-Some.is) at (c.in_ok-ended.ensures.ran) in
    whole_on g.I.Interpreter.meaning c.args.interp.now c.args.cell c.steps.interp c.steps.cell
    c.run_one.new.interp c.run_one.new.cell (puts c.args.publishing.now c.steps.publishing)
    (puts c.steps.publishing c.run_one.new.publishing) (puts c.args.publishing.now c.run_one.new.publishing)
    c.args.block.now.silent
    (puts_told g.P.Publish.sink g.S.Stamp.stamp c.args.block.now.heading
    g.met.P.Publish.laws.same_on c.args.block.now.silent c.args.publishing.now c.steps.publishing
    c.run_one.new.publishing)
    (g.T.Stop.may_ask c.args.stop.now) c.in-Some.outcome c.steps.invariant ran

pub steps-preserved : goal.steps-preserved
steps-preserved g c =
    let puts = PutsUnder g.P.Publish.sink g.S.Stamp.stamp c.args.block.now.heading in
    let ran = rw (c.in-None.is) at (c.in_ok-ended.ensures.ran) in
    underway_on g.I.Interpreter.meaning c.args.interp.now c.args.cell c.steps.interp c.steps.cell
    c.run_one.new.interp c.run_one.new.cell (puts c.args.publishing.now c.steps.publishing)
    (puts c.steps.publishing c.run_one.new.publishing) (puts c.args.publishing.now c.run_one.new.publishing)
    c.args.block.now.silent
    (puts_told g.P.Publish.sink g.S.Stamp.stamp c.args.block.now.heading
    g.met.P.Publish.laws.same_on c.args.block.now.silent c.args.publishing.now c.steps.publishing
    c.run_one.new.publishing)
    c.steps.invariant ran

pub returns : goal.returns
returns g c =
    let none : g.I.Interpreter.meaning.steps c.steps.cell ≡ 0 = let left = c.steps_left.ensures in
    let test = c.steps-test.false in omega (arith, left, test) in
    done_whole g.I.Interpreter.meaning c.args.interp.now c.args.cell c.steps.interp c.steps.cell
    (g.T.Stop.may_ask c.args.stop.now)
    (PutsUnder g.P.Publish.sink g.S.Stamp.stamp c.args.block.now.heading
    c.args.publishing.now c.steps.publishing)
    c.args.block.now.silent none c.steps.invariant
