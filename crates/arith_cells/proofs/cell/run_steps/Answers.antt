use Rattle.std.proofs.Common.{arith}
use Rattle.arith_cells.proofs.StepsLemmas.{not_begun, one_more, one_last, all_run}
use Rattle.arith_cells.proofs.cell.run_steps.Goals as goal

pub steps-init : goal.steps-init
steps-init g c = not_begun _ _ _ _

pub steps-preserved : goal.steps-preserved
steps-preserved g c =
    one_more _ _ _ _ _ _ _ _ _ _ c.step-stepped.result c.steps.invariant c.in_ok-printed.ensures.answered
    (cc (c.in_ok-printed.ensures.goes_on, c.if-not-branch.false)) _ c.step-stepped.ensures.stepped
    c.in_ok-printed.ensures.text

pub returns-then-not-branch : goal.returns-then-not-branch
returns-then-not-branch g c =
    one_last _ _ _ _ _ _ _ _ _ _ c.step-stepped.result c.steps.invariant c.in_ok-printed.ensures.answered
    (cc (c.in_ok-printed.ensures.goes_on, c.if-not-branch.true)) _ c.step-stepped.ensures.stepped
    c.in_ok-printed.ensures.text

pub returns : goal.returns
returns g c = all_run _ _ _ _ _ _ _ c.steps.invariant (omega (arith, c.steps_left.ensures, c.steps-test.false))
