use Rattle.arith_cells.proofs.LinesLemmas.{not_underway, line_more, line_last}
use Rattle.arith_cells.proofs.PrintedLemmas.{on_success}
use Rattle.arith_cells.proofs.lines.run_lines.Goals as goal

pub lines-init : goal.lines-init
lines-init g c = not_underway _ _ _ _

pub lines-preserved : goal.lines-preserved
lines-preserved g c =
    line_more _ c.in_ok-run_line.field-0 _ _ _ _ _ _ _ _ _ c.lines.invariant c.in_ok-run_line.ensures
    (cc c.if-not-branch.false)

pub returns-then-not-branch : goal.returns-then-not-branch
returns-then-not-branch g c =
    on_success c.flush.result _
    (line_last _ c.in_ok-run_line.field-0 _ _ _ _ _ _ _ _ _ _ c.lines.invariant c.in_ok-run_line.ensures
    (cc c.if-not-branch.true) c.flush.ensures.bytes)
