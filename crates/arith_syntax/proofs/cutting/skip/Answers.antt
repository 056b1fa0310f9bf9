use Rattle.std.proofs.lemmas.Result.{err_from_is_err_and}
use Rattle.arith_syntax.proofs.CutLemmas.{skip_fault, skipped_all, skipped_more, skipped_none, skipped_reachable}
use Rattle.arith_syntax.proofs.cutting.skip.Goals as goal

pub loop-reached-init : goal.loop-reached-init
loop-reached-init c = skipped_none c.args.text.now c.args.place

pub next_token-requires-clause-reached : goal.next_token-requires-clause-reached
next_token-requires-clause-reached c =
    skipped_reachable c.args.text.now c.args.place c.loop-reached.reached c.loop-reached.invariant c.requires

pub returns-in_err-next : goal.returns-in_err-next
returns-in_err-next c =
    let p = err_from_is_err_and c.from_residual.result c.from_residual.ensures.1 in
    rw (p.1, p.2) (skip_fault c.args.text.now c.args.place c.loop-reached.reached _ c.loop-reached.invariant
    c.in_err-next.ensures)

pub loop-reached-preserved : goal.loop-reached-preserved
loop-reached-preserved c =
    skipped_more c.args.text.now c.args.place c.loop-reached.reached c.in_ok-next.next c.loop-reached.invariant
    c.in_ok-next.ensures

pub returns : goal.returns
returns c =
    skipped_all c.args.text.now c.args.place c.loop-reached.reached c.utf8.text c.loop-reached.invariant
    c.loop-reached-test.false
