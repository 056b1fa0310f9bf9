use Rattle.std.proofs.Common.{sym, ◌∙◌}
use Rattle.std.proofs.lemmas.Result.{err_from_is_err_and}
use Rattle.arith_syntax.proofs.CutLemmas.{cut_ended, cut_fault, cut_whole, cutting_more, cutting_none}
use Rattle.arith_syntax.proofs.CutLemmas.{cutting_reachable}
use Rattle.arith_syntax.proofs.cutting.cut_sentence.Goals as goal

pub loop-at-init : goal.loop-at-init
loop-at-init c = cutting_none c.args.text.now c.args.place c.args.tokens.now.items c.requires.none

pub next_token-requires-clause-reached : goal.next_token-requires-clause-reached
next_token-requires-clause-reached c =
    cutting_reachable c.args.text.now c.args.place c.loop-at.at c.loop-at.tokens.items c.loop-at.invariant
    c.requires.reached

pub returns-in_err-next : goal.returns-in_err-next
returns-in_err-next c =
    let p = err_from_is_err_and c.from_residual.result c.from_residual.ensures.1 in
    rw (p.1, p.2) (cut_fault c.args.text.now c.args.place c.loop-at.at c.loop-at.tokens.items _ c.loop-at.invariant
    c.in_err-next.ensures)

pub returns-then-is_semicolon : goal.returns-then-is_semicolon
returns-then-is_semicolon c =
    cut_ended c.args.text.now c.args.place c.loop-at.at c.loop-at.tokens.items c.in_ok-next.next c.requires.reached
    c.loop-at.invariant c.in_ok-next.ensures (sym c.is_semicolon.ensures ∙ c.if-is_semicolon.true)

pub loop-at-preserved : goal.loop-at-preserved
loop-at-preserved c =
    rw c.in_ok-push.ensures.items
    (cutting_more c.args.text.now c.args.place c.loop-at.at c.loop-at.tokens.items c.in_ok-next.next
    c.loop-at.invariant c.in_ok-next.ensures (sym c.is_semicolon.ensures ∙ c.if-is_semicolon.false))

pub returns : goal.returns
returns c =
    cut_whole c.args.text.now c.args.place c.loop-at.at c.loop-at.tokens.items c.utf8.text c.requires.reached
    c.loop-at.invariant c.loop-at-test.false
