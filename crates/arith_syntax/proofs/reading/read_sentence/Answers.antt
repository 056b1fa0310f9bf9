use Rattle.std.proofs.Common.{List, subst}
use Rattle.std.proofs.lemmas.Result.{err_from_is_err_and}
use Rattle.arith_syntax.specs.declared.token.Placed.{Placed}
use Rattle.arith_syntax.specs.Parts.{trees_of}
use Rattle.arith_syntax.specs.Reading.{Adds, Fails, OrMemory, sentence_of}
use Rattle.arith_syntax.proofs.SentenceLemmas.{cut_reachable, cut_read, cut_told, wrong_read}
use Rattle.arith_syntax.proofs.reading.read_sentence.Goals as goal

pub returns-in_err-cut : goal.returns-in_err-cut
returns-in_err-cut c =
    let p = err_from_is_err_and c.from_residual.result c.from_residual.ensures.1 in
    rw (p.1, p.2) (wrong_read c.args.text.now c.args.place (trees_of c.args.text.now c.args.trees.now)
    (trees_of c.args.text.now c.args.trees.now) _ c.requires c.in_err-cut.ensures)

pub first_fault-requires : goal.first_fault-requires
first_fault-requires c =
    cut_reachable c.args.text.now c.args.place c.in_ok-cut.cut c.cut_sentence.new.tokens.items
    (trees_of c.args.text.now c.args.trees.now) c.requires c.in_ok-cut.ensures

pub returns-in-Ok : goal.returns-in-Ok
returns-in-Ok c =
    let old = trees_of c.args.text.now c.args.trees.now in
    let new = trees_of c.args.text.now c.add.new.trees in
    cut_read c.args.text.now c.args.place c.in_ok-cut.cut c.cut_sentence.new.tokens.items old new c.requires
    c.in_ok-cut.ensures
    (subst (λ (ts : List Placed). Adds (sentence_of ts c.in_ok-cut.cut.end) old new) c.as_slice.ensures.value
    c.in-Ok.ensures)

pub returns-in-Err : goal.returns-in-Err
returns-in-Err c =
    let old = trees_of c.args.text.now c.args.trees.now in
    cut_told c.args.text.now c.args.place c.in_ok-cut.cut c.cut_sentence.new.tokens.items old old c.in-Err.fault
    c.first_fault.result c.requires c.in_ok-cut.ensures
    (subst (λ (ts : List Placed). OrMemory (Fails (sentence_of ts c.in_ok-cut.cut.end)) c.in-Err.fault)
    c.as_slice.ensures.value c.in-Err.ensures)
    c.first_fault.ensures
