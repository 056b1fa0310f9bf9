use Rattle.std.proofs.lemmas.Result.{err_from_is_err_and}
use Rattle.arith_syntax.specs.Tokens.{IsWhite}
use Rattle.arith_syntax.specs.Lexed.{IsRun}
use Rattle.arith_syntax.proofs.CharsLemmas.{tokens_chars}
use Rattle.arith_syntax.proofs.CutLemmas.{lexes_fault}
use Rattle.arith_syntax.proofs.TokensReadLemmas.{reached_end, reached_first}
use Rattle.arith_syntax.proofs.lexer.tokens.Goals as goal

pub loop-place-init : goal.loop-place-init
loop-place-init c =
    let run : IsRun IsWhite c.args.text.now c.white_size-place.result =
    rw c.as_bytes.ensures.value at c.white_size-place.ensures in
    rw c.new-found.ensures.items (reached_first c.args.text.now c.white_size-place.result c.utf8.text run)

pub returns-in_err-next : goal.returns-in_err-next
returns-in_err-next c =
    let p = err_from_is_err_and c.from_residual.result c.from_residual.ensures.1 in
    rw (p.1, p.2) (lexes_fault c.args.text.now c.loop-place.place c.loop-place.found.items _ c.loop-place.invariant
    c.in_err-next.ensures)

pub returns : goal.returns
returns c =
    tokens_chars c.args.text.now c.loop-place.found.items c.utf8.text
    (reached_end c.args.text.now c.loop-place.found.items c.loop-place.place c.loop-place.invariant
    c.loop-place-test.false)
