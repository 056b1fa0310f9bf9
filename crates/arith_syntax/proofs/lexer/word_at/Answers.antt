use Rattle.std.proofs.Common.{ap, ◌∙◌, drop}
use Rattle.std.specs.List.{take_while}
use Rattle.arith_syntax.specs.Parts.{is_word_character}
use Rattle.arith_syntax.proofs.NamedLemmas.{run_taken, word_utf8}
use Rattle.arith_syntax.proofs.lexer.word_at.Goals as goal

pub unreachable-requires : goal.unreachable-requires
unreachable-requires c =
    c.in-Err.ensures.cases.0 (word_utf8 c.behind-rest.result.now c.word_size.result c.word_size.ensures)

pub returns : goal.returns
returns c =
    c.in-Ok.ensures.cases.0 ∙ run_taken c.behind-rest.result.now c.word_size.result c.word_size.ensures
    ∙ ap (take_while is_word_character) (c.behind-rest.ensures ∙ ap (drop c.args.place) c.as_bytes.ensures.value)
