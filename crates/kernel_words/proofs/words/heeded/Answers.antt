use Rattle.std.proofs.Common.{◌+◌, Some, None, map, string_bytes, ap, sym, ◌∙◌, take}
use Rattle.kernel_words.proofs.WordsLemmas.{heeded_of_serve}
use Rattle.kernel_words.proofs.words.heeded.Goals as goal

pub returns-in-Some : goal.returns-in-Some
returns-in-Some c =
    ap (map string_bytes) (c.up_to.ensures
    ∙ ap (λ count. take (c.in-Some.at + count) c.args.words.now) c.words_of_file.ensures)
    ∙ sym (heeded_of_serve c.args.words.now (Some c.in-Some.at) c.if-not-begins_with_serve.ensures c.in-Some.ensures)

pub returns-in-None : goal.returns-in-None
returns-in-None c =
    sym (heeded_of_serve c.args.words.now None c.if-not-begins_with_serve.ensures c.in-None.ensures)
