use Rattle.std.proofs.Common.{◌∙◌, drop}
use Rattle.std.proofs.lemmas.List.{take_rest}
use Rattle.arith_syntax.specs.Lexed.{ReadsNumber}
use Rattle.arith_syntax.proofs.ConstantLemmas.{octal_read}
use Rattle.arith_syntax.proofs.constant.behind_zero.Goals as goal

pub returns-then-mark-ne88 : goal.returns-then-mark-ne88
returns-then-mark-ne88 c =
    let reads : ReadsNumber 8 (drop 1 c.args.word.now) c.number.result = rw take_rest at c.number.ensures in
    octal_read c.args.word.now c.number.result c.requires
    (λ is. c.if-mark-ne120.true (c.octet_at-mark.ensures ∙ is))
    (λ is. c.if-mark-ne88.true (c.octet_at-mark.ensures ∙ is)) reads
