use Rattle.arith_syntax.specs.Lexed.{IsRun}
use Rattle.arith_syntax.specs.Parts.{trees_of}
use Rattle.arith_syntax.specs.Tokens.{IsWhite}
use Rattle.arith_syntax.proofs.SentenceLemmas.{progress_all, progress_none}
use Rattle.arith_syntax.proofs.reading.read_cell.Goals as goal

pub loop-place-init : goal.loop-place-init
loop-place-init c =
    let run : IsRun IsWhite c.args.text.now c.white_size-place.result =
    rw c.as_bytes.ensures.value at c.white_size-place.ensures in
    rw c.new-trees.ensures (progress_none c.args.text.now c.white_size-place.result c.utf8.text run)

pub returns : goal.returns
returns c =
    progress_all c.args.text.now c.loop-place.place (trees_of c.args.text.now c.loop-place.trees) c.utf8.text
    c.loop-place.invariant c.loop-place-test.false
