use Rattle.std.specs.List.{All}
use Rattle.arith_syntax.specs.Parts.{IsNamed, tree_of}
use Rattle.arith_syntax.proofs.NamedLemmas.{named_tokens}
use Rattle.arith_syntax.proofs.TextLemmas.{statement_means}
use Rattle.arith_syntax.proofs.reading.read_statement.Goals as goal

pub statement-requires : goal.statement-requires
statement-requires c =
    let named : All (IsNamed c.args.text.now) c.as_slice.result.now =
    rw c.as_slice.ensures.value (named_tokens c.args.text.now _ c.utf8.text c.in_ok-placed.ensures) in
    named

pub returns : goal.returns
returns c =
    statement_means (tree_of c.args.text.now) _ _ _ c.utf8.text c.as_slice.ensures.value c.in_ok-placed.ensures _
    c.statement.ensures
