use Rattle.arith_syntax.proofs.parser.Parser.ends_with_name.Goals as goal

pub returns : goal.returns
returns c = c.are_a_name.ensures c.args.text.now
