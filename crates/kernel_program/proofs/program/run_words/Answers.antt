use Rattle.std.proofs.Common.{rules, subst, List, String, Global, map, string_bytes}
use Rattle.kernel_words.specs.Words.{IsOrdered}
use Rattle.kernel_program.proofs.OrderLemmas.{ends_by_order}
use Rattle.kernel_program.proofs.program.run_words.Goals as goal

pub returns-in-Ok-clause-ends : goal.returns-in-Ok-clause-ends
returns-in-Ok-clause-ends g c =
    ends_by_order g.L.Interp.Interpreter.meaning (g.L.Language.profile c.args.language.now) c.args.words.now c.in-Ok.order
    (g.R.Read.remaining c.args.reader.now) (g.R.Read.remaining c.obey.new.reader)
    (g.W.Write.contents c.args.writer.now) (g.W.Write.contents c.obey.new.writer) c.obey.result
    (subst (λ (words : List (String Global)). IsOrdered (g.L.Language.profile c.args.language.now).name (map string_bytes words) c.in-Ok.order)
    (search rules) c.in-Ok.ensures.ordered) c.obey.ensures.obeys
