use Rattle.std.proofs.Common.{sym, ◌∙◌}
use Rattle.kernel_program.proofs.CodeLemmas.{is_silent, is_unbegun, says_begin, says_done, says_file, says_input}
use Rattle.kernel_program.proofs.CodeLemmas.{says_one, says_port, says_words}
use Rattle.kernel_program.proofs.program.run.Goals as goal

pub returns-clause-done : goal.returns-clause-done
returns-clause-done g c is =
    says_done g.L.Interp.Interpreter.meaning (g.L.Language.profile c.args.language.now) c.args.words.now
    (g.R.Read.remaining c.args.reader.now) (g.R.Read.remaining c.carry_out-status.new.reader)
    (g.W.Write.contents c.args.writer.now) (g.W.Write.contents c.carry_out-status.new.writer)
    c.carry_out-status.result c.carry_out-status.ensures.ends (sym c.told.ensures ∙ is)

pub returns-clause-words : goal.returns-clause-words
returns-clause-words g c is = (
  says_words g.L.Interp.Interpreter.meaning (g.L.Language.profile c.args.language.now) c.args.words.now
      (g.R.Read.remaining c.args.reader.now) (g.R.Read.remaining c.carry_out-status.new.reader)
      (g.W.Write.contents c.args.writer.now) (g.W.Write.contents c.carry_out-status.new.writer)
      c.carry_out-status.result c.carry_out-status.ensures.ends (sym c.told.ensures ∙ is),
  c.carry_out-status.ensures.silent (is_silent c.carry_out-status.result
      (λ none. let e = sym none ∙ (sym c.told.ensures ∙ is) in cc) (λ one. let e = sym one ∙ (sym c.told.ensures ∙ is) in cc)),
)

pub returns-clause-file : goal.returns-clause-file
returns-clause-file g c is = (
  says_file g.L.Interp.Interpreter.meaning (g.L.Language.profile c.args.language.now) c.args.words.now
      (g.R.Read.remaining c.args.reader.now) (g.R.Read.remaining c.carry_out-status.new.reader)
      (g.W.Write.contents c.args.writer.now) (g.W.Write.contents c.carry_out-status.new.writer)
      c.carry_out-status.result c.carry_out-status.ensures.ends (sym c.told.ensures ∙ is),
  c.carry_out-status.ensures.silent (is_silent c.carry_out-status.result
      (λ none. let e = sym none ∙ (sym c.told.ensures ∙ is) in cc) (λ one. let e = sym one ∙ (sym c.told.ensures ∙ is) in cc)),
)

pub returns-clause-port : goal.returns-clause-port
returns-clause-port g c is = (
  says_port g.L.Interp.Interpreter.meaning (g.L.Language.profile c.args.language.now) c.args.words.now
      (g.R.Read.remaining c.args.reader.now) (g.R.Read.remaining c.carry_out-status.new.reader)
      (g.W.Write.contents c.args.writer.now) (g.W.Write.contents c.carry_out-status.new.writer)
      c.carry_out-status.result c.carry_out-status.ensures.ends (sym c.told.ensures ∙ is),
  c.carry_out-status.ensures.silent (is_silent c.carry_out-status.result
      (λ none. let e = sym none ∙ (sym c.told.ensures ∙ is) in cc) (λ one. let e = sym one ∙ (sym c.told.ensures ∙ is) in cc)),
)

pub returns-clause-input : goal.returns-clause-input
returns-clause-input g c is = (
  says_input g.L.Interp.Interpreter.meaning (g.L.Language.profile c.args.language.now) c.args.words.now
      (g.R.Read.remaining c.args.reader.now) (g.R.Read.remaining c.carry_out-status.new.reader)
      (g.W.Write.contents c.args.writer.now) (g.W.Write.contents c.carry_out-status.new.writer)
      c.carry_out-status.result c.carry_out-status.ensures.ends (sym c.told.ensures ∙ is),
  c.carry_out-status.ensures.silent (is_silent c.carry_out-status.result
      (λ none. let e = sym none ∙ (sym c.told.ensures ∙ is) in cc) (λ one. let e = sym one ∙ (sym c.told.ensures ∙ is) in cc)),
)

pub returns-clause-begin : goal.returns-clause-begin
returns-clause-begin g c is = (
  says_begin g.L.Interp.Interpreter.meaning (g.L.Language.profile c.args.language.now) c.args.words.now
      (g.R.Read.remaining c.args.reader.now) (g.R.Read.remaining c.carry_out-status.new.reader)
      (g.W.Write.contents c.args.writer.now) (g.W.Write.contents c.carry_out-status.new.writer)
      c.carry_out-status.result c.carry_out-status.ensures.ends (sym c.told.ensures ∙ is),
  c.carry_out-status.ensures.unread (is_unbegun c.carry_out-status.result (sym c.told.ensures ∙ is)),
  c.carry_out-status.ensures.silent (is_silent c.carry_out-status.result
      (λ none. let e = sym none ∙ (sym c.told.ensures ∙ is) in cc) (λ one. let e = sym one ∙ (sym c.told.ensures ∙ is) in cc)),
)

pub returns-clause-status : goal.returns-clause-status
returns-clause-status g c =
    rw c.told.ensures (says_one g.L.Interp.Interpreter.meaning (g.L.Language.profile c.args.language.now) c.args.words.now
    (g.R.Read.remaining c.args.reader.now) (g.R.Read.remaining c.carry_out-status.new.reader)
    (g.W.Write.contents c.args.writer.now) (g.W.Write.contents c.carry_out-status.new.writer)
    c.carry_out-status.result c.carry_out-status.ensures.ends)
