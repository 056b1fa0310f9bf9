use Rattle.std.proofs.Common.{◌≡◌, subst, sym}
use Rattle.kernel_words.specs.declared.words.Order.TheVariants.{Help, KernelSpec}
use Rattle.kernel_program.specs.Program.{Obeys}
use Rattle.kernel_program.proofs.EndLemmas.{obeys_print, obeys_replay, obeys_serve, print_is_not_silent}
use Rattle.kernel_program.proofs.EndLemmas.{print_serves_none, replay_serves_none}
use Rattle.kernel_program.proofs.program.obey.Goals as goal

pub returns-in-Replay-clause-obeys : goal.returns-in-Replay-clause-obeys
returns-in-Replay-clause-obeys g c =
    subst (λ order. Obeys g.L.Interp.Interpreter.meaning (g.L.Language.profile c.args.language.now) order
    (g.R.Read.remaining c.args.reader.now) (g.R.Read.remaining c.replay_begun.new.reader)
    (g.W.Write.contents c.args.writer.now) (g.W.Write.contents c.replay_begun.new.writer) c.replay_begun.result) (sym c.in-Replay.is)
    (obeys_replay g.L.Interp.Interpreter.meaning (g.L.Language.profile c.args.language.now) c.in-Replay.key
    (g.R.Read.remaining c.args.reader.now) (g.R.Read.remaining c.replay_begun.new.reader)
    (g.W.Write.contents c.args.writer.now) (g.W.Write.contents c.replay_begun.new.writer) c.replay_begun.result c.replay_begun.ensures.replays)

pub returns-in-Serve-clause-obeys : goal.returns-in-Serve-clause-obeys
returns-in-Serve-clause-obeys g c =
    subst (λ order. Obeys g.L.Interp.Interpreter.meaning (g.L.Language.profile c.args.language.now) order
    (g.R.Read.remaining c.args.reader.now) (g.R.Read.remaining c.args.reader.now)
    (g.W.Write.contents c.args.writer.now) (g.W.Write.contents c.args.writer.now) c.serve.result) (sym c.in-Serve.is)
    (obeys_serve g.L.Interp.Interpreter.meaning (g.L.Language.profile c.args.language.now) c.in-Serve.file
    (g.R.Read.remaining c.args.reader.now) (g.R.Read.remaining c.args.reader.now)
    (g.W.Write.contents c.args.writer.now) c.serve.result c.serve.ensures.ends)

pub returns-in-KernelSpec-clause-obeys : goal.returns-in-KernelSpec-clause-obeys
returns-in-KernelSpec-clause-obeys g c =
    subst (λ order. Obeys g.L.Interp.Interpreter.meaning (g.L.Language.profile c.args.language.now) order
    (g.R.Read.remaining c.args.reader.now) (g.R.Read.remaining c.args.reader.now)
    (g.W.Write.contents c.args.writer.now) (g.W.Write.contents c.print_kernelspec.new.writer) c.print_kernelspec.result) (sym c.in-KernelSpec.is)
    (obeys_print g.L.Interp.Interpreter.meaning (g.L.Language.profile c.args.language.now) KernelSpec
    (g.R.Read.remaining c.args.reader.now) (g.R.Read.remaining c.args.reader.now)
    (g.W.Write.contents c.args.writer.now) (g.W.Write.contents c.print_kernelspec.new.writer) c.print_kernelspec.result
    c.print_kernelspec.ensures.done c.print_kernelspec.ensures.ends)

pub returns-in-KernelSpec-clause-silent : goal.returns-in-KernelSpec-clause-silent
returns-in-KernelSpec-clause-silent g c silent =
    absurd (print_is_not_silent c.print_kernelspec.result c.print_kernelspec.ensures.ends silent)

pub returns-in-Help-clause-obeys : goal.returns-in-Help-clause-obeys
returns-in-Help-clause-obeys g c =
    subst (λ order. Obeys g.L.Interp.Interpreter.meaning (g.L.Language.profile c.args.language.now) order
    (g.R.Read.remaining c.args.reader.now) (g.R.Read.remaining c.args.reader.now)
    (g.W.Write.contents c.args.writer.now) (g.W.Write.contents c.print_text.new.writer) c.print_text.result) (sym c.in-Help.is)
    (obeys_print g.L.Interp.Interpreter.meaning (g.L.Language.profile c.args.language.now) (Help c.in-Help.text)
    (g.R.Read.remaining c.args.reader.now) (g.R.Read.remaining c.args.reader.now)
    (g.W.Write.contents c.args.writer.now) (g.W.Write.contents c.print_text.new.writer) c.print_text.result
    c.print_text.ensures.done c.print_text.ensures.ends)

pub returns-in-Help-clause-silent : goal.returns-in-Help-clause-silent
returns-in-Help-clause-silent g c silent =
    absurd (print_is_not_silent c.print_text.result c.print_text.ensures.ends silent)

pub returns-in-Replay-clause-until : goal.returns-in-Replay-clause-until
returns-in-Replay-clause-until g c =
    replay_serves_none g.L.Interp.Interpreter.meaning (g.L.Language.profile c.args.language.now)
    (λ served. served.until.value ≡ c.args.until) c.in-Replay.key
    (g.R.Read.remaining c.args.reader.now) (g.R.Read.remaining c.replay_begun.new.reader)
    (g.W.Write.contents c.args.writer.now) (g.W.Write.contents c.replay_begun.new.writer) c.replay_begun.result
    c.replay_begun.ensures.replays

pub returns-in-KernelSpec-clause-until : goal.returns-in-KernelSpec-clause-until
returns-in-KernelSpec-clause-until g c =
    print_serves_none (λ served. served.until.value ≡ c.args.until) c.print_kernelspec.result
    c.print_kernelspec.ensures.ends

pub returns-in-Help-clause-until : goal.returns-in-Help-clause-until
returns-in-Help-clause-until g c =
    print_serves_none (λ served. served.until.value ≡ c.args.until) c.print_text.result c.print_text.ensures.ends
