use Rattle.kernel_workers.proofs.ShutdownLemmas.{closes_in_order}
use Rattle.kernel_workers.proofs.shutdown.close_channels.Goals as goal

pub returns : goal.returns
returns g c =
    closes_in_order g.I.Interpreter.meaning g.S.Stamp.stamp c.args.shell c.args.control c.handle_last-done.new.self
    c.args.request c.close-shell.result c.word-word.new.self c.close.result c.word-word.result
    c.handle_last-done.result c.word-word.ensures.same c.word-word.ensures.word c.close-shell.ensures.blocked
    c.close-shell.ensures.list c.close-shell.ensures.own c.handle_last-done.ensures c.close.ensures.blocked
    c.close.ensures.list c.close.ensures.own
    c.close.ensures.behind
