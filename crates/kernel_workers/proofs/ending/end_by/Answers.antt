use Rattle.std.proofs.Common.{refl}
use Rattle.kernel_workers.specs.Causes.{restart_of}
use Rattle.kernel_workers.specs.Running.{leaving}
use Rattle.kernel_workers.proofs.RunningLemmas.{ends_shut_down, one_on}
use Rattle.kernel_workers.proofs.ending.end_by.Goals as goal

pub returns-in-Asked-clause-ends : goal.returns-in-Asked-clause-ends
returns-in-Asked-clause-ends g c =
    let left = c.args.left in
    let relay = c.end-relay in
    ends_shut_down g.I.Interpreter.meaning g.S.Stamp.stamp g.row.R.Denot g.W.Outlet.outflow c.in-Asked.asking
    (leaving left c.args.work (restart_of c.args.of_shell)) relay.result c.shut_down.result
    (one_on left.shell.publishing.sink left.control.publishing.sink left.subscriptions.promise.sink.value
    left.shell.publishing.sink left.control.publishing.sink left.subscriptions.promise.sink.value
    c.args.serving.relay.promise.relay.value.taker relay.result.taker c.requires.one (refl, refl) (refl, refl)
    (refl, refl) (relay.ensures.queue, relay.ensures.count)) c.shut_down.ensures.ends
