use Rattle.std.proofs.Common.{rules}
use Rattle.kernel_workers.specs.Running.{leaving}
use Rattle.kernel_workers.specs.Causes.{restart_of}
use Rattle.kernel_workers.specs.Starting.{subscribing_by}
use Rattle.kernel_workers.proofs.RunningLemmas.{closed_by, did_same, once_by}
use Rattle.kernel_workers.proofs.ending.close_all.Goals as goal

pub returns-clause-ends : goal.returns-clause-ends
returns-clause-ends g c =
    let left = c.args.left in
    closed_by g.I.Interpreter.meaning g.S.Stamp.stamp g.W.Outlet.outflow left.shell left.control
    (subscribing_by left.subscriptions.promise) c.close-shell.result c.close-control.result
    c.end_subscriptions-subscriptions.result.0 c.end_subscriptions-subscriptions.result.1.value
    c.end-relay.result.taker.queue c.settle.result c.close-shell.ensures.blocked c.close-shell.ensures.list
    c.close-control.ensures.blocked c.end_subscriptions-subscriptions.ensures (search rules) c.settle.ensures.took
    c.settle.ensures.inbox

pub returns-clause-once : goal.returns-clause-once
returns-clause-once g c =
    once_by g.I.Interpreter.meaning g.S.Stamp.stamp g.W.Outlet.outflow
    (leaving c.args.left c.args.work (restart_of c.args.of_shell)) c.end-relay.result.taker.queue _ _ _ c.settle.result
    c.close-control.ensures.list c.settle.ensures.took (search rules)
    (did_same c.args.work c.settle.result c.settle.ensures.work)
