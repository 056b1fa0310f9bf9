use Rattle.std.proofs.Common.{refl}
use Rattle.kernel_workers.specs.Starting.{promised_by}
use Rattle.kernel_workers.proofs.RunningLemmas.{ends_by}
use Rattle.kernel_workers.proofs.running.end.Goals as goal

pub returns-clause-ends : goal.returns-clause-ends
returns-clause-ends g c =
    let publishers = c.args.running.publishers in
    ends_by g.I.Interpreter.meaning g.S.Stamp.stamp g.row.R.Denot g.W.Outlet.outflow
    (promised_by publishers.shell.promise publishers.control.promise publishers.subscriptions.promise)
    c.join.result c.join-2.result _ c.end_after.result c.join.ensures.0 c.join-2.ensures.0 c.join.ensures.1
    c.join-2.ensures.1 refl c.end_after.ensures.ends c.end_after.ensures.cause
