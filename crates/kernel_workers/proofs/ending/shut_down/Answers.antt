use Rattle.kernel_workers.specs.Causes.{restart_of}
use Rattle.kernel_workers.specs.Running.{leaving}
use Rattle.kernel_workers.proofs.RunningLemmas.{shuts_down}
use Rattle.kernel_workers.proofs.ending.shut_down.Goals as goal

pub returns-in-Some-clause-ends : goal.returns-in-Some-clause-ends
returns-in-Some-clause-ends g c =
    shuts_down g.I.Interpreter.meaning g.S.Stamp.stamp g.row.R.Denot g.W.Outlet.outflow c.args.asking
    (leaving c.args.left c.args.work (restart_of c.args.of_shell)) c.args.relay c.in-Some.end
    c.in-Some.subscriptions_in.value c.conclude.result c.in-Some.ensures c.conclude.ensures.inbox
    c.conclude.ensures.left c.conclude.ensures.answers
