use Rattle.std.proofs.Common.{subst, sym}
use Rattle.std.specs.Result.{IfOk}
use Rattle.kernel_workers.specs.Running.{EndsFor, EndsOver, Leaving}
use Rattle.kernel_workers.specs.Starting.{subscribing_by}
use Rattle.kernel_workers.proofs.RunningLemmas.{leaving_is}
use Rattle.kernel_workers.proofs.running.end_after.Goals as goal

pub returns-clause-ends : goal.returns-clause-ends
returns-clause-ends g c =
    subst (λ (l : Leaving g.row.I.Denot g.row.S.Denot g.row.W.Denot). IfOk c.end_by-ended.result
    (EndsOver g.I.Interpreter.meaning g.S.Stamp.stamp g.W.Outlet.outflow l.shell l.control l.subscriptions.inbox))
    (sym (leaving_is c.args.joined.0 c.args.joined.1 _ _ (subscribing_by c.args.subscriptions.promise) _ _
    c.done_of-shell.ensures.engine c.done_of-control.ensures.engine c.done_of-shell.ensures.did
    c.done_of-control.ensures.did)) c.end_by-ended.ensures.ends

pub returns-clause-cause : goal.returns-clause-cause
returns-clause-cause g c =
    subst (λ (l : Leaving g.row.I.Denot g.row.S.Denot g.row.W.Denot). IfOk c.end_by-ended.result
    (EndsFor g.row.R.Denot g.I.Interpreter.meaning g.S.Stamp.stamp g.W.Outlet.outflow c.args.joined.1.cause l))
    (sym (leaving_is c.args.joined.0 c.args.joined.1 _ _ (subscribing_by c.args.subscriptions.promise) _ _
    c.done_of-shell.ensures.engine c.done_of-control.ensures.engine c.done_of-shell.ensures.did
    c.done_of-control.ensures.did)) c.end_by-ended.ensures.cause
