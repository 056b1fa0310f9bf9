use Rattle.kernel_workers.proofs.RunningLemmas.{ends_well}
use Rattle.kernel_workers.proofs.running.run_kernel.Goals as goal

pub returns-in-Ok-clause-ends : goal.returns-in-Ok-clause-ends
returns-in-Ok-clause-ends g c =
    ends_well g.I.Interpreter.meaning g.S.Stamp.stamp g.row.R.Denot g.W.Outlet.outflow c.args.parts _ _ c.end.result
    c.in-Ok.ensures.capacity c.in-Ok.ensures.set c.end.ensures.ends
