use Rattle.std.proofs.Common.{refl}
use Rattle.kernel_workers.proofs.JobLemmas.{recorded}
use Rattle.kernel_workers.proofs.shell.leave.Goals as goal

pub returns : goal.returns
returns g c =
    record { engine = refl; inbox = refl; records = recorded _ _ _ _ _ c.args.job.own c.record.ensures }
