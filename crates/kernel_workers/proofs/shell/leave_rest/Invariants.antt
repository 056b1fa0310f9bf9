use Rattle.std.specs.Prelude.{◌≡◌}
use Rattle.kernel_workers.specs.Jobs.{LeavesJobs}
use Rattle.kernel_workers.proofs.shell.leave_rest.Given as goal

abbrev pub invariant-loop : goal.invariant-loop
invariant-loop g l = record {
  leaves : LeavesJobs l.fn.work l.work;
  engine : l.work.engine ≡ l.fn.work.engine;
}
