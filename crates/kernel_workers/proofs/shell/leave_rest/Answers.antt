use Rattle.std.proofs.Common.{refl, ◌∙◌}
use Rattle.kernel_workers.specs.Jobs.{nothing_left, one_left}
use Rattle.kernel_workers.proofs.shell.leave_rest.Goals as goal

pub loop-init : goal.loop-init
loop-init g c = record { leaves = nothing_left; engine = refl }

pub loop-preserved : goal.loop-preserved
loop-preserved g c = record {
  leaves = one_left c.loop.work c.in-Some-next.job _ _ c.loop.invariant.leaves
      (record { inbox = c.in-Some-next.ensures; engine = refl; outcomes = refl }) c.leave.ensures;
  engine = c.leave.ensures.engine ∙ c.loop.invariant.engine;
}
