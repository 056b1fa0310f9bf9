use Rattle.kernel_workers.proofs.JobLemmas.{taken_same}
use Rattle.test_kernel.proofs.tests.shutdown.execute.Goals as goal

pub returns-clause-queue : goal.returns-clause-queue
returns-clause-queue g c =
    (taken_same _ _ _ c.args.frames c.args.engine.now c.take.new.self c.take.result c.take.ensures).queue

pub returns-clause-number : goal.returns-clause-number
returns-clause-number g c =
    (taken_same _ _ _ c.args.frames c.args.engine.now c.take.new.self c.take.result c.take.ensures).number
