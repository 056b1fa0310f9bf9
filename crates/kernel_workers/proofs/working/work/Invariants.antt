use Rattle.std.specs.Prelude.{None}
use Rattle.iopub_queue.specs.Sink.{publisher_sink}
use Rattle.kernel_engine.specs.World.{world_of}
use Rattle.kernel_workers.specs.Jobs.{TakesTurns}
use Rattle.kernel_workers.specs.Staying.{IsSameEngine}
use Rattle.kernel_workers.proofs.working.work.Given as goal

abbrev pub invariant-loop : goal.invariant-loop
invariant-loop g l = record {
  turns : TakesTurns (world_of g.I.Interpreter.meaning publisher_sink g.S.Stamp.stamp) g.A.Answering.may l.fn.work None
      l.work;
  same : IsSameEngine g.S.Stamp.stamp l.fn.work.engine l.work.engine;
}
