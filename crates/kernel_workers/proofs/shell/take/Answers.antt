use Rattle.std.proofs.Common.{refl}
use Rattle.kernel_workers.proofs.JobLemmas.{recorded, taken_same}
use Rattle.kernel_workers.proofs.shell.take.Goals as goal

pub returns-clause-does : goal.returns-clause-does
returns-clause-does g c = record {
  done = c.take-done.result;
  takes = c.take-done.ensures;
  inbox = refl;
  records = recorded _ _ _ _ _ c.args.job.own c.conclude.ensures.records;
  cause_is = c.conclude.ensures.cause;
  goes_on = λ never. absurd never;
}

pub returns-clause-same : goal.returns-clause-same
returns-clause-same g c =
    taken_same g.I.Interpreter.meaning g.S.Stamp.stamp Unit c.args.job.frames c.args.work.now.engine
    c.take-done.new.self c.take-done.result c.take-done.ensures
