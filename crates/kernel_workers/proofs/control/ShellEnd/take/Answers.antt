use Rattle.std.proofs.Common.{inl, inr, refl, sym}
use Rattle.kernel_engine.proofs.TakeLemmas.{taken, unread_taken}
use Rattle.kernel_engine.specs.World.{world_of}
use Rattle.iopub_queue.specs.Sink.{publisher_sink}
use Rattle.kernel_workers.proofs.JobLemmas.{ends_nothing, recorded, taken_same, unread_ends}
use Rattle.kernel_workers.proofs.control.ShellEnd.take.Goals as goal

pub returns-in-Err-clause-does : goal.returns-in-Err-clause-does
returns-in-Err-clause-does g c =
    let took = unread_taken (world_of g.I.Interpreter.meaning publisher_sink g.S.Stamp.stamp) ⊥ c.args.job.frames
    c.in-Err.unread c.args.work.now.engine c.unread_done-done.result c.in-Err.ensures c.unread_done-done.ensures in
    let none = unread_ends g.I.Interpreter.meaning g.S.Stamp.stamp ⊥ c.args.job.frames c.in-Err.unread
    c.unread_done-done.result c.args.work.now.engine c.unread_done-done.ensures in
    inr (record {
      done = c.unread_done-done.result;
      takes = took;
      inbox = refl;
      records = recorded _ _ _ _ _ c.args.job.own c.conclude.ensures.records;
      cause_is = c.conclude.ensures.cause;
      goes_on = λ holds. none;
    })

pub returns-then-ends-clause-does : goal.returns-then-ends-clause-does
returns-then-ends-clause-does g c =
    inl (record {
      asked = c.in-Ok.asked;
      asks = c.in-Ok.ensures;
      ending = sym c.if-ends.ensures;
      asking = record { request = c.into_request-request.result; to = c.args.job.to };
      request = c.into_request-request.ensures;
      to = c.args.job.own;
      cause_is = refl;
      same = refl;
    })

pub returns-clause-does : goal.returns-clause-does
returns-clause-does g c =
    let took = taken (world_of g.I.Interpreter.meaning publisher_sink g.S.Stamp.stamp) ⊥ c.args.job.frames
    c.in-Ok.asked c.args.work.now.engine c.finish-done.result
    c.finish-done.new.self c.in-Ok.ensures.opened c.finish-done.ensures in
    let none = ends_nothing g.I.Interpreter.meaning g.S.Stamp.stamp ⊥ c.args.job.frames c.in-Ok.asked
    c.args.work.now.engine c.finish-done.new.self c.finish-done.result c.in-Ok.ensures (sym c.if-ends.ensures)
    c.finish-done.ensures in
    inr (record {
      done = c.finish-done.result;
      takes = took;
      inbox = refl;
      records = recorded _ _ _ _ _ c.args.job.own c.conclude-2.ensures.records;
      cause_is = c.conclude-2.ensures.cause;
      goes_on = λ holds. none;
    })

pub returns-clause-same : goal.returns-clause-same
returns-clause-same g c =
    let took = taken (world_of g.I.Interpreter.meaning publisher_sink g.S.Stamp.stamp) ⊥ c.args.job.frames
    c.in-Ok.asked c.args.work.now.engine c.finish-done.result
    c.finish-done.new.self c.in-Ok.ensures.opened c.finish-done.ensures in
    taken_same g.I.Interpreter.meaning g.S.Stamp.stamp ⊥ c.args.job.frames c.args.work.now.engine
    c.finish-done.new.self c.finish-done.result took
