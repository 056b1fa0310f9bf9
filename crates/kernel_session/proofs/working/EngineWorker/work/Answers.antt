use Rattle.std.proofs.Common.{[], refl, sym}
use Rattle.std.proofs.lemmas.List.{append-nil}
use Rattle.kernel_engine.specs.World.{world_of}
use Rattle.kernel_engine.specs.declared.asked.Done.TheVariants as came
use Rattle.kernel_session.proofs.WorkLemmas.{taken, taken_frames}
use Rattle.kernel_session.proofs.working.EngineWorker.work.Goals as goal

pub finish-requires : goal.finish-requires
finish-requires g c =
    taken_frames (world_of g.I.Interpreter.meaning g.P.Publish.sink g.S.Stamp.stamp)
    (g.T.Stop.may_ask c.args.stop.now) c.args.self.now c.args.message c.in-Handled.handled c.take.new.self
    (rw (c.in-Handled.is, c.new.ensures, c.into_vec.ensures) at (c.take.ensures))

pub returns-in-Handled : goal.returns-in-Handled
returns-in-Handled g c =
    let (octets, added, finishes) = c.finish.ensures.finishes in
    record {
      worked = (
        octets,
        added,
        taken (world_of g.I.Interpreter.meaning g.P.Publish.sink g.S.Stamp.stamp) (g.T.Stop.may_ask c.args.stop.now)
            c.args.self.now c.args.message (came.Handled c.in-Handled.handled) octets c.finish.result c.take.new.self
            (rw (c.in-Handled.is, c.new.ensures, c.into_vec.ensures) at (c.take.ensures)) finishes,
      );
    }

pub returns-in-Ignored : goal.returns-in-Ignored
returns-in-Ignored g c = record {
  worked = (
    [],
    sym (append-nil c.args.reply.now.items),
    taken (world_of g.I.Interpreter.meaning g.P.Publish.sink g.S.Stamp.stamp) (g.T.Stop.may_ask c.args.stop.now)
        c.args.self.now c.args.message came.Ignored [] _ c.take.new.self
        (rw (c.in-Ignored.is, c.new.ensures, c.into_vec.ensures) at (c.take.ensures)) (refl, refl),
  );
}

pub returns-in-Lost : goal.returns-in-Lost
returns-in-Lost g c = record {
  worked = (
    [],
    sym (append-nil c.args.reply.now.items),
    taken (world_of g.I.Interpreter.meaning g.P.Publish.sink g.S.Stamp.stamp) (g.T.Stop.may_ask c.args.stop.now)
        c.args.self.now c.args.message came.Lost [] _ c.take.new.self
        (rw (c.in-Lost.is) at (c.take.ensures)) (refl, refl),
  );
}

pub returns-in-Refused : goal.returns-in-Refused
returns-in-Refused g c = record {
  worked = (
    [],
    sym (append-nil c.args.reply.now.items),
    taken (world_of g.I.Interpreter.meaning g.P.Publish.sink g.S.Stamp.stamp) (g.T.Stop.may_ask c.args.stop.now)
        c.args.self.now c.args.message (came.Refused c.in-Refused.fault) [] _ c.take.new.self
        (rw (c.in-Refused.is, c.new.ensures, c.into_vec.ensures) at (c.take.ensures)) (refl, refl),
  );
}
