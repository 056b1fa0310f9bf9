use Rattle.std.proofs.Common.{refl}
use Rattle.kernel_engine.specs.declared.side.Side.TheVariants.{Control}
use Rattle.kernel_workers.proofs.WorksLemmas.{works_off, works_promised}
use Rattle.kernel_workers.proofs.control.ControlWorker.run.Goals as goal

pub end-requires : goal.end-requires
end-requires g c =
    works_promised g.I.Interpreter.meaning g.S.Stamp.stamp Control c.args.self.engine c.args.self.inbox
    c.promise-given.result _ c.promise-given.ensures
    (works_off g.I.Interpreter.meaning g.S.Stamp.stamp Control c.args.self.engine c.args.self.engine _
    c.args.self.inbox c.new.result c.work-cause.result _ c.new.ensures.answers c.new.ensures.undone (refl, refl)
    c.work-cause.ensures.turns)

pub returns-clause-works : goal.returns-clause-works
returns-clause-works g c =
    works_off g.I.Interpreter.meaning g.S.Stamp.stamp Control c.args.self.engine c.args.self.engine _ c.args.self.inbox
    c.new.result c.work-cause.result _ c.new.ensures.answers c.new.ensures.undone (refl, refl)
    c.work-cause.ensures.turns
