use Rattle.kernel_engine.specs.declared.side.Side.TheVariants.{Shell}
use Rattle.kernel_workers.proofs.WorksLemmas.{works_off, works_promised}
use Rattle.kernel_workers.proofs.shell.ShellWorker.run.Goals as goal

pub depart-requires : goal.depart-requires
depart-requires g c =
    works_promised g.I.Interpreter.meaning g.S.Stamp.stamp Shell c.args.self.engine c.args.self.inbox
    c.promise-given.result _ c.promise-given.ensures
    (works_off g.I.Interpreter.meaning g.S.Stamp.stamp Shell c.args.self.engine _ c.start-started.result
    c.args.self.inbox c.new.result c.work-cause.result _ c.new.ensures.answers c.new.ensures.undone c.start-started.ensures.starts
    c.work-cause.ensures.turns)

pub returns-clause-works : goal.returns-clause-works
returns-clause-works g c =
    works_off g.I.Interpreter.meaning g.S.Stamp.stamp Shell c.args.self.engine _ c.start-started.result
    c.args.self.inbox c.new.result c.work-cause.result _ c.new.ensures.answers c.new.ensures.undone c.start-started.ensures.starts
    c.work-cause.ensures.turns
