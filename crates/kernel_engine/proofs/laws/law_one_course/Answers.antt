use Rattle.kernel_engine.proofs.CourseOnce.{publishes_once, answers_once}
use Rattle.kernel_engine.proofs.laws.law_one_course.Goals as goal

pub returns-clause-published : goal.returns-clause-published
returns-clause-published g c = publishes_once g.I.Interpreter.meaning g.met.I.Determined.once

pub returns-clause-answered : goal.returns-clause-answered
returns-clause-answered g c = answers_once g.I.Interpreter.meaning g.met.I.Determined.once
