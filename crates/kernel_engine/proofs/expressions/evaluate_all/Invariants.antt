-- What holds between two expressions.
use Rattle.kernel_engine.proofs.ExpressionLemmas.{EvaluatedSoFar}
use Rattle.kernel_engine.proofs.expressions.evaluate_all.Given as goal

abbrev pub invariant-loop-expression : goal.invariant-loop-expression
invariant-loop-expression g l =
    EvaluatedSoFar g.I.Interpreter.meaning l.fn.interp l.interp l.fn.expressions l.yielded
    l.expression-iterator.rest.items l.values.items
