use Rattle.kernel_engine.proofs.ExpressionLemmas.{evaluated_behind, evaluated_front}
use Rattle.kernel_engine.proofs.expressions.evaluate_all.Goals as goal

pub returns-in-Err : goal.returns-in-Err
returns-in-Err g c =
    evaluated_front g.I.Interpreter.meaning c.args.interp.now c.loop-expression.interp _ c.args.expressions
    c.loop-expression.yielded c.loop-expression.expression-iterator.rest.items c.next.new.self.rest.items
    c.loop-expression.values.items c.in-Some.expression c.loop-expression.invariant c.in-Some.ensures.steps.0
    c.in-Err.ensures

pub loop-expression-preserved : goal.loop-expression-preserved
loop-expression-preserved g c =
    evaluated_behind g.I.Interpreter.meaning c.args.interp.now c.loop-expression.interp c.evaluate_next.new.interp
    c.args.expressions c.loop-expression.yielded c.loop-expression.expression-iterator.rest.items
    c.next.new.self.rest.items c.loop-expression.values.items c.evaluate_next.new.values.items c.in-Some.expression
    c.loop-expression.invariant c.in-Some.ensures.steps.0 c.in_default.ensures
