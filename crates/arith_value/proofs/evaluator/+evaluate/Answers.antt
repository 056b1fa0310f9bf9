use Rattle.std.proofs.Common.{rules, ◌≡◌, ap, ◌∙◌, true, false, FitsSigned, w64, to_z, of_z, arith}
use Rattle.std.proofs.lemmas.Result.{err_from_is_err_and}
use Rattle.std.proofs.lemmas.Int.{to_z-of_z}
use Rattle.arith_syntax.specs.Parts.{before, last, name_of, tree_of, trees_in}
use Rattle.arith_value.specs.Operators.{apply, unary}
use Rattle.arith_value.specs.Value.{value, assignment_of, give}
use Rattle.arith_value.proofs.EvaluateLemmas.{branched, broken, chained, evaluations, given, operated, settled}
use Rattle.arith_value.proofs.EvaluateLemmas.{tree_ends}
use Rattle.arith_value.proofs.evaluator.+evaluate.Goals as goal

pub returns-in_err-value-in-Unary : goal.returns-in_err-value-in-Unary
returns-in_err-value-in-Unary t c =
    let tree = tree_ends c.args.text.now c.args.parts.now c.in-Some.operands.now c.in-Some.part.now _
    c.in-Some.ensures.cases.0 c.in-Unary.is in
    rw tree (grind (arith, evaluations))

pub returns-in_err-first-in-Binary : goal.returns-in_err-first-in-Binary
returns-in_err-first-in-Binary t c =
    let tree = tree_ends c.args.text.now c.args.parts.now c.in-Some.operands.now c.in-Some.part.now _
    c.in-Some.ensures.cases.0 c.in-Binary.is in
    let left : tree_of c.args.text.now c.parts_before.result.now
    ≡ last (before (trees_in c.args.text.now c.in-Some.operands.now)) =
    ap last (c.parts_before.ensures.trees c.args.text.now) in
    rw (tree, ← left) (grind (arith, evaluations))

pub returns-in-Some-decided : goal.returns-in-Some-decided
returns-in-Some-decided t c =
    let tree = tree_ends c.args.text.now c.args.parts.now c.in-Some.operands.now c.in-Some.part.now _
    c.in-Some.ensures.cases.0 c.in-Binary.is in
    let left : tree_of c.args.text.now c.parts_before.result.now
    ≡ last (before (trees_in c.args.text.now c.in-Some.operands.now)) =
    ap last (c.parts_before.ensures.trees c.args.text.now) in
    let fits : FitsSigned w64 c.in_ok-first-in-Binary.first = search rules in
    let fits_too : FitsSigned w64 c.in-Some-decided.value = search rules in
    rw (tree, ← left, to_z-of_z w64 c.in-Some-decided.value fits_too)
    (settled c.in-Binary.op (tree_of c.args.text.now c.parts_before.result.now)
    (tree_of c.args.text.now c.in-Some.operands.now) c.args.variables.now c.evaluate-in-Binary.new.variables
    c.in_ok-first-in-Binary.first c.decided.result c.in-Some-decided.value fits c.decided.ensures c.in-Some-decided.is
    c.in_ok-first-in-Binary.ensures)

pub returns-in_err-second-in-Binary : goal.returns-in_err-second-in-Binary
returns-in_err-second-in-Binary t c =
    let tree = tree_ends c.args.text.now c.args.parts.now c.in-Some.operands.now c.in-Some.part.now _
    c.in-Some.ensures.cases.0 c.in-Binary.is in
    let left : tree_of c.args.text.now c.parts_before.result.now
    ≡ last (before (trees_in c.args.text.now c.in-Some.operands.now)) =
    ap last (c.parts_before.ensures.trees c.args.text.now) in
    let fits : FitsSigned w64 c.in_ok-first-in-Binary.first = search rules in
    let fault = err_from_is_err_and c.from_residual-in_err-second-in-Binary.result
    c.from_residual-in_err-second-in-Binary.ensures.1 in
    rw (tree, ← left)
    (operated c.in-Binary.op (tree_of c.args.text.now c.parts_before.result.now)
    (tree_of c.args.text.now c.in-Some.operands.now)
    c.args.variables.now c.evaluate-in-Binary.new.variables _ c.in_ok-first-in-Binary.first c.decided.result _ fits
    c.decided.ensures c.in_default-decided.is c.in_ok-first-in-Binary.ensures
    (rw (fault.1, fault.2) (broken (value (tree_of c.args.text.now c.in-Some.operands.now))
    (λ b. give (apply c.in-Binary.op c.in_ok-first-in-Binary.first b))
    c.evaluate-in-Binary.new.variables c.evaluate-in-Binary-2.new.variables c.in_err-second-in-Binary.field-0.0
    c.in_err-second-in-Binary.ensures)))

pub returns-in_err-tested-in-Conditional : goal.returns-in_err-tested-in-Conditional
returns-in_err-tested-in-Conditional t c =
    let tree = tree_ends c.args.text.now c.args.parts.now c.in-Some.operands.now c.in-Some.part.now _
    c.in-Some.ensures.cases.0 c.in-Conditional.is in
    let so : tree_of c.args.text.now c.parts_before-if_so.result.now
    ≡ last (before (trees_in c.args.text.now c.in-Some.operands.now)) =
    ap last (c.parts_before-if_so.ensures.trees c.args.text.now) in
    let condition : tree_of c.args.text.now c.parts_before-in-Conditional.result.now
    ≡ last (before (before (trees_in c.args.text.now c.in-Some.operands.now))) =
    ap last (c.parts_before-in-Conditional.ensures.trees c.args.text.now
    ∙ ap before (c.parts_before-if_so.ensures.trees c.args.text.now)) in
    rw (tree, ← condition) (grind (arith, evaluations))

pub returns-in_err-assigned-in-Assignment : goal.returns-in_err-assigned-in-Assignment
returns-in_err-assigned-in-Assignment t c =
    let tree = tree_ends c.args.text.now c.args.parts.now c.in-Some.operands.now c.in-Some.part.now _
    c.in-Some.ensures.cases.0 c.in-Assignment.is in
    rw tree (grind (arith, evaluations))

pub returns-in-Constant : goal.returns-in-Constant
returns-in-Constant t c =
    let tree = tree_ends c.args.text.now c.args.parts.now c.in-Some.operands.now c.in-Some.part.now _
    c.in-Some.ensures.cases.0 c.in-Constant.is in
    rw (tree, c.constant.ensures) (given _ _)

pub returns-in-Variable : goal.returns-in-Variable
returns-in-Variable t c =
    let tree = tree_ends c.args.text.now c.args.parts.now c.in-Some.operands.now c.in-Some.part.now _
    c.in-Some.ensures.cases.0 c.in-Variable.is in
    rw tree (grind (arith, evaluations))

pub returns-in-Group : goal.returns-in-Group
returns-in-Group t c =
    let tree = tree_ends c.args.text.now c.args.parts.now c.in-Some.operands.now c.in-Some.part.now _
    c.in-Some.ensures.cases.0 c.in-Group.is in
    rw tree c.evaluate.ensures

pub returns-in_ok-value-in-Unary : goal.returns-in_ok-value-in-Unary
returns-in_ok-value-in-Unary t c =
    let tree = tree_ends c.args.text.now c.args.parts.now c.in-Some.operands.now c.in-Some.part.now _
    c.in-Some.ensures.cases.0 c.in-Unary.is in
    let fits : FitsSigned w64 c.in_ok-value-in-Unary.value = search rules in
    let applied : c.unary.result ≡ unary c.in-Unary.op c.in_ok-value-in-Unary.value =
    c.unary.ensures ∙ ap (unary c.in-Unary.op) (to_z-of_z w64 c.in_ok-value-in-Unary.value fits) in
    rw tree (chained (value (tree_of c.args.text.now c.in-Some.operands.now)) (λ a. give (unary c.in-Unary.op a))
    c.args.variables.now c.evaluate-in-Unary.new.variables _ c.in_ok-value-in-Unary.value _
    c.in_ok-value-in-Unary.ensures
    (rw applied (given (unary c.in-Unary.op c.in_ok-value-in-Unary.value) c.evaluate-in-Unary.new.variables)))

pub returns-in_ok-second-in-Binary : goal.returns-in_ok-second-in-Binary
returns-in_ok-second-in-Binary t c =
    let tree = tree_ends c.args.text.now c.args.parts.now c.in-Some.operands.now c.in-Some.part.now _
    c.in-Some.ensures.cases.0 c.in-Binary.is in
    let left : tree_of c.args.text.now c.parts_before.result.now
    ≡ last (before (trees_in c.args.text.now c.in-Some.operands.now)) =
    ap last (c.parts_before.ensures.trees c.args.text.now) in
    let fits : FitsSigned w64 c.in_ok-first-in-Binary.first = search rules in
    let fits_too : FitsSigned w64 c.in_ok-second-in-Binary.second = search rules in
    let applied : c.apply.result ≡ apply c.in-Binary.op c.in_ok-first-in-Binary.first c.in_ok-second-in-Binary.second =
    c.apply.ensures
    ∙ ap (λ a. apply c.in-Binary.op a (to_z w64 (of_z w64 c.in_ok-second-in-Binary.second)))
    (to_z-of_z w64 c.in_ok-first-in-Binary.first fits)
    ∙ ap (apply c.in-Binary.op c.in_ok-first-in-Binary.first) (to_z-of_z w64 c.in_ok-second-in-Binary.second fits_too)
    in
    rw (tree, ← left)
    (operated c.in-Binary.op (tree_of c.args.text.now c.parts_before.result.now)
    (tree_of c.args.text.now c.in-Some.operands.now)
    c.args.variables.now c.evaluate-in-Binary.new.variables _
    c.in_ok-first-in-Binary.first c.decided.result _ fits c.decided.ensures c.in_default-decided.is
    c.in_ok-first-in-Binary.ensures
    (chained (value (tree_of c.args.text.now c.in-Some.operands.now))
    (λ b. give (apply c.in-Binary.op c.in_ok-first-in-Binary.first b))
    c.evaluate-in-Binary.new.variables c.evaluate-in-Binary-2.new.variables _ c.in_ok-second-in-Binary.second _
    c.in_ok-second-in-Binary.ensures
    (rw applied (given (apply c.in-Binary.op c.in_ok-first-in-Binary.first c.in_ok-second-in-Binary.second)
    c.evaluate-in-Binary-2.new.variables))))

pub returns-then-is_true : goal.returns-then-is_true
returns-then-is_true t c =
    let tree = tree_ends c.args.text.now c.args.parts.now c.in-Some.operands.now c.in-Some.part.now _
    c.in-Some.ensures.cases.0 c.in-Conditional.is in
    let so : tree_of c.args.text.now c.parts_before-if_so.result.now
    ≡ last (before (trees_in c.args.text.now c.in-Some.operands.now)) =
    ap last (c.parts_before-if_so.ensures.trees c.args.text.now) in
    let condition : tree_of c.args.text.now c.parts_before-in-Conditional.result.now
    ≡ last (before (before (trees_in c.args.text.now c.in-Some.operands.now))) =
    ap last (c.parts_before-in-Conditional.ensures.trees c.args.text.now
    ∙ ap before (c.parts_before-if_so.ensures.trees c.args.text.now)) in
    let fits : FitsSigned w64 c.in_ok-tested-in-Conditional.tested = search rules in
    rw (tree, ← condition, ← so)
    (branched (tree_of c.args.text.now c.parts_before-in-Conditional.result.now)
    (tree_of c.args.text.now c.parts_before-if_so.result.now) (tree_of c.args.text.now c.in-Some.operands.now)
    c.args.variables.now c.evaluate-in-Conditional.new.variables _ c.in_ok-tested-in-Conditional.tested
    c.is_true.result true _ fits c.is_true.ensures c.if-is_true.true c.in_ok-tested-in-Conditional.ensures
    c.evaluate-then-is_true.ensures)

pub returns-else-is_true : goal.returns-else-is_true
returns-else-is_true t c =
    let tree = tree_ends c.args.text.now c.args.parts.now c.in-Some.operands.now c.in-Some.part.now _
    c.in-Some.ensures.cases.0 c.in-Conditional.is in
    let so : tree_of c.args.text.now c.parts_before-if_so.result.now
    ≡ last (before (trees_in c.args.text.now c.in-Some.operands.now)) =
    ap last (c.parts_before-if_so.ensures.trees c.args.text.now) in
    let condition : tree_of c.args.text.now c.parts_before-in-Conditional.result.now
    ≡ last (before (before (trees_in c.args.text.now c.in-Some.operands.now))) =
    ap last (c.parts_before-in-Conditional.ensures.trees c.args.text.now
    ∙ ap before (c.parts_before-if_so.ensures.trees c.args.text.now)) in
    let fits : FitsSigned w64 c.in_ok-tested-in-Conditional.tested = search rules in
    rw (tree, ← condition, ← so)
    (branched (tree_of c.args.text.now c.parts_before-in-Conditional.result.now)
    (tree_of c.args.text.now c.parts_before-if_so.result.now) (tree_of c.args.text.now c.in-Some.operands.now)
    c.args.variables.now c.evaluate-in-Conditional.new.variables _ c.in_ok-tested-in-Conditional.tested
    c.is_true.result false _ fits c.is_true.ensures c.if-is_true.false c.in_ok-tested-in-Conditional.ensures
    c.evaluate-else-is_true.ensures)

pub returns-in_ok-assigned-in-Assignment : goal.returns-in_ok-assigned-in-Assignment
returns-in_ok-assigned-in-Assignment t c =
    let tree = tree_ends c.args.text.now c.args.parts.now c.in-Some.operands.now c.in-Some.part.now _
    c.in-Some.ensures.cases.0 c.in-Assignment.is in
    let fits : FitsSigned w64 c.in_ok-assigned-in-Assignment.assigned = search rules in
    let name : c.name_of.result.now ≡ name_of (last (before (trees_in c.args.text.now c.in-Some.operands.now))) =
    c.name_of.ensures ∙ ap (λ trees. name_of (last trees)) (c.parts_before-in-Assignment.ensures.trees
    c.args.text.now) in
    rw (tree, ← name)
    (chained (value (tree_of c.args.text.now c.in-Some.operands.now))
    (λ a. assignment_of c.name_of.result.now c.in-Assignment.op a)
    c.args.variables.now c.evaluate-in-Assignment.new.variables _ c.in_ok-assigned-in-Assignment.assigned _
    c.in_ok-assigned-in-Assignment.ensures
    (rw (← to_z-of_z w64 c.in_ok-assigned-in-Assignment.assigned fits) c.assign.ensures))
