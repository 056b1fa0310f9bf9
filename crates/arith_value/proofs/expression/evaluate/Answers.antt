use Rattle.std.proofs.Common.{rules, FitsSigned, w64}
use Rattle.std.proofs.lemmas.Int.{to_z-of_z}
use Rattle.arith_syntax.specs.Packed.{parts_of}
use Rattle.arith_syntax.specs.Parts.{tree_of}
use Rattle.arith_value.proofs.OnePassLemmas.{assigns, evaluates_assignment}
use Rattle.arith_value.proofs.expression.evaluate.Goals as goal

pub returns-in-Some-value_in_one_pass-2 : goal.returns-in-Some-value_in_one_pass-2
returns-in-Some-value_in_one_pass-2 c =
    let fits : FitsSigned w64 c.in-Some-value_in_one_pass-2.assigned = search rules in
    evaluates_assignment c.args.variables.now c.assign.new.variables
    (tree_of c.args.text.now (parts_of c.args.parts)) c.word_at.result.now c.in-Some.assignment.operator
    c.in-Some-value_in_one_pass-2.assigned c.assign.result
    (assigns c.args.variables.now c.args.text.now (parts_of c.args.parts) (parts_of c.in-Some.assignment.operand)
    c.in-Some.assignment.place c.in-Some.assignment.operator c.word_at.result.now
    c.in-Some-value_in_one_pass-2.assigned c.in-Some.ensures c.word_at.ensures
    c.in-Some-value_in_one_pass-2.ensures)
    (rw (← to_z-of_z w64 c.in-Some-value_in_one_pass-2.assigned fits) c.assign.ensures)
