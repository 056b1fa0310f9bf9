use Rattle.std.proofs.Common.{List, [], ◌∷◌, ◌++◌, ap, ◌∙◌}
use Rattle.arith_syntax.specs.declared.part.Part.{Part}
use Rattle.arith_syntax.specs.declared.part.Part.TheVariants.{Assignment}
use Rattle.arith_syntax.specs.Packed.{parts_of}
use Rattle.arith_syntax.proofs.PackedLemmas.{before_operator, begins_otherwise, no_assignment, operator_alone}
use Rattle.arith_syntax.proofs.parts.PartsRef.assignment.Goals as goal

pub returns-in_err-operator : goal.returns-in_err-operator
returns-in_err-operator c =
    rw (c.from_residual-in_err-operator.ensures)
    (no_assignment c.args.self.marks.now c.in_ok-mark.rest.now c.in_ok-mark.mark.now c.args.self.narrow.now
    c.args.self.wide.now c.in_ok-mark.ensures.cases.0 c.in_err-operator.ensures)

pub returns-in_err-next : goal.returns-in_err-next
returns-in_err-next c =
    rw (c.from_residual-in_err-next.ensures)
    (operator_alone (parts_of c.args.self) c.in_ok-operator.operator
    (before_operator c.args.self.marks.now c.in_ok-mark.rest.now c.in_ok-mark.mark.now c.in_ok-operator.operator
    c.args.self.narrow.now c.args.self.wide.now [] c.in_ok-mark.ensures.cases.0 c.in_ok-operator.ensures
    c.in_err-next.ensures.0))

pub returns-in_err-place : goal.returns-in_err-place
returns-in_err-place c =
    let row : List Part = parts_of c.next.new.self in
    rw (c.from_residual-in_err-place.ensures)
    (begins_otherwise (parts_of c.args.self) (row ++ Assignment c.in_ok-operator.operator ∷ []) c.in_ok-next.field-0
    (before_operator c.args.self.marks.now c.in_ok-mark.rest.now c.in_ok-mark.mark.now c.in_ok-operator.operator
    c.args.self.narrow.now c.args.self.wide.now (c.in_ok-next.field-0 ∷ row) c.in_ok-mark.ensures.cases.0
    c.in_ok-operator.ensures c.in_ok-next.ensures)
    c.in_err-place.ensures)

pub returns : goal.returns
returns c =
    let row : List Part = parts_of c.next.new.self in
    before_operator c.args.self.marks.now c.in_ok-mark.rest.now c.in_ok-mark.mark.now c.in_ok-operator.operator
    c.args.self.narrow.now c.args.self.wide.now (c.in_ok-next.field-0 ∷ row) c.in_ok-mark.ensures.cases.0
    c.in_ok-operator.ensures c.in_ok-next.ensures
    ∙ ap (λ (p : Part). p ∷ (row ++ Assignment c.in_ok-operator.operator ∷ [])) c.in_ok-place.ensures
