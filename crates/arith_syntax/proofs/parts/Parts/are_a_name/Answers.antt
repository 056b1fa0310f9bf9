use Rattle.std.proofs.Common.{ap, ◌∙◌, length, ◌-◌}
use Rattle.std.specs.List.{slice_get}
use Rattle.arith_syntax.proofs.PartLemmas.{name_by_mark}
use Rattle.arith_syntax.proofs.parts.Parts.are_a_name.Goals as goal

pub returns-in-Some : goal.returns-in-Some
returns-in-Some c = λ text.
    rw (← c.self.view_is)
    (name_by_mark text _ c.self.inside.marks.items c.in-Some.mark.now c.is_variable.result c.self.invariant.marks
    (c.in-Some.ensures.value ∙ ap (λ ms. slice_get ms (length ms - 1)) c.deref.ensures.value) c.is_variable.ensures)
