use Rattle.std.proofs.Common.{rules, ◌≡◌, [], ap, sym, ◌∙◌, refl, reverse, FitsSigned, w64}
use Rattle.std.proofs.lemmas.Int.{to_z-of_z}
use Rattle.arith_syntax.specs.Packed.{parts_of}
use Rattle.arith_value.proofs.OnePassLemmas.{none_counted, passed, passes_on}
use Rattle.arith_value.proofs.one_pass.value_in_one_pass.Goals as goal

pub loop-part-init : goal.loop-part-init
loop-part-init c = λ base. (base, rw c.in-Ok.ensures.items refl, refl)

pub loop-part-preserved : goal.loop-part-preserved
loop-part-preserved c =
    passes_on c.args.variables.now c.args.text.now (parts_of c.args.parts) (parts_of c.loop-part.left)
    (parts_of c.next.new.self) c.in-Some.part c.step.result (reverse c.loop-part.waiting.items)
    (reverse c.step.new.waiting.items) c.loop-part.invariant c.in-Some.ensures c.step.ensures c.if-not-step.false

pub returns-then-is_empty : goal.returns-then-is_empty
returns-then-is_empty c = λ base.
    let fits : FitsSigned w64 c.in_ok-value.value = search rules in
    let empty : c.take.new.waiting.items ≡ [] =
    none_counted c.take.new.waiting.items c.take.new.waiting.len c.take.new.waiting.ok.0
    (sym c.is_empty.ensures ∙ c.if-is_empty.true) in
    rw (to_z-of_z w64 c.in_ok-value.value fits)
    (passed c.args.variables.now c.args.text.now (parts_of c.args.parts) (parts_of c.loop-part.left)
    (reverse c.loop-part.waiting.items) (reverse c.take.new.waiting.items) c.take.result c.in_ok-value.value
    c.loop-part.invariant c.in_default-next.ensures.0 c.take.ensures c.in_ok-value.was (ap reverse empty) base)
