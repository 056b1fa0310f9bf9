use Rattle.std.proofs.Common.{◌≡◌, ◌≤◌, ◌<◌, ◌+◌, ◌-◌, ◌*◌, inl, inr, length, get_or, arith}
use Rattle.arith_syntax.specs.declared.part.Part.TheVariants as part
use Rattle.arith_syntax.specs.Parts.{operand_count}
use Rattle.arith_syntax.proofs.TreeLemmas.{dropped-end, dropped-first, dropped-part, operand_count-most}
use Rattle.arith_syntax.proofs.part.parts_before.Goals as goal
use Rattle.arith_syntax.proofs.part.parts_before.Goals.{then-loop-due-test+else-size-ne0, else-loop-due-test}

pub loop-due-init : goal.loop-due-init
loop-due-init c = (omega arith, omega arith, λ text. dropped-first text c.args.parts.now)

pub loop-due-preserved : goal.loop-due-preserved
loop-due-preserved c =
    let fits : c.loop-due.size ≤ length c.args.parts.now = c.loop-due.invariant.0 in
    let bound : c.loop-due.due + 2 * c.loop-due.size ≤ 1 + 2 * length c.args.parts.now = c.loop-due.invariant.1 in
    let some : 0 < c.loop-due.due = (let h = c.loop-due-test.true in omega arith) in
    let longer : 0 < c.loop-due.size = (let h = c.if-size-ne0.true in omega arith) in
    let few : operand_count (get_or c.args.parts.now (c.loop-due.size - 1) (part.Constant 0)) ≤ 3 =
    operand_count-most _ in
    let count : c.operand_count.result ≡ operand_count (get_or c.args.parts.now (c.loop-due.size - 1) (part.Constant 0))
    = c.operand_count.ensures in (
      omega arith,
      omega arith,
      λ text.
          rw count (dropped-part text c.loop-due.due c.loop-due.size c.args.parts.now (part.Constant 0) some longer fits
          (c.loop-due.invariant.2 text)),
    )

pub returns-clause-trees : goal.returns-clause-trees
returns-clause-trees c = λ text. elim c.loop-due-test.branch [
  | then-loop-due-test+else-size-ne0 w ↦ dropped-end text c.loop-due.due c.loop-due.size c.args.parts.now
      (inr w.if-size-ne0.false) (c.loop-due.invariant.2 text)
  | else-loop-due-test w ↦ dropped-end text c.loop-due.due c.loop-due.size c.args.parts.now
      (inl w.loop-due-test.false) (c.loop-due.invariant.2 text)
]
