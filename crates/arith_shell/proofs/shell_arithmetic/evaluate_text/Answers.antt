use Rattle.std.proofs.Common.{List}
use Rattle.arith_syntax.specs.declared.part.Part.{Part}
use Rattle.arith_syntax.specs.Parts.{tree_of}
use Rattle.arith_shell.specs.ShellArithmetic.{IsPrintedValue}
use Rattle.arith_shell.proofs.ShellLemmas.{answered, gave_up, statement_fails}
use Rattle.std.proofs.Common.{subst}
use Rattle.arith_shell.proofs.shell_arithmetic.evaluate_text.Goals as goal

pub returns-in-Ok-clause-answered : goal.returns-in-Ok-clause-answered
returns-in-Ok-clause-answered c =
    let worth : IsPrintedValue (tree_of c.args.text.now c.in-Ok.parts) c.args.variables.now c.value_text.result
    c.value_text.new.variables =
    subst (λ (parts : List Part). IsPrintedValue (tree_of c.args.text.now parts) c.args.variables.now
    c.value_text.result c.value_text.new.variables) c.lend.ensures.parts c.value_text.ensures in
    answered _ _ _ _ c.in-Ok.ensures _ worth

pub returns-in-Ok-clause-refused : goal.returns-in-Ok-clause-refused
returns-in-Ok-clause-refused c =
    let worth : IsPrintedValue (tree_of c.args.text.now c.in-Ok.parts) c.args.variables.now c.value_text.result
    c.value_text.new.variables =
    subst (λ (parts : List Part). IsPrintedValue (tree_of c.args.text.now parts) c.args.variables.now
    c.value_text.result c.value_text.new.variables) c.lend.ensures.parts c.value_text.ensures in
    gave_up _ _ _ _ c.in-Ok.ensures _ worth

pub returns-in-Err-clause-answered : goal.returns-in-Err-clause-answered
returns-in-Err-clause-answered c = rw c.from_read.ensures (statement_fails _ _ _ c.in-Err.ensures)
