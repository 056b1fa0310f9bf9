-- Shell arithmetic raises no fault of its own.
use Rattle.std.proofs.Common.{ℕ, ℤ, List, [], ◌∷◌, Result, Ok, Err, subst, sym}
use Rattle.arith_syntax.specs.declared.fault.ReadFault.{ReadFault}
use Rattle.arith_syntax.specs.declared.fault.ReadFault.TheVariants as read_fault
use Rattle.arith_syntax.specs.Grammar.{Tree}
use Rattle.arith_value.specs.declared.fault.ValueFault.{ValueFault}
use Rattle.arith_value.specs.declared.fault.ValueFault.TheVariants as value_fault
use Rattle.arith_value.specs.Value.{value}
use Rattle.arith_value.specs.Variables.{Bindings}
use Rattle.arith_shell.specs.ShellArithmetic.{IsWorth, Judges, Runs, from_read, printed, read_answer}
use Rattle.arith_shell.specs.ShellArithmetic.{shell_meaning, shows}
use Rattle.interp_core.specs.declared.answer.Completeness.{Completeness}
use Rattle.interp_core.specs.declared.answer.Stepped.{Stepped}
use Rattle.interp_core.specs.declared.fault.InterpFault.{InterpFault}
use Rattle.jkernel.specs.Unraised.{FailsUnraised, HasUnraised, IsUnraised, NeverRaises}

-- a fault of a reading
read_unraised : (fault : ReadFault) → IsUnraised (from_read fault)
read_unraised (read_fault.Syntax place) = tt
read_unraised read_fault.TooDeep = tt
read_unraised read_fault.OutOfMemory = tt

-- a reading
answer_unraised : {T : Type 0} (reading : Result T ReadFault) → HasUnraised (read_answer reading)
answer_unraised (Ok tree) = tt
answer_unraised (Err fault) = read_unraised fault

-- a value
printed_unraised : (result : Result ℤ ValueFault) → HasUnraised (printed result)
printed_unraised (Ok n) = tt
printed_unraised (Err value_fault.Overflow) = tt
printed_unraised (Err value_fault.ZeroDivision) = tt
printed_unraised (Err value_fault.Shift) = tt
printed_unraised (Err value_fault.OutOfMemory) = tt

-- what a step shows
shows_unraised : (text : Result (List ℕ) InterpFault) (trees : List Tree) → HasUnraised text
    → FailsUnraised (shows text trees).next
shows_unraised (Ok text) [] is = tt
shows_unraised (Ok text) (tree ∷ trees) is = tt
shows_unraised (Err fault) trees is = is

-- a step
step_unraised : (state : Bindings) (cell : List Tree) (stepped : Stepped) (after : Bindings) (left : List Tree)
    → Runs state cell stepped after left → FailsUnraised stepped.next
step_unraised state [] stepped after left runs = absurd runs
step_unraised state (tree ∷ trees) stepped after left runs =
    subst (λ (s : Stepped). FailsUnraised s.next) (sym runs.0)
    (shows_unraised (printed (value tree state).result) trees (printed_unraised (value tree state).result))

-- a judgement
judges_unraised : (text : List ℕ) (answer : Result Completeness InterpFault) → Judges text answer → HasUnraised answer
judges_unraised text (Ok judged) judges = tt
judges_unraised text (Err fault) judges = absurd judges

-- what a statement is worth
worth_unraised : (old : Bindings) (text : List ℕ) (statement : Result Tree ReadFault)
    (answer : Result (List ℕ) InterpFault) (new : Bindings) → IsWorth old text statement answer new → HasUnraised answer
worth_unraised old text (Ok tree) answer new is =
    subst HasUnraised (sym is.0) (printed_unraised (value tree old).result)
worth_unraised old text (Err fault) answer new is = subst HasUnraised (sym is.0) (read_unraised fault)

pub arithmetic_never_raises : NeverRaises shell_meaning
arithmetic_never_raises = record {
  info = λ state answer is. subst HasUnraised (sym is) tt;
  begin = λ state text answer after begins. subst HasUnraised (sym begins.0.answers) (answer_unraised begins.0.cell);
  step = step_unraised;
  completion = λ state text cursor answer completes. subst HasUnraised (sym completes.answers) tt;
  inspection = λ state text cursor answer is. subst HasUnraised (sym is) tt;
  judgement = λ state text answer judges. judges_unraised _ answer judges;
  evaluation = λ state text answer after is. worth_unraised state text is.statement answer after is.evaluates;
}
