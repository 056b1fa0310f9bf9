-- What the readings and values of shell arithmetic come to as an interpreter's answers.
use Rattle.std.proofs.Common.{ℕ, List, Result, Ok, Err, inr, refl}
use Rattle.std.specs.Prelude.{⊤}
use Rattle.std.specs.Str.{chars}
use Rattle.arith_syntax.specs.declared.fault.ReadFault.{ReadFault}
use Rattle.arith_syntax.specs.declared.fault.ReadFault.TheVariants as read_fault
use Rattle.arith_syntax.specs.Grammar.{Tree}
use Rattle.arith_syntax.specs.Reading.{CellMeans, StatementMeans, OrMemory}
use Rattle.arith_value.specs.Variables.{Bindings}
use Rattle.interp_core.specs.declared.fault.InterpFault.{InterpFault}
use Rattle.interp_core.specs.declared.fault.InterpFault.TheVariants as fault
use Rattle.interp_core.specs.Interpreter.{Answers, IfMemory, OnMemory}
use Rattle.arith_shell.specs.ShellArithmetic.{from_read, GivesUp, IsEvaluated, IsPrintedValue, IsRead}

-- a fault of a cell's text
pub read_fails : (text : List ℕ) (f : ReadFault) → OrMemory (λ g. CellMeans (chars text) (Err g)) f
    → IfMemory (from_read f) ⊤ (IsRead text (Err (from_read f)))
read_fails text (read_fault.Syntax place) h = record { cell = Err (read_fault.Syntax place); means = h; answers = refl }
read_fails text read_fault.TooDeep h = record { cell = Err read_fault.TooDeep; means = h; answers = refl }
read_fails text read_fault.OutOfMemory h = tt

-- a fault of a statement's text
pub statement_fails : (old : Bindings) (text : List ℕ) (f : ReadFault)
    → OrMemory (λ g. StatementMeans (chars text) (Err g)) f
    → IfMemory (from_read f) ⊤ (IsEvaluated old text (Err (from_read f)) old)
statement_fails old text (read_fault.Syntax place) h =
    record { statement = Err (read_fault.Syntax place); means = h; evaluates = (refl, refl) }
statement_fails old text read_fault.TooDeep h =
    record { statement = Err read_fault.TooDeep; means = h; evaluates = (refl, refl) }
statement_fails old text read_fault.OutOfMemory h = tt

-- a statement that was evaluated
pub answered : (old new : Bindings) (text : List ℕ) (tree : Tree) → StatementMeans (chars text) (Ok tree)
    → (answer : Result (List ℕ) InterpFault) → IsPrintedValue tree old answer new
    → Answers (λ a. IsEvaluated old text a new) answer
answered old new text tree means (Ok printed) h = record { statement = Ok tree; means = means; evaluates = h }
answered old new text tree means (Err (fault.Syntax place)) h =
    record { statement = Ok tree; means = means; evaluates = h }
answered old new text tree means (Err fault.Overflow) h = record { statement = Ok tree; means = means; evaluates = h }
answered old new text tree means (Err fault.ZeroDivision) h =
    record { statement = Ok tree; means = means; evaluates = h }
answered old new text tree means (Err fault.Shift) h = record { statement = Ok tree; means = means; evaluates = h }
answered old new text tree means (Err fault.TooDeep) h = record { statement = Ok tree; means = means; evaluates = h }
answered old new text tree means (Err fault.Interrupted) h =
    record { statement = Ok tree; means = means; evaluates = h }
answered old new text tree means (Err fault.OutOfMemory) h = tt
answered old new text tree means (Err (fault.Raised name words)) h =
    record { statement = Ok tree; means = means; evaluates = h }

-- a statement whose evaluation found no memory
pub gave_up : (old new : Bindings) (text : List ℕ) (tree : Tree) → StatementMeans (chars text) (Ok tree)
    → (answer : Result (List ℕ) InterpFault) → IsPrintedValue tree old answer new
    → OnMemory answer (GivesUp old text new)
gave_up old new text tree means (Ok printed) h = tt
gave_up old new text tree means (Err (fault.Syntax place)) h = tt
gave_up old new text tree means (Err fault.Overflow) h = tt
gave_up old new text tree means (Err fault.ZeroDivision) h = tt
gave_up old new text tree means (Err fault.Shift) h = tt
gave_up old new text tree means (Err fault.TooDeep) h = tt
gave_up old new text tree means (Err fault.Interrupted) h = tt
gave_up old new text tree means (Err fault.OutOfMemory) h = inr (tree, means, h)
gave_up old new text tree means (Err (fault.Raised name words)) h = tt
