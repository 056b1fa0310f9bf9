-- The laws of shell arithmetic as an interpreter, if a text has one reading.
use Rattle.std.proofs.Common.{◌≡◌, ℕ, zero, suc, List, [], ◌∷◌, length, Result, Ok, Err, inl, inr, refl, sym, ◌∙◌, ap}
use Rattle.std.proofs.Common.{subst, ℤ}
use Rattle.std.specs.Str.{chars}
use Rattle.arith_syntax.specs.declared.fault.ReadFault.{ReadFault}
use Rattle.arith_syntax.specs.declared.fault.ReadFault.TheVariants as read_fault
use Rattle.arith_syntax.specs.Grammar.{Tree}
use Rattle.arith_syntax.specs.Once.{HasOneReading}
use Rattle.arith_syntax.specs.Reading.{CellMeans, StatementMeans}
use Rattle.arith_value.specs.Value.{value}
use Rattle.arith_value.specs.Variables.{Bindings}
use Rattle.interp_core.specs.declared.answer.Completeness.{Completeness}
use Rattle.interp_core.specs.declared.answer.Completeness.TheVariants.{Complete, Incomplete, Invalid}
use Rattle.interp_core.specs.declared.answer.Stepped.{Stepped}
use Rattle.interp_core.specs.declared.fault.InterpFault.{InterpFault}
use Rattle.arith_value.specs.declared.fault.ValueFault.{ValueFault}
use Rattle.arith_value.specs.declared.fault.ValueFault.TheVariants as value_fault
use Rattle.arith_value.specs.Own as values
use Rattle.arith_value.proofs.Theorems.{values_are_their_own}
use Rattle.interp_core.specs.Interpreter.{FailsOwn, HasOneValue, HasOwn, IsEnd, Laws}
use Rattle.arith_shell.specs.ShellArithmetic.{Begins, IsWorth, IsEvaluated, Judges, Runs, printed, read_answer}
use Rattle.arith_shell.specs.ShellArithmetic.{shell_meaning, shows}

-- a step comes to one thing
step_once : (state : Bindings) (cell : List Tree) (a b : Stepped) (after other : Bindings) (left rest : List Tree)
    → Runs state cell a after left → Runs state cell b other rest → (a ≡ b) × (after ≡ other) × (left ≡ rest)
step_once state [] a b after other left rest p q = absurd p
step_once state (tree ∷ trees) a b after other left rest p q = (p.0 ∙ sym q.0, p.1 ∙ sym q.1, p.2 ∙ sym q.2)

-- a step takes one statement
step_lessens : (state : Bindings) (cell : List Tree) (stepped : Stepped) (after : Bindings) (left : List Tree)
    → Runs state cell stepped after left → length cell ≡ suc (length left)
step_lessens state [] stepped after left p = absurd p
step_lessens state (tree ∷ trees) stepped after left p = ap (λ (ts : List Tree). suc (length ts)) (sym p.2)

-- a list with an element isn't empty
abbrev IsZero : ℕ → Type 0
IsZero zero = Unit {0}
IsZero (suc n) = ⊥

not_empty : (tree : Tree) (trees : List Tree) → length (tree ∷ trees) ≡ 0 → ⊥
not_empty tree trees none = subst IsZero (sym none) tt

-- a reading isn't both trees and a fault
abbrev HasTrees : Result (List Tree) ReadFault → Type 0
HasTrees (Ok trees) = Unit {0}
HasTrees (Err fault) = ⊥

not_both : (trees : List Tree) (fault : ReadFault) → Ok trees ≡ Err fault → ⊥
not_both trees fault both = subst HasTrees both tt

-- the fault of a reading that has one
abbrev fault_in : Result (List Tree) ReadFault → ReadFault
fault_in (Ok trees) = read_fault.OutOfMemory
fault_in (Err fault) = fault

-- what the last statement shows ends its cell
shows_end : (text : Result (List ℕ) InterpFault) (left : List Tree) → length left ≡ 0 → IsEnd (shows text left).next
shows_end (Ok text) [] none = tt
shows_end (Ok text) (tree ∷ trees) none = absurd (not_empty tree trees none)
shows_end (Err fault) left none = tt

-- the last step ends its cell
step_ends : (state : Bindings) (cell : List Tree) (stepped : Stepped) (after : Bindings) (left : List Tree)
    → Runs state cell stepped after left → length left ≡ 0 → IsEnd stepped.next
step_ends state [] stepped after left p none = absurd p
step_ends state (tree ∷ trees) stepped after left p none =
    let ended : IsEnd (shows (printed (value tree state).result) trees).next =
    shows_end (printed (value tree state).result) trees (ap length (sym p.2) ∙ none) in
    subst (λ (s : Stepped). IsEnd s.next) (sym p.0) ended

-- an evaluation comes to one thing
evaluates_once : (old : Bindings) (text : List ℕ) (statement : Result Tree ReadFault)
    (a b : Result (List ℕ) InterpFault) (after other : Bindings) → IsWorth old text statement a after
    → IsWorth old text statement b other → (a ≡ b) × (after ≡ other)
evaluates_once old text (Ok tree) a b after other p q = (p.0 ∙ sym q.0, p.1 ∙ sym q.1)
evaluates_once old text (Err fault) a b after other p q = (p.0 ∙ sym q.0, p.1 ∙ sym q.1)

-- a cell's fault is never want of memory
own_cell : (text : List ℕ) (cell : Result (List Tree) ReadFault) → CellMeans text cell → HasOwn (read_answer cell)
own_cell text (Ok trees) means = tt
own_cell text (Err (read_fault.Syntax place)) means = tt
own_cell text (Err read_fault.TooDeep) means = tt
own_cell text (Err read_fault.OutOfMemory) (inl wrong) = absurd wrong
own_cell text (Err read_fault.OutOfMemory) (inr (tokens, is, first)) = absurd first.fails

-- nor is a value's
own_printed : (result : Result ℤ ValueFault) → values.IsOwnResult result → HasOwn (printed result)
own_printed (Ok n) h = tt
own_printed (Err value_fault.Overflow) h = tt
own_printed (Err value_fault.ZeroDivision) h = tt
own_printed (Err value_fault.Shift) h = tt
own_printed (Err value_fault.OutOfMemory) h = h

own_value : (tree : Tree) (variables : Bindings) → HasOwn (printed (value tree variables).result)
own_value tree variables = own_printed (value tree variables).result (values_are_their_own tree variables)

own_shows : (text : Result (List ℕ) InterpFault) (left : List Tree) → HasOwn text → FailsOwn (shows text left).next
own_shows (Ok text) [] h = tt
own_shows (Ok text) (tree ∷ trees) h = tt
own_shows (Err fault) left h = h

-- a step's fault is its statement's
step_own : (state : Bindings) (cell : List Tree) (stepped : Stepped) (after : Bindings) (left : List Tree)
    → Runs state cell stepped after left → FailsOwn stepped.next
step_own state [] stepped after left p = absurd p
step_own state (tree ∷ trees) stepped after left p =
    subst (λ (s : Stepped). FailsOwn s.next) (sym p.0) (own_shows (printed (value tree state).result) trees
    (own_value tree state))

-- an evaluation's fault is its text's or its statement's
own_statement : (old : Bindings) (text : List ℕ) (statement : Result Tree ReadFault)
    (answer : Result (List ℕ) InterpFault) (new : Bindings) → StatementMeans (chars text) statement
    → IsWorth old text statement answer new → HasOwn answer
own_statement old text (Ok tree) answer new means p = subst HasOwn (sym p.0) (own_value tree old)
own_statement old text (Err (read_fault.Syntax place)) answer new means p = subst HasOwn (sym p.0) tt
own_statement old text (Err read_fault.TooDeep) answer new means p = subst HasOwn (sym p.0) tt
own_statement old text (Err read_fault.OutOfMemory) answer new (inl wrong) p = absurd wrong
own_statement old text (Err read_fault.OutOfMemory) answer new (inr (tokens, is, means)) p = absurd means

-- a judgement is no fault
own_judged : (text : List ℕ) (answer : Result Completeness InterpFault) → Judges text answer → HasOwn answer
own_judged text (Ok judgement) p = tt
own_judged text (Err fault) p = absurd p

module _ (reads : HasOneReading) where
  -- a text is a whole cell in one way
  judged_once : (text : List ℕ) (a b : Result Completeness InterpFault) → Judges text a → Judges text b → a ≡ b
  judged_once text (Ok Complete) (Ok Complete) p q = refl
  judged_once text (Ok Complete) (Ok Incomplete) p q = absurd
      (not_both p.0 (read_fault.Syntax (length text)) (reads.one_cell text (Ok p.0)
      (Err (read_fault.Syntax (length text))) p.1 q))
  judged_once text (Ok Complete) (Ok Invalid) p q = absurd
      (not_both p.0 q.0 (reads.one_cell text (Ok p.0) (Err q.0) p.1 q.1))
  judged_once text (Ok Incomplete) (Ok Complete) p q = absurd
      (not_both q.0 (read_fault.Syntax (length text)) (reads.one_cell text (Ok q.0)
      (Err (read_fault.Syntax (length text))) q.1 p))
  judged_once text (Ok Incomplete) (Ok Incomplete) p q = refl
  judged_once text (Ok Incomplete) (Ok Invalid) p q =
      absurd (q.2 (ap fault_in (reads.one_cell text (Err q.0) (Err (read_fault.Syntax (length text))) q.1 p)))
  judged_once text (Ok Invalid) (Ok Complete) p q = absurd
      (not_both q.0 p.0 (reads.one_cell text (Ok q.0) (Err p.0) q.1 p.1))
  judged_once text (Ok Invalid) (Ok Incomplete) p q =
      absurd (p.2 (ap fault_in (reads.one_cell text (Err p.0) (Err (read_fault.Syntax (length text))) p.1 q)))
  judged_once text (Ok Invalid) (Ok Invalid) p q = refl
  judged_once text (Ok Complete) (Err fault) p q = absurd q
  judged_once text (Ok Incomplete) (Err fault) p q = absurd q
  judged_once text (Ok Invalid) (Err fault) p q = absurd q
  judged_once text (Err fault) b p q = absurd p

  -- a cell is begun in one way
  begun_once : (state : Bindings) (text : List ℕ) (a b : Result (List Tree) InterpFault) (after other : Bindings)
      → Begins state text a after → Begins state text b other → (a ≡ b) × (after ≡ other)
  begun_once state text a b after other p q = (
    p.0.answers ∙ ap read_answer (reads.one_cell (chars text) p.0.cell q.0.cell p.0.means q.0.means) ∙ sym q.0.answers,
    p.1 ∙ sym q.1,
  )

  -- a text is evaluated in one way
  evaluated_once : (state : Bindings) (text : List ℕ) (a b : Result (List ℕ) InterpFault) (after other : Bindings)
      → IsEvaluated state text a after → IsEvaluated state text b other → (a ≡ b) × (after ≡ other)
  evaluated_once state text a b after other p q =
      let same : p.statement ≡ q.statement = reads.one_statement (chars text) p.statement q.statement p.means q.means in
      evaluates_once state text q.statement a b after other (subst (λ s. IsWorth state text s a after) same p.evaluates)
      q.evaluates

  pub shell_laws : Laws shell_meaning
  shell_laws = record {
    lessened = step_lessens;
    ended = step_ends;
    own_info = λ state answer p. subst HasOwn (sym p) tt;
    own_begin = λ state text answer after p. subst HasOwn (sym p.0.answers) (own_cell (chars text) p.0.cell p.0.means);
    own_step = step_own;
    own_completion = λ state text cursor answer p. subst HasOwn (sym p.answers) tt;
    own_inspection = λ state text cursor answer p. subst HasOwn (sym p) tt;
    own_judgement = λ state text. own_judged (chars text);
    own_evaluation = λ state text answer after p. own_statement state text p.statement answer after p.means p.evaluates;
  }

  -- each definition of shell arithmetic has one value
  pub shell_once : HasOneValue shell_meaning
  shell_once = record {
    one_info = λ state a b p q. p ∙ sym q;
    one_begin = begun_once;
    one_step = step_once;
    one_completion = λ state text cursor a b p q. p.answers ∙ sym q.answers;
    one_inspection = λ state text cursor a b p q. p ∙ sym q;
    one_judgement = λ state text. judged_once (chars text);
    one_evaluation = evaluated_once;
  }
