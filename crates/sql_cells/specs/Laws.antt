-- The laws of SQL as an interpreter.
use Rattle.std.proofs.Common.{◌≡◌, ℕ, zero, suc, List, [], ◌∷◌, length, ◌==◌, Bool, true, false, inl, inr, Option}
use Rattle.std.proofs.Common.{Some, None, Result, Ok, Err, sym, ◌∙◌, ap, subst}
use Rattle.interp_core.specs.Interpreter.{FailsOwn, HasOwn, IsEnd, Laws}
use Rattle.interp_core.specs.declared.answer.Completeness.{Completeness}
use Rattle.interp_core.specs.declared.answer.Output.{Output}
use Rattle.interp_core.specs.declared.answer.Stepped.{Stepped}
use Rattle.interp_core.specs.declared.fault.InterpFault.{InterpFault}
use Rattle.sqlite_trees.specs.declared.store.Store.{Ghosts}
use Rattle.sqlite.specs.Held.{Held}
use Rattle.std.specs.Prelude.{MatchBool}
use Rattle.sql_cells.specs.declared.dots.Dot.{Dot}
use Rattle.sql_cells.specs.declared.dots.Dot.TheVariants.{Help, Tables, Schema, Limit, Unknown}
use Rattle.sql_cells.specs.Dots.{dot_of, first_word, number, second_word}
use Rattle.sql_cells.specs.Parts.{is_dotted, past_gaps}
use Rattle.sql_cells.specs.Shown.{shown}
use Rattle.sql_cells.specs.Meaning.{Begins, Comes, DotComes, Evaluates, Judges, Limits, LineComes, PieceComes}
use Rattle.sql_cells.specs.Meaning.{StepComes, Steps, sql_meaning, stepped_of}

-- a number is zero
abbrev IsZero : ℕ → Type 0
IsZero zero = Unit {0}
IsZero (suc n) = ⊥

-- a list with an element isn't empty
some : (piece : List ℕ) (pieces : List (List ℕ)) → length (piece ∷ pieces) ≡ 0 → ⊥
some piece pieces none = subst IsZero (sym none) tt

-- the step of the last statement ends the cell
stepped_ends : (outcome : Result (List Output) InterpFault) (left : List (List ℕ)) → length left ≡ 0
    → IsEnd (stepped_of outcome (length left == 0)).next
stepped_ends (Ok outputs) [] none = tt
stepped_ends (Ok outputs) (piece ∷ pieces) none = absurd (some piece pieces none)
stepped_ends (Err fault) left none = tt

-- a step has the fault of its statement
stepped_owns : (outcome : Result (List Output) InterpFault) (last : Bool) → HasOwn outcome
    → FailsOwn (stepped_of outcome last).next
stepped_owns (Ok outputs) true own = tt
stepped_owns (Ok outputs) false own = tt
stepped_owns (Err fault) last own = own

module _ {S : Type 0} (g : Ghosts S) where
  -- a line that sets the limit has a fault of its own
  limit_owns : (steps : Option ℕ) (old new : Held S) (outcome : Result (List Output) InterpFault)
      → Limits g steps old new outcome → HasOwn outcome
  limit_owns None old new outcome (same, is) = subst HasOwn (sym is) tt
  limit_owns (Some steps) old new outcome (set, is) = subst HasOwn (sym is) tt

  -- a line that begins with a dot has a fault of its own
  dot_owns : (dot : Dot) (word : List ℕ) (old new : Held S) (outcome : Result (List Output) InterpFault)
      → DotComes g dot word old new outcome → HasOwn outcome
  dot_owns Help word old new outcome (same, is) = subst HasOwn (sym is) tt
  dot_owns Tables word old new outcome comes = comes.0
  dot_owns Schema word old new outcome comes = comes.0
  dot_owns Limit word old new outcome limits = limit_owns (number word) old new outcome limits
  dot_owns Unknown word old new outcome (same, is) = subst HasOwn (sym is) tt

  -- a part of a cell has a fault of its own
  text_owns : (dotted : Bool) (text : List ℕ) (old new : Held S) (outcome : Result (List Output) InterpFault)
      → MatchBool dotted (LineComes g (past_gaps text) old new outcome) (Comes g shown text old new outcome)
      → HasOwn outcome
  text_owns true text old new outcome comes =
      dot_owns (dot_of (first_word (past_gaps text))) (second_word (past_gaps text)) old new outcome comes
  text_owns false text old new outcome comes = comes.0

  -- octets have a fault of their own
  piece_owns : (piece : List ℕ) (old new : Held S) (outcome : Result (List Output) InterpFault)
      → PieceComes g piece old new outcome → HasOwn outcome
  piece_owns piece old new outcome (inl comes) = text_owns (is_dotted piece) piece old new outcome comes.1
  piece_owns piece old new outcome (inr (bad, same, is)) = subst HasOwn (sym is) tt

  -- a step has a fault of its own
  step_owns : (piece : List ℕ) (old new : Option (Held S)) (outcome : Result (List Output) InterpFault)
      → StepComes g piece old new outcome → HasOwn outcome
  step_owns piece (Some old) (Some new) outcome comes = piece_owns piece old new outcome comes
  step_owns piece (Some old) None outcome comes = absurd comes
  step_owns piece None (Some new) outcome comes = absurd comes
  step_owns piece None None outcome is = subst HasOwn (sym is) tt

  -- a step lessens the statements that are left by one
  lessens : (old : Option (Held S)) (cell : List (List ℕ)) (stepped : Stepped) (new : Option (Held S))
      (left : List (List ℕ)) → Steps g old cell stepped new left → length cell ≡ suc (length left)
  lessens old [] stepped new left p = absurd p
  lessens old (piece ∷ pieces) stepped new left p = ap (λ (l : List (List ℕ)). suc (length l)) (sym p.0)

  -- the step that leaves none ends the cell
  ends : (old : Option (Held S)) (cell : List (List ℕ)) (stepped : Stepped) (new : Option (Held S))
      (left : List (List ℕ)) → Steps g old cell stepped new left → length left ≡ 0 → IsEnd stepped.next
  ends old [] stepped new left p none = absurd p
  ends old (piece ∷ pieces) stepped new left p none =
      subst (λ (s : Stepped). IsEnd s.next) (sym p.1.2) (stepped_ends p.1.0 pieces (ap length (sym p.0) ∙ none))

  -- a step has a fault of its own
  owns : (old : Option (Held S)) (cell : List (List ℕ)) (stepped : Stepped) (new : Option (Held S))
      (left : List (List ℕ)) → Steps g old cell stepped new left → FailsOwn stepped.next
  owns old [] stepped new left p = absurd p
  owns old (piece ∷ pieces) stepped new left p =
      subst (λ (s : Stepped). FailsOwn s.next) (sym p.1.2) (stepped_owns p.1.0 (length pieces == 0)
      (step_owns piece old new p.1.0 p.1.1))

  -- a text never fails to be cut
  own_begins : (old : Option (Held S)) (text : List ℕ) (answer : Result (List (List ℕ)) InterpFault)
      (new : Option (Held S)) → Begins g old text answer new → HasOwn answer
  own_begins old text (Ok cell) new p = tt
  own_begins old text (Err fault) new p = absurd p

  -- a text never fails to be judged
  own_judges : (text : List ℕ) (answer : Result Completeness InterpFault) → Judges g text answer → HasOwn answer
  own_judges text (Ok judged) p = tt
  own_judges text (Err fault) p = absurd p

  -- an evaluation has a fault of its own
  own_evaluates : (old : Option (Held S)) (text : List ℕ) (answer : Result (List ℕ) InterpFault)
      (new : Option (Held S)) → Evaluates g old text answer new → HasOwn answer
  own_evaluates (Some old) text answer (Some new) p = p.0
  own_evaluates (Some old) text answer None p = absurd p
  own_evaluates None text answer (Some new) p = absurd p
  own_evaluates None text answer None is = subst HasOwn (sym is) tt

  -- the laws of SQL as an interpreter
  pub sql_laws : Laws (sql_meaning g)
  sql_laws = record {
    lessened = lessens;
    ended = ends;
    own_info = λ state answer p. subst HasOwn (sym p) tt;
    own_begin = own_begins;
    own_step = owns;
    own_completion = λ state text cursor answer p. subst HasOwn (sym p) tt;
    own_inspection = λ state text cursor answer p. subst HasOwn (sym p) tt;
    own_judgement = λ state text answer p. own_judges text answer p;
    own_evaluation = own_evaluates;
  }
