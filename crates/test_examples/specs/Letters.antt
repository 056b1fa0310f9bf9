-- A language whose cells are letters, each of which is a step: what it means.
use Rattle.std.proofs.Common.{zero, suc, sym, ◌∙◌, ap, subst}
use Rattle.std.specs.Prelude.{◌≡◌, ⊤, ℕ, List, [], ◌∷◌, length, Bool, true, false, ◌==◌, if◌then◌else◌}
use Rattle.std.specs.Prelude.{Option, Some, None, Ok, Err, codes, replicate}
use Rattle.interp_core.specs.Interpreter.{FailsOwn, HasOneValue, HasOwn, IsEnd, Laws, Meaning}
use Rattle.interp_core.specs.declared.answer.Next.{Next}
use Rattle.interp_core.specs.declared.answer.Next.TheVariants.{More, Done, Failed}
use Rattle.interp_core.specs.declared.answer.Output.{Output}
use Rattle.interp_core.specs.declared.answer.Output.TheVariants.{Stdout, Stderr, Display, DisplayHtml}
use Rattle.interp_core.specs.declared.answer.Stepped.{Stepped}
use Rattle.interp_core.specs.declared.fault.InterpFault.{InterpFault}
use Rattle.interp_core.specs.declared.fault.InterpFault.TheVariants as fault

-- what a letter writes: `o`, `e` and `d` what they are on standard output, on standard error and on display, `b` the
-- first two; `p` and `q` what they are on display, with two buffers, and `h` as HTML too
abbrev pub outputs_of : ℕ → List Output
outputs_of letter =
    if letter == 111 then Stdout (codes "o") ∷ []
    else (if letter == 101 then Stderr (codes "e") ∷ []
    else (if letter == 98 then Stdout (codes "o") ∷ Stderr (codes "e") ∷ []
    else (if letter == 100 then Display (codes "d") [] ∷ []
    else (if letter == 112 then Display (codes "p") ((0x00 ∷ 0xFF ∷ []) ∷ [] ∷ []) ∷ []
    else (if letter == 113 then Display (codes "q") (replicate 256 113 ∷ [] ∷ []) ∷ []
    else (if letter == 104 then DisplayHtml (codes "h") (codes "<b>h</b>") ∷ [] else []))))))

-- the value of a cell that ends with this letter: `v` has one
abbrev pub value_of : ℕ → Option (List ℕ)
value_of letter = if letter == 118 then Some (codes "v") else None

-- the fault of the language's own that `r` raises
abbrev pub letter_error : InterpFault
letter_error = fault.Raised (codes "LetterError") (codes "r was run")

-- a letter fails, if it is `x` or `r`
abbrev pub unless_failed : ℕ → Next → Next
unless_failed letter next =
    if letter == 120 then Failed fault.Overflow else (if letter == 114 then Failed letter_error else next)

-- how a cell goes on behind a letter, which may be the last
abbrev pub next_of : ℕ → Bool → Next
next_of letter true = unless_failed letter (Done (value_of letter))
next_of letter false = unless_failed letter More

-- one step runs the first letter
abbrev pub Runs : {State : Type 0} → State → List ℕ → Stepped → State → List ℕ → Type 0
Runs old [] stepped new left = ⊥
Runs old (letter ∷ letters) stepped new left =
    (stepped ≡ record { outputs = outputs_of letter; next = next_of letter (length letters == 0) }) × (new ≡ old)
    × (left ≡ letters)

-- the language: each text is a cell, an expression is worth its own text, and nothing else is known
abbrev pub letters_meaning : {State : Type 0} → Meaning State (List ℕ)
letters_meaning = record {
  tells = λ state answer. answer ≡ Err fault.Shift;
  begins = λ state text answer after. (answer ≡ Ok text) × (after ≡ state);
  steps = λ cell. length cell;
  runs = Runs;
  breaks_off = λ state cell after. after ≡ state;
  completes = λ state text cursor answer. answer ≡ Err fault.TooDeep;
  inspects = λ state text cursor answer. answer ≡ Err (fault.Syntax 3);
  judges = λ state text answer. answer ≡ Err fault.ZeroDivision;
  evaluates = λ state text answer after. (answer ≡ Ok text) × (after ≡ state);
  gives_up = λ state text after. after ≡ state;
}

-- a list with an element isn't empty
abbrev IsZero : ℕ → Type 0
IsZero zero = ⊤
IsZero (suc n) = ⊥

not_zero : (n : ℕ) → suc n ≡ 0 → ⊥
not_zero n none = subst IsZero (sym none) tt

-- a last letter ends its cell, or fails
ends_or_fails : (fails raises : Bool) (letter : ℕ)
    → IsEnd (if fails then Failed fault.Overflow else (if raises then Failed letter_error else Done (value_of letter)))
ends_or_fails true raises letter = tt
ends_or_fails false true letter = tt
ends_or_fails false false letter = tt

-- a letter fails by a fault of its own, where it doesn't do so otherwise
owns_failure : (fails raises : Bool) (next : Next) → FailsOwn next
    → FailsOwn (if fails then Failed fault.Overflow else (if raises then Failed letter_error else next))
owns_failure true raises next owns = tt
owns_failure false true next owns = tt
owns_failure false false next owns = owns

next_owns : (letter : ℕ) (last : Bool) → FailsOwn (next_of letter last)
next_owns letter true = owns_failure (letter == 120) (letter == 114) (Done (value_of letter)) tt
next_owns letter false = owns_failure (letter == 120) (letter == 114) More tt

-- behind the last letter the cell ends
next_ends : (letter : ℕ) (letters : List ℕ) → length letters ≡ 0 → IsEnd (next_of letter (length letters == 0))
next_ends letter [] none = ends_or_fails (letter == 120) (letter == 114) letter
next_ends letter (other ∷ letters) none = absurd (not_zero (length letters) none)

module _ {State : Type 0} where
  -- a step comes to one thing
  step_once : (state : State) (cell : List ℕ) (a b : Stepped) (after other : State) (left rest : List ℕ)
      → Runs state cell a after left → Runs state cell b other rest → (a ≡ b) × (after ≡ other) × (left ≡ rest)
  step_once state [] a b after other left rest p q = absurd p
  step_once state (letter ∷ letters) a b after other left rest p q =
      (p.0 ∙ sym q.0, p.1 ∙ sym q.1, p.2 ∙ sym q.2)

  -- a step takes one letter
  step_lessens : (state : State) (cell : List ℕ) (stepped : Stepped) (after : State) (left : List ℕ)
      → Runs state cell stepped after left → length cell ≡ suc (length left)
  step_lessens state [] stepped after left p = absurd p
  step_lessens state (letter ∷ letters) stepped after left p = ap (λ (l : List ℕ). suc (length l)) (sym p.2)

  -- so does the last step
  step_ends : (state : State) (cell : List ℕ) (stepped : Stepped) (after : State) (left : List ℕ)
      → Runs state cell stepped after left → length left ≡ 0 → IsEnd stepped.next
  step_ends state [] stepped after left p none = absurd p
  step_ends state (letter ∷ letters) stepped after left p none =
      subst (λ (s : Stepped). IsEnd s.next) (sym p.0)
      (next_ends letter letters (ap length (sym p.2) ∙ none))

  -- a step fails by a fault of its own
  step_owns : (state : State) (cell : List ℕ) (stepped : Stepped) (after : State) (left : List ℕ)
      → Runs state cell stepped after left → FailsOwn stepped.next
  step_owns state [] stepped after left p = absurd p
  step_owns state (letter ∷ letters) stepped after left p =
      subst (λ (s : Stepped). FailsOwn s.next) (sym p.0) (next_owns letter (length letters == 0))

  -- the laws of the language
  pub letters_laws : Laws (letters_meaning {State = State})
  letters_laws = record {
    lessened = step_lessens;
    ended = step_ends;
    own_info = λ state answer p. subst HasOwn (sym p) tt;
    own_begin = λ state text answer after p. subst HasOwn (sym p.0) tt;
    own_step = step_owns;
    own_completion = λ state text cursor answer p. subst HasOwn (sym p) tt;
    own_inspection = λ state text cursor answer p. subst HasOwn (sym p) tt;
    own_judgement = λ state text answer p. subst HasOwn (sym p) tt;
    own_evaluation = λ state text answer after p. subst HasOwn (sym p.0) tt;
  }

  -- each of its definitions has one value
  pub letters_once : HasOneValue (letters_meaning {State = State})
  letters_once = record {
    one_info = λ state a b p q. p ∙ sym q;
    one_begin = λ state text a b after other p q. (p.0 ∙ sym q.0, p.1 ∙ sym q.1);
    one_step = step_once;
    one_completion = λ state text cursor a b p q. p ∙ sym q;
    one_inspection = λ state text cursor a b p q. p ∙ sym q;
    one_judgement = λ state text a b p q. p ∙ sym q;
    one_evaluation = λ state text a b after other p q. (p.0 ∙ sym q.0, p.1 ∙ sym q.1);
  }
