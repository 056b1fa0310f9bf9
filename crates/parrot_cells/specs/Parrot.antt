-- What the language of a parrot means, and its laws.
use Rattle.std.proofs.Common.{◌≡◌, ℕ, suc, List, [], Option, Some, None, Ok, refl, sym, ◌∙◌, subst}
use Rattle.std.specs.Prelude.{codes}
use Rattle.interp_core.specs.Interpreter.{FailsOwn, HasOneValue, HasOwn, IsEnd, Laws, Meaning}
use Rattle.interp_core.specs.declared.answer.Completeness.TheVariants.{Complete}
use Rattle.interp_core.specs.declared.answer.Info.{Info}
use Rattle.interp_core.specs.declared.answer.Next.TheVariants.{Done}
use Rattle.interp_core.specs.declared.answer.Stepped.{Stepped}

-- what the language says of itself
abbrev pub parrot_info : Info
parrot_info = record {
  banner = codes "A parrot";
  file_extension = codes ".txt";
  mimetype = codes "text/plain";
  name = codes "parrot";
  version = codes "1.0";
}

-- a cell has one step, until that has run
abbrev pub steps_of : Option (List ℕ) → ℕ
steps_of (Some text) = 1
steps_of None = 0

-- A cell's step gives as its value the text that was heard last, and then the cell's own text is what was heard.
abbrev pub Runs : List ℕ → Option (List ℕ) → Stepped → List ℕ → Option (List ℕ) → Type 0
Runs heard None stepped after left = ⊥
Runs heard (Some text) stepped after left =
    (stepped ≡ record { outputs = []; next = Done (Some heard) }) × (after ≡ text) × (left ≡ None)

-- Each text is a cell, an expression is worth its own text, and nothing is known of words.
abbrev pub parrot_meaning : Meaning (List ℕ) (Option (List ℕ))
parrot_meaning = record {
  tells = λ heard answer. answer ≡ Ok parrot_info;
  begins = λ heard text answer after. (answer ≡ Ok (Some text)) × (after ≡ heard);
  steps = steps_of;
  runs = Runs;
  breaks_off = λ heard cell after. ⊥;
  completes = λ heard text at answer. answer ≡ Ok (record { matches = []; start = at; end = at });
  inspects = λ heard text at answer. answer ≡ Ok None;
  judges = λ heard text answer. answer ≡ Ok Complete;
  evaluates = λ heard text answer after. (answer ≡ Ok text) × (after ≡ heard);
  gives_up = λ heard text after. after ≡ heard;
}

-- a step is the only one of its cell
lessened : (heard : List ℕ) (cell : Option (List ℕ)) (stepped : Stepped) (after : List ℕ) (left : Option (List ℕ))
    → Runs heard cell stepped after left → steps_of cell ≡ suc (steps_of left)
lessened heard None stepped after left p = absurd p
lessened heard (Some text) stepped after left p = subst (λ (l : Option (List ℕ)). 1 ≡ suc (steps_of l)) (sym p.2) refl

-- and ends it
ended : (heard : List ℕ) (cell : Option (List ℕ)) (stepped : Stepped) (after : List ℕ) (left : Option (List ℕ))
    → Runs heard cell stepped after left → steps_of left ≡ 0 → IsEnd stepped.next
ended heard None stepped after left p none = absurd p
ended heard (Some text) stepped after left p none = subst (λ (s : Stepped). IsEnd s.next) (sym p.0) tt

-- no step fails
own_step : (heard : List ℕ) (cell : Option (List ℕ)) (stepped : Stepped) (after : List ℕ) (left : Option (List ℕ))
    → Runs heard cell stepped after left → FailsOwn stepped.next
own_step heard None stepped after left p = absurd p
own_step heard (Some text) stepped after left p = subst (λ (s : Stepped). FailsOwn s.next) (sym p.0) tt

-- a step comes to one thing
one_step : (heard : List ℕ) (cell : Option (List ℕ)) (a b : Stepped) (after other : List ℕ)
    (left rest : Option (List ℕ)) → Runs heard cell a after left → Runs heard cell b other rest
    → (a ≡ b) × (after ≡ other) × (left ≡ rest)
one_step heard None a b after other left rest p q = absurd p
one_step heard (Some text) a b after other left rest p q = (p.0 ∙ sym q.0, p.1 ∙ sym q.1, p.2 ∙ sym q.2)

-- the laws of every language
pub parrot_laws : Laws parrot_meaning
parrot_laws = record {
  lessened = lessened;
  ended = ended;
  own_info = λ heard answer p. subst HasOwn (sym p) tt;
  own_begin = λ heard text answer after p. subst HasOwn (sym p.0) tt;
  own_step = own_step;
  own_completion = λ heard text at answer p. subst HasOwn (sym p) tt;
  own_inspection = λ heard text at answer p. subst HasOwn (sym p) tt;
  own_judgement = λ heard text answer p. subst HasOwn (sym p) tt;
  own_evaluation = λ heard text answer after p. subst HasOwn (sym p.0) tt;
}

-- Each definition has one value at most. Only a language for which that is so needs to prove it.
pub parrot_once : HasOneValue parrot_meaning
parrot_once = record {
  one_info = λ heard a b p q. p ∙ sym q;
  one_begin = λ heard text a b after other p q. (p.0 ∙ sym q.0, p.1 ∙ sym q.1);
  one_step = one_step;
  one_completion = λ heard text at a b p q. p ∙ sym q;
  one_inspection = λ heard text at a b p q. p ∙ sym q;
  one_judgement = λ heard text a b p q. p ∙ sym q;
  one_evaluation = λ heard text a b after other p q. (p.0 ∙ sym q.0, p.1 ∙ sym q.1);
}
