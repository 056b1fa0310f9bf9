-- Expressions that are evaluated one after the other.
use Rattle.std.proofs.Common.{◌≡◌, inl, inr, ℕ, List, [], ◌∷◌, ◌++◌, Result, Err, refl, sym, ◌∙◌, ap, subst}
use Rattle.std.proofs.Common.{append_assoc}
use Rattle.interp_core.specs.Interpreter.{Meaning, Answers, OnMemory}
use Rattle.interp_core.specs.declared.fault.InterpFault.{InterpFault}
use Rattle.interp_core.specs.declared.fault.InterpFault.TheVariants.{Syntax, Overflow, ZeroDivision, Shift, TooDeep}
use Rattle.interp_core.specs.declared.fault.InterpFault.TheVariants.{Interrupted, OutOfMemory, Raised}
use Rattle.jmsg_types.specs.declared.reply.Shown.{Shown}
use Rattle.kernel_engine.specs.Answer.{Evaluates, EvaluatesFront, LeavesExpression, shown_of}

module _ {State Cell : Type 0} (m : Meaning State Cell) where
  -- of all expressions some were evaluated, in front of the rest
  pub record EvaluatedSoFar (state at : State) (all taken rest : List (List ℕ × List ℕ))
      (values : List (List ℕ × Shown)) : Type 0 where
    pub whole : all ≡ taken ++ rest
    pub evaluates : Evaluates m state taken values at

  -- one more expression is evaluated behind the others
  pub evaluates_on : (state : State) (taken : List (List ℕ × List ℕ)) (values : List (List ℕ × Shown)) (at : State)
      (expression : List ℕ × List ℕ) (answer : Result (List ℕ) InterpFault) (after : State)
      → Evaluates m state taken values at → m.evaluates at expression.1 answer after
      → Evaluates m state (taken ++ expression ∷ []) (values ++ (expression.0, shown_of answer) ∷ []) after
  evaluates_on state [] values at expression answer after (none, same) one = (
    answer,
    after,
    [],
    subst (λ s. m.evaluates s expression.1 answer after) same one,
    ap (λ l. l ++ (expression.0, shown_of answer) ∷ []) none,
    (refl, refl),
  )
  evaluates_on state (x ∷ taken) values at expression answer after (a, next, rest, runs, is, more) one = (
    a,
    next,
    rest ++ (expression.0, shown_of answer) ∷ [],
    runs,
    ap (λ l. l ++ (expression.0, shown_of answer) ∷ []) is,
    evaluates_on next taken rest at expression answer after more one,
  )

  -- one more was evaluated
  pub evaluated_on : (state at after : State) (all taken before rest : List (List ℕ × List ℕ))
      (values : List (List ℕ × Shown)) (expression : List ℕ × List ℕ) (shown : Shown)
      → EvaluatedSoFar state at all taken before values → before ≡ expression ∷ rest
      → ((answer : Result (List ℕ) InterpFault) × m.evaluates at expression.1 answer after
      × (shown ≡ shown_of answer))
      → EvaluatedSoFar state after all (taken ++ expression ∷ []) rest (values ++ (expression.0, shown) ∷ [])
  evaluated_on state at after all taken before rest values expression shown so_far next (answer, one, is) = record {
    whole = so_far.whole ∙ ap (λ l. taken ++ l) next ∙ sym (append_assoc taken (expression ∷ []) rest);
    evaluates = subst (λ s. Evaluates m state (taken ++ expression ∷ []) (values ++ (expression.0, s) ∷ []) after)
        (sym is) (evaluates_on state taken values at expression answer after so_far.evaluates one);
  }

  -- one more was evaluated, and what it came to stands behind the others
  pub evaluated_behind : (state at after : State) (all taken before rest : List (List ℕ × List ℕ))
      (values more : List (List ℕ × Shown)) (expression : List ℕ × List ℕ)
      → EvaluatedSoFar state at all taken before values → before ≡ expression ∷ rest
      → ((answer : Result (List ℕ) InterpFault) × m.evaluates at expression.1 answer after
      × (more ≡ values ++ (expression.0, shown_of answer) ∷ []))
      → EvaluatedSoFar state after all (taken ++ expression ∷ []) rest more
  evaluated_behind state at after all taken before rest values more expression so_far next (answer, one, is) =
      rw is (evaluated_on state at after all taken before rest values expression (shown_of answer) so_far next
      (answer, one, refl))

  -- only a front part was evaluated
  pub evaluated_front : (state at after : State) (all taken before rest : List (List ℕ × List ℕ))
      (values : List (List ℕ × Shown)) (expression : List ℕ × List ℕ)
      → EvaluatedSoFar state at all taken before values → before ≡ expression ∷ rest
      → LeavesExpression m at expression.1 after → EvaluatesFront m state all after
  evaluated_front state at after all taken before rest values expression so_far next (inl gave_up) = record {
    front = taken;
    rest = before;
    whole = so_far.whole;
    values = values;
    at = at;
    evaluates = so_far.evaluates;
    left = inr (expression, rest, next, gave_up);
  }
  evaluated_front state at after all taken before rest values expression so_far next (inr (answer, one)) =
      let on = evaluated_on state at after all taken before rest values expression (shown_of answer) so_far next
      (answer, one, refl) in
      record {
        front = taken ++ expression ∷ [];
        rest = rest;
        whole = on.whole;
        values = values ++ (expression.0, shown_of answer) ∷ [];
        at = after;
        evaluates = on.evaluates;
        left = inl refl;
      }

  -- an expression was evaluated, and found a fault or no memory
  pub left_by_fault : (state : State) (text : List ℕ) (fault : InterpFault) (after : State)
      → Answers (λ answer. m.evaluates state text answer after) (Err fault)
      → OnMemory {T = List ℕ} (Err fault) (m.gives_up state text after) → LeavesExpression m state text after
  left_by_fault state text (Syntax place) after answered refused = inr (Err (Syntax place), answered)
  left_by_fault state text Overflow after answered refused = inr (Err Overflow, answered)
  left_by_fault state text ZeroDivision after answered refused = inr (Err ZeroDivision, answered)
  left_by_fault state text Shift after answered refused = inr (Err Shift, answered)
  left_by_fault state text TooDeep after answered refused = inr (Err TooDeep, answered)
  left_by_fault state text Interrupted after answered refused = inr (Err Interrupted, answered)
  left_by_fault state text (Raised name value) after answered refused = inr (Err (Raised name value), answered)
  left_by_fault state text OutOfMemory after answered refused = inl refused
