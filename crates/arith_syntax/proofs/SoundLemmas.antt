-- What the parser holds spells the tokens that it has taken, is grammatical, and can be made a whole statement.
use Rattle.std.proofs.Common.{◌≡◌, ℕ, ◌≤◌, Bool, true, false, cond, List, [], ◌∷◌, ◌++◌, refl, sym, ap, ◌∙◌, arith}
use Rattle.std.proofs.Common.{append_assoc, nat_le}
use Rattle.std.proofs.lemmas.Bool.{leb-true, leb-false}
use Rattle.std.proofs.lemmas.List.{append-nil}
use Rattle.arith_syntax.specs.declared.token.Token.{Token}
use Rattle.arith_syntax.specs.declared.token.Token.TheVariants.{Constant, Name, Operator, Assign, Question, Colon}
use Rattle.arith_syntax.specs.declared.token.Token.TheVariants.{Open, Close}
use Rattle.arith_syntax.specs.Grammar.{Tree, Number, operator_level, level, IsGrammatical, BeginsStatement, spelled}
use Rattle.arith_syntax.specs.Grammar.{unary_sign}
use Rattle.arith_syntax.specs.Machine.{Begun, Opened, Signed, Operated, Questioned, Divided, Named, rank, room}
use Rattle.arith_syntax.specs.Machine.{room_of, built, Settled, settle, StopsAt}
use Rattle.arith_syntax.proofs.MachineLemmas.{operator_level_least, level_most}

-- the tokens that began a construct
abbrev pub front : Begun → List Token
front Opened = Open ∷ []
front (Signed sign) = unary_sign sign ∷ []
front (Operated a op) = spelled a ++ (Operator op ∷ [])
front (Questioned c) = spelled c ++ (Question ∷ [])
front (Divided c a) = spelled c ++ (Question ∷ (spelled a ++ (Colon ∷ [])))
front (Named x op) = Name x ∷ Assign op ∷ []

-- the tokens that began some constructs, the outermost first
abbrev pub fronts : List Begun → List Token
fronts [] = []
fronts (b ∷ bs) = fronts bs ++ front b

-- tokens that end a construct
abbrev pub ending : Begun → List Token
ending Opened = Close ∷ []
ending (Signed sign) = []
ending (Operated a op) = []
ending (Questioned c) = Colon ∷ Constant 0 ∷ []
ending (Divided c a) = []
ending (Named x op) = []

-- tokens that end some constructs, the innermost first
abbrev pub endings : List Begun → List Token
endings [] = []
endings (b ∷ bs) = ending b ++ endings bs

-- the level of what a construct becomes
abbrev pub grade : Begun → ℕ
grade Opened = 0
grade (Signed sign) = 1
grade (Operated a op) = operator_level op
grade (Questioned c) = 12
grade (Divided c a) = 12
grade (Named x op) = 13

-- what has been read of a construct is grammatical
abbrev pub IsGood : Begun → Type 0
IsGood Opened = Unit {0}
IsGood (Signed sign) = Unit {0}
IsGood (Operated a op) = (level a ≤ operator_level op) × IsGrammatical a
IsGood (Questioned c) = (level c ≤ 11) × IsGrammatical c
IsGood (Divided c a) = (level c ≤ 11) × IsGrammatical c × IsGrammatical a
IsGood (Named x op) = Unit {0}

-- constructs are grammatical, and each fits into the one around it
abbrev pub AreGood : List Begun → Type 0
AreGood [] = Unit {0}
AreGood (b ∷ bs) = IsGood b × (grade b ≤ room_of bs) × AreGood bs

-- what a construct becomes is of its level
built_level : (b : Begun) (u : Tree) → level (built b u) ≡ grade b
built_level Opened u = refl
built_level (Signed sign) u = refl
built_level (Operated a op) u = refl
built_level (Questioned c) u = refl
built_level (Divided c a) u = refl
built_level (Named x op) u = refl

-- it is grammatical
built_good : (b : Begun) (u : Tree) → IsGood b → IsGrammatical u → level u ≤ room b → IsGrammatical (built b u)
built_good Opened u good said fits = said
built_good (Signed sign) u good said fits = (fits, said)
built_good (Operated a op) u good said fits = (good.0, omega (arith, operator_level_least op), good.1, said)
built_good (Questioned c) u good said fits = (good.0, omega arith, good.1, said, tt)
built_good (Divided c a) u good said fits = (good.0, fits, good.1, good.2, said)
built_good (Named x op) u good said fits = said

-- its tokens spell it
built_spelled : (b : Begun) (u : Tree) → spelled (built b u) ≡ front b ++ (spelled u ++ ending b)
built_spelled Opened u = refl
built_spelled (Signed sign) u = rw (append-nil (spelled u)) refl
built_spelled (Operated a op) u = rw (append-nil (spelled u), append_assoc (spelled a) (Operator op ∷ []) (spelled u))
    refl
built_spelled (Questioned c) u = rw (append_assoc (spelled c) (Question ∷ []) (spelled u ++ (Colon ∷ Constant 0 ∷ [])))
    refl
built_spelled (Divided c a) u =
    rw (
      append-nil (spelled u),
      append_assoc (spelled c) (Question ∷ (spelled a ++ (Colon ∷ []))) (spelled u),
      append_assoc (spelled a) (Colon ∷ []) (spelled u),
    ) refl
built_spelled (Named x op) u = rw (append-nil (spelled u)) refl

-- what ends at an operator is of its rank, and needs no token more
ends_at_rank : (b : Begun) (weak : ℕ) → rank b ≤ weak → weak ≤ 13 → (grade b ≡ rank b) × (ending b ≡ [])
ends_at_rank Opened weak strong most = absurd (omega arith)
ends_at_rank (Signed sign) weak strong most = (refl, refl)
ends_at_rank (Operated a op) weak strong most = (refl, refl)
ends_at_rank (Questioned c) weak strong most = absurd (omega arith)
ends_at_rank (Divided c a) weak strong most = (refl, refl)
ends_at_rank (Named x op) weak strong most = (refl, refl)

-- the tree of constructs that are all ended
finished : List Begun → Tree → Tree
finished [] u = u
finished (b ∷ bs) u = finished bs (built b u)

-- it is grammatical where the operand fits
finished_good : (bs : List Begun) (u : Tree) → AreGood bs → IsGrammatical u → level u ≤ room_of bs
    → IsGrammatical (finished bs u)
unfolding finished
finished_good [] u good said fits = said
finished_good (b ∷ bs) u good said fits =
    finished_good bs (built b u) good.2 (built_good b u good.0 said fits) (omega (arith, built_level b u, good.1))

-- it is spelled by what has been read and what ends the constructs
finished_spelled : (bs : List Begun) (u : Tree) → spelled (finished bs u) ≡ fronts bs ++ (spelled u ++ endings bs)
unfolding finished
finished_spelled [] u = sym (append-nil (spelled u))
finished_spelled (b ∷ bs) u =
    finished_spelled bs (built b u)
    ∙ ap (λ (xs : List Token). fronts bs ++ (xs ++ endings bs)) (built_spelled b u)
    ∙ (rw (
      append_assoc (fronts bs) (front b) (spelled u ++ (ending b ++ endings bs)),
      append_assoc (front b) (spelled u ++ ending b) (endings bs),
      append_assoc (spelled u) (ending b) (endings bs),
    ) refl)

-- what tokens that end in an operand have led to: constructs and that operand
pub record Holds (tokens : List Token) (bs : List Begun) (u : Tree) : Type 0 where
  pub good : AreGood bs
  pub spells : tokens ≡ fronts bs ++ spelled u
  pub grammatical : IsGrammatical u
  pub fits : level u ≤ room_of bs

-- what is held behind an operand begins a statement
pub held_begins : (tokens : List Token) (bs : List Begun) (u : Tree) → Holds tokens bs u → BeginsStatement tokens
held_begins tokens bs u held = record {
  more = endings bs;
  tree = finished bs u;
  statement = record {
    spells =
        ap (λ (xs : List Token). xs ++ endings bs) held.spells
        ∙ append_assoc (fronts bs) (spelled u) (endings bs)
        ∙ sym (finished_spelled bs u);
    fits = level_most (finished bs u);
    grammatical = finished_good bs u held.good held.grammatical held.fits;
  };
}

-- where an operand is due, a constant can stand
pub due_begins : (bs : List Begun) → AreGood bs → BeginsStatement (fronts bs)
due_begins bs good = record {
  more = Constant 0 ∷ endings bs;
  tree = finished bs (Number 0);
  statement = record {
    spells = sym (finished_spelled bs (Number 0));
    fits = level_most (finished bs (Number 0));
    grammatical = finished_good bs (Number 0) good tt (omega arith);
  };
}

-- what has settled is what was held, is of a level at most, and stands in what is weaker
pub record SettlesWell (weak : ℕ) (tokens : List Token) (s : Settled) : Type 0 where
  pub held : Holds tokens s.begun s.operand
  pub strong : level s.operand ≤ weak
  pub stops : StopsAt weak s.begun

-- what is held stays held as it settles
pub settles_well : (weak : ℕ) (tokens : List Token) (bs : List Begun) (u : Tree) → weak ≤ 13 → level u ≤ weak
    → Holds tokens bs u
    → SettlesWell weak tokens (settle weak bs u)
settles_well weak tokens [] u most strong held = record { held = held; strong = strong; stops = tt }
settles_well weak tokens (b ∷ bs) u most strong held =
    let Goal : Bool → Type 0 = λ ends. nat_le (rank b) weak ≡ ends
    → SettlesWell weak tokens (cond ends (settle weak bs (built b u)) (record { begun = b ∷ bs; operand = u })) in
    elim (nat_le (rank b) weak) as Goal [
      | true ↦ λ is.
          let lower = leb-true (rank b) weak is in
          let graded = ends_at_rank b weak lower most in
          settles_well weak tokens bs (built b u) most (omega (arith, built_level b u, graded.0, lower)) (record {
            good = held.good.2;
            spells =
                held.spells ∙ append_assoc (fronts bs) (front b) (spelled u)
                ∙ ap (λ (xs : List Token). fronts bs ++ xs)
                (ap (λ (xs : List Token). front b ++ xs)
                (sym (append-nil (spelled u)) ∙ ap (λ (xs : List Token). spelled u ++ xs) (sym graded.1))
                ∙ sym (built_spelled b u));
            grammatical = built_good b u held.good.0 held.grammatical held.fits;
            fits = omega (arith, built_level b u, held.good.1);
          })
      | false ↦ λ is. record { held = held; strong = strong; stops = leb-false (rank b) weak is }
    ] refl
