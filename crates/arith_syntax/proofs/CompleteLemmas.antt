-- The tokens of a statement are all taken, and its tree is what they give.
use Rattle.std.proofs.Common.{◌≡◌, ℕ, ◌≤◌, List, [], ◌∷◌, ◌++◌, cond, Option, Some, None, refl, ap, ◌∙◌, arith}
use Rattle.std.proofs.lemmas.Bool.{le-leb}
use Rattle.arith_syntax.specs.declared.operator.UnaryOperator.{UnaryOperator}
use Rattle.arith_syntax.specs.declared.operator.UnaryOperator.TheVariants as unary
use Rattle.arith_syntax.specs.declared.token.Token.{Token}
use Rattle.arith_syntax.specs.declared.token.Token.TheVariants.{Operator, Question, Colon, Close}
use Rattle.arith_syntax.specs.Grammar.{Tree, Number, Variable, Group, Unary, Binary, Conditional, Assignment}
use Rattle.arith_syntax.specs.Grammar.{operator_level, level, IsGrammatical, IsStatement, spelled, unary_sign}
use Rattle.arith_syntax.specs.Machine.{Begun, Opened, Signed, Operated, Questioned, Divided, Named, room_of, Settled}
use Rattle.arith_syntax.specs.Machine.{settle, State, begin, take_due, take_colon, take_close, outermost, start, run}
use Rattle.arith_syntax.specs.Machine.{close}
use Rattle.arith_syntax.proofs.MachineLemmas.{operator_level_least, operator_level_most, level_most, settle_ends}
use Rattle.arith_syntax.proofs.MachineLemmas.{settle_stops, room_stops, run_append}

-- a state in which an operand is due
abbrev due : List Begun → Option State
due bs = Some (record { begun = bs; operand = None })

-- a state behind an operand
abbrev behind : List Begun → Tree → Option State
behind bs u = Some (record { begun = bs; operand = Some u })

-- a tree's tokens are taken where an operand is due, and what they leave settles as the tree does
pub record IsTakenIn (bs : List Begun) (t : Tree) : Type 0 where
  pub begun : List Begun
  pub operand : Tree
  pub goes : run (due bs) (spelled t) ≡ behind begun operand
  pub settles : (weak : ℕ) → level t ≤ weak → settle weak begun operand ≡ settle weak bs t

-- an operator in front of an operand is taken
sign_taken : (sign : UnaryOperator) (bs : List Begun) → take_due bs (unary_sign sign) ≡ begin (Signed sign) bs
sign_taken unary.Plus bs = refl
sign_taken unary.Minus bs = refl
sign_taken unary.Complement bs = refl
sign_taken unary.Not bs = refl

-- each grammatical tree is taken where it fits
pub tree_taken : (t : Tree) (bs : List Begun) → IsGrammatical t → level t ≤ room_of bs → IsTakenIn bs t
tree_taken (Number n) bs good fits = record { begun = bs; operand = Number n; goes = refl; settles = λ weak h. refl }
tree_taken (Variable x) bs good fits = record {
  begun = bs;
  operand = Variable x;
  goes = refl;
  settles = λ weak h. refl;
}
tree_taken (Group e) bs good fits =
    let inner = tree_taken e (Opened ∷ bs) good (level_most e) in
    let whole : settle 13 inner.begun inner.operand ≡ record { begun = Opened ∷ bs; operand = e } =
    inner.settles 13 (level_most e) ∙ settle_stops 13 (Opened ∷ bs) e (omega arith) in
    record {
      begun = bs;
      operand = Group e;
      goes =
          run_append (due (Opened ∷ bs)) (spelled e) (Close ∷ [])
          ∙ ap (λ s. run s (Close ∷ [])) inner.goes
          ∙ ap (λ (s : Settled). take_close s.begun s.operand) whole;
      settles = λ weak h. refl;
    }
tree_taken (Unary sign e) bs good fits =
    let inner = tree_taken e (Signed sign ∷ bs) good.1 good.0 in
    record {
      begun = inner.begun;
      operand = inner.operand;
      goes = ap (λ s. run s (spelled e)) (sign_taken sign bs) ∙ inner.goes;
      settles = λ weak h. inner.settles weak (omega (arith, good.0)) ∙ settle_ends weak (Signed sign) bs e h;
    }
tree_taken (Binary a op b) bs good fits =
    let left = tree_taken a bs good.2 (omega (arith, good.0)) in
    let right = tree_taken b (Operated a op ∷ bs) good.3 (omega (arith, good.1)) in
    let whole : settle (operator_level op) left.begun left.operand ≡ record { begun = bs; operand = a } =
    left.settles (operator_level op) good.0
    ∙ settle_stops (operator_level op) bs a (room_stops (operator_level op) bs (operator_level_least op)
    (operator_level_most op) fits) in
    record {
      begun = right.begun;
      operand = right.operand;
      goes =
          run_append (due bs) (spelled a) (Operator op ∷ spelled b)
          ∙ ap (λ s. run s (Operator op ∷ spelled b)) left.goes
          ∙ ap (λ (s : Settled). run (begin (Operated s.operand op) s.begun) (spelled b)) whole
          ∙ right.goes;
      settles = λ weak h. right.settles weak (omega (arith, good.1)) ∙ settle_ends weak (Operated a op) bs b h;
    }
tree_taken (Conditional c a b) bs good fits =
    let condition = tree_taken c bs good.2 (omega (arith, good.0)) in
    let middle = tree_taken a (Questioned c ∷ bs) good.3 (level_most a) in
    let last = tree_taken b (Divided c a ∷ bs) good.4 good.1 in
    let asked : settle 11 condition.begun condition.operand ≡ record { begun = bs; operand = c } =
    condition.settles 11 good.0 ∙ settle_stops 11 bs c (room_stops 11 bs (omega arith) (omega arith) (omega arith)) in
    let divided : settle 13 middle.begun middle.operand ≡ record { begun = Questioned c ∷ bs; operand = a } =
    middle.settles 13 (level_most a) ∙ settle_stops 13 (Questioned c ∷ bs) a (omega arith) in
    record {
      begun = last.begun;
      operand = last.operand;
      goes =
          run_append (due bs) (spelled c) (Question ∷ (spelled a ++ (Colon ∷ spelled b)))
          ∙ ap (λ s. run s (Question ∷ (spelled a ++ (Colon ∷ spelled b)))) condition.goes
          ∙ ap (λ (s : Settled). run (begin (Questioned s.operand) s.begun) (spelled a ++ (Colon ∷ spelled b))) asked
          ∙ run_append (due (Questioned c ∷ bs)) (spelled a) (Colon ∷ spelled b)
          ∙ ap (λ s. run s (Colon ∷ spelled b)) middle.goes
          ∙ ap (λ (s : Settled). run (take_colon s.begun s.operand) (spelled b)) divided
          ∙ last.goes;
      settles = λ weak h. last.settles weak (omega (arith, good.1)) ∙ settle_ends weak (Divided c a) bs b h;
    }
tree_taken (Assignment x op e) bs good fits =
    let inner = tree_taken e (Named x op ∷ bs) good (level_most e) in
    record {
      begun = inner.begun;
      operand = inner.operand;
      goes = ap (λ fitting. run (cond fitting (begin (Named x op) bs) None) (spelled e)) (le-leb 13 (room_of bs) fits)
          ∙ inner.goes;
      settles = λ weak h. inner.settles weak (omega (arith, level_most e)) ∙ settle_ends weak (Named x op) bs e h;
    }

-- the state behind a statement's tokens
pub record IsWhole (tokens : List Token) (t : Tree) : Type 0 where
  pub state : State
  pub goes : run (Some start) tokens ≡ Some state
  pub closes : close state ≡ Some t

-- a statement is taken whole
pub statement_taken : (tokens : List Token) (t : Tree) → IsStatement tokens t → IsWhole tokens t
statement_taken tokens t said =
    let taken = tree_taken t [] said.grammatical (level_most t) in
    record {
      state = record { begun = taken.begun; operand = Some taken.operand };
      goes = ap (run (Some start)) said.spells ∙ taken.goes;
      closes = ap (λ (s : Settled). outermost s.begun s.operand) (taken.settles 13 (level_most t));
    }
