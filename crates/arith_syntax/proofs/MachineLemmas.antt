-- When constructs end, and how tokens are taken in turn.
use Rattle.std.proofs.Common.{◌≡◌, ℕ, ◌≤◌, List, [], ◌∷◌, ◌++◌, Option, None, refl, arith}
use Rattle.std.proofs.lemmas.Bool.{le-leb, lt-leb}
use Rattle.arith_syntax.specs.declared.operator.BinaryOperator.{BinaryOperator}
use Rattle.arith_syntax.specs.declared.operator.BinaryOperator.TheVariants as binary
use Rattle.arith_syntax.specs.declared.token.Token.{Token}
use Rattle.arith_syntax.specs.Grammar.{Tree, Number, Variable, Group, Unary, Binary, Conditional, Assignment}
use Rattle.arith_syntax.specs.Grammar.{operator_level, level}
use Rattle.arith_syntax.specs.Machine.{Begun, Opened, Signed, Operated, Questioned, Divided, Named, rank, room_of}
use Rattle.arith_syntax.specs.Machine.{built, settle, State, run, advance_on, StopsAt}

-- an operator with two operands is weaker than any in front of one
pub operator_level_least : (op : BinaryOperator) → 2 ≤ operator_level op
operator_level_least binary.Multiply = omega arith
operator_level_least binary.Divide = omega arith
operator_level_least binary.Remainder = omega arith
operator_level_least binary.Add = omega arith
operator_level_least binary.Subtract = omega arith
operator_level_least binary.ShiftLeft = omega arith
operator_level_least binary.ShiftRight = omega arith
operator_level_least binary.Less = omega arith
operator_level_least binary.LessOrEqual = omega arith
operator_level_least binary.Greater = omega arith
operator_level_least binary.GreaterOrEqual = omega arith
operator_level_least binary.Equal = omega arith
operator_level_least binary.NotEqual = omega arith
operator_level_least binary.BitAnd = omega arith
operator_level_least binary.BitXor = omega arith
operator_level_least binary.BitOr = omega arith
operator_level_least binary.And = omega arith
operator_level_least binary.Or = omega arith

-- it is stronger than `?`
pub operator_level_most : (op : BinaryOperator) → operator_level op ≤ 11
operator_level_most binary.Multiply = omega arith
operator_level_most binary.Divide = omega arith
operator_level_most binary.Remainder = omega arith
operator_level_most binary.Add = omega arith
operator_level_most binary.Subtract = omega arith
operator_level_most binary.ShiftLeft = omega arith
operator_level_most binary.ShiftRight = omega arith
operator_level_most binary.Less = omega arith
operator_level_most binary.LessOrEqual = omega arith
operator_level_most binary.Greater = omega arith
operator_level_most binary.GreaterOrEqual = omega arith
operator_level_most binary.Equal = omega arith
operator_level_most binary.NotEqual = omega arith
operator_level_most binary.BitAnd = omega arith
operator_level_most binary.BitXor = omega arith
operator_level_most binary.BitOr = omega arith
operator_level_most binary.And = omega arith
operator_level_most binary.Or = omega arith

-- a tree is of level 13 at most
pub level_most : (t : Tree) → level t ≤ 13
level_most (Number n) = omega arith
level_most (Variable x) = omega arith
level_most (Group e) = omega arith
level_most (Unary sign e) = omega arith
level_most (Binary a op b) = omega (arith, operator_level_most op)
level_most (Conditional c a b) = omega arith
level_most (Assignment x op e) = omega arith

-- a construct ends that isn't weaker
pub settle_ends : (weak : ℕ) (b : Begun) (bs : List Begun) (u : Tree) → rank b ≤ weak
    → settle weak (b ∷ bs) u ≡ settle weak bs (built b u)
settle_ends weak b bs u strong = rw (le-leb (rank b) weak strong) refl

-- a weaker one doesn't
pub settle_stops : (weak : ℕ) (bs : List Begun) (u : Tree) → StopsAt weak bs
    → settle weak bs u ≡ record { begun = bs; operand = u }
settle_stops weak [] u stops = refl
settle_stops weak (b ∷ bs) u stops = rw (lt-leb (rank b) weak stops) refl

-- what an operator's level fits into doesn't end at the operator
pub room_stops : (weak : ℕ) (bs : List Begun) → 2 ≤ weak → weak ≤ 11 → weak ≤ room_of bs → StopsAt weak bs
room_stops weak [] least most fits = tt
room_stops weak (Opened ∷ bs) least most fits = omega arith
room_stops weak (Signed sign ∷ bs) least most fits = omega arith
room_stops weak (Operated a op ∷ bs) least most fits = omega (arith, operator_level_least op)
room_stops weak (Questioned c ∷ bs) least most fits = omega arith
room_stops weak (Divided c a ∷ bs) least most fits = omega arith
room_stops weak (Named x op ∷ bs) least most fits = omega arith

-- a token after none is none
pub run_none : (tokens : List Token) → run None tokens ≡ None
run_none [] = refl
run_none (token ∷ tokens) = run_none tokens

-- tokens in turn, cut in two
pub run_append : (s : Option State) (tokens more : List Token) → run s (tokens ++ more) ≡ run (run s tokens) more
run_append s [] more = refl
run_append s (token ∷ tokens) more = run_append (advance_on s token) tokens more
