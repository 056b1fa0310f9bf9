-- The grammar of shell arithmetic (POSIX, Shell and Utilities, 2.6.4): which trees are statements, and which tokens
-- spell them.
--
--   level 0       primary      constant; name; ( assignment )
--   level 1       unary        + - ~ ! before a unary; primary
--   level 2       binary       * / %
--   level 3                    + -
--   level 4                    << >>
--   level 5                    < <= > >=
--   level 6                    == !=
--   level 7 8 9                & ; ^ ; |
--   level 10 11                && ; ||
--   level 12      conditional  binary ; binary ? assignment : conditional
--   level 13      assignment   name, one of = += -= *= /= %= <<= >>= &= ^= |=, assignment ; conditional
--
-- Binary levels group from the left. A statement is an assignment.
use Rattle.std.specs.Prelude.{◌≡◌, ℕ, ◌≤◌, ◌<◌, List, [], ◌∷◌, ◌++◌}
use Rattle.arith_syntax.specs.declared.operator.BinaryOperator.{BinaryOperator}
use Rattle.arith_syntax.specs.declared.operator.BinaryOperator.TheVariants as binary
use Rattle.arith_syntax.specs.declared.operator.UnaryOperator.{UnaryOperator}
use Rattle.arith_syntax.specs.declared.operator.UnaryOperator.TheVariants as unary
use Rattle.arith_syntax.specs.declared.operator.AssignmentOperator.{AssignmentOperator}
use Rattle.arith_syntax.specs.declared.token.Token.{Token}
use Rattle.arith_syntax.specs.declared.token.Token.TheVariants.{Constant, Name, Operator, Assign, Complement, Not}
use Rattle.arith_syntax.specs.declared.token.Token.TheVariants.{Question, Colon, Open, Close}

-- A tree of the grammar: what a statement means, without its white space. A constant has its number and a variable its
-- name. A group is what stands in parentheses. An operator has its operands. A conditional has its condition, and its
-- values if that is true and if it is false. An assignment has its name, its operator and its operand.
pub data Tree : Type 0 where
  Number : ℕ → Tree
  Variable : List ℕ → Tree
  Group : Tree → Tree
  Unary : UnaryOperator → Tree → Tree
  Binary : Tree → BinaryOperator → Tree → Tree
  Conditional : Tree → Tree → Tree → Tree
  Assignment : List ℕ → AssignmentOperator → Tree → Tree

-- the level of an operator with two operands
abbrev pub operator_level : BinaryOperator → ℕ
operator_level binary.Multiply = 2
operator_level binary.Divide = 2
operator_level binary.Remainder = 2
operator_level binary.Add = 3
operator_level binary.Subtract = 3
operator_level binary.ShiftLeft = 4
operator_level binary.ShiftRight = 4
operator_level binary.Less = 5
operator_level binary.LessOrEqual = 5
operator_level binary.Greater = 5
operator_level binary.GreaterOrEqual = 5
operator_level binary.Equal = 6
operator_level binary.NotEqual = 6
operator_level binary.BitAnd = 7
operator_level binary.BitXor = 8
operator_level binary.BitOr = 9
operator_level binary.And = 10
operator_level binary.Or = 11

-- the level whose rule gives a tree its outermost form
abbrev pub level : Tree → ℕ
level (Number n) = 0
level (Variable x) = 0
level (Group e) = 0
level (Unary op e) = 1
level (Binary a op b) = operator_level op
level (Conditional c a b) = 12
level (Assignment x op e) = 13

-- A tree needs no more parentheses than it has: each part is of a level that the grammar allows in its place. Left of
-- an operator with two operands the operator's own level is allowed, and right of it only stronger ones. So such
-- operators group from the left, and `?:` and assignments from the right.
abbrev pub IsGrammatical : Tree → Type 0
IsGrammatical (Number n) = Unit {0}
IsGrammatical (Variable x) = Unit {0}
IsGrammatical (Group e) = IsGrammatical e
IsGrammatical (Unary op e) = (level e ≤ 1) × IsGrammatical e
IsGrammatical (Binary a op b) =
    (level a ≤ operator_level op) × (level b < operator_level op) × IsGrammatical a × IsGrammatical b
IsGrammatical (Conditional c a b) =
    (level c ≤ 11) × (level b ≤ 12) × IsGrammatical c × IsGrammatical a × IsGrammatical b
IsGrammatical (Assignment x op e) = IsGrammatical e

-- the sign in front of an operand
abbrev pub unary_sign : UnaryOperator → Token
unary_sign unary.Plus = Operator binary.Add
unary_sign unary.Minus = Operator binary.Subtract
unary_sign unary.Complement = Complement
unary_sign unary.Not = Not

-- the tokens that spell a tree
abbrev pub spelled : Tree → List Token
spelled (Number n) = Constant n ∷ []
spelled (Variable x) = Name x ∷ []
spelled (Group e) = Open ∷ (spelled e ++ Close ∷ [])
spelled (Unary op e) = unary_sign op ∷ spelled e
spelled (Binary a op b) = spelled a ++ (Operator op ∷ spelled b)
spelled (Conditional c a b) = spelled c ++ (Question ∷ (spelled a ++ (Colon ∷ spelled b)))
spelled (Assignment x op e) = Name x ∷ Assign op ∷ spelled e

-- the grammar: these tokens spell this tree, whose level is this one or a stronger one
pub record Derives (at_most : ℕ) (tokens : List Token) (tree : Tree) : Type 0 where
  pub spells : tokens ≡ spelled tree
  pub fits : level tree ≤ at_most
  pub grammatical : IsGrammatical tree

-- a statement: a tree of level 13, which an assignment has, or of a stronger level
abbrev pub IsStatement : List Token → Tree → Type 0
IsStatement tokens tree = Derives 13 tokens tree

-- some statement begins with these tokens
pub record BeginsStatement (tokens : List Token) : Type 0 where
  pub more : List Token
  pub tree : Tree
  pub statement : IsStatement (tokens ++ more) tree
