-- Trees as the program keeps them: their parts in a row, each after the parts that it is made of. A name is kept as the
-- place of its word in the text.
use Rattle.std.specs.Prelude.{◌≡◌, ℕ, Bool, ◌||◌, ◌&&◌, ◌==◌, List, [], ◌∷◌, drop, map}
use Rattle.std.specs.Bool.{nat_le}
use Rattle.std.specs.List.{take_while}
use Rattle.arith_syntax.specs.declared.part.Part.{Part}
use Rattle.arith_syntax.specs.declared.part.Part.TheVariants as part
use Rattle.arith_syntax.specs.declared.token.Token.TheVariants.{Name}
use Rattle.arith_syntax.specs.declared.token.Placed.{Placed}
use Rattle.arith_syntax.specs.Grammar.{Tree, Number, Variable, Group, Unary, Binary, Conditional, Assignment}

-- an ASCII letter, a digit or `_`
abbrev pub is_word_character : ℕ → Bool
is_word_character c =
    (nat_le 48 c && nat_le c 57) || (nat_le 65 c && nat_le c 90) || (nat_le 97 c && nat_le c 122) || (c == 95)

-- the longest run of letters, digits and `_` that stands at a place of a text
abbrev pub word_at : List ℕ → ℕ → List ℕ
word_at text place = take_while is_word_character (drop place text)

-- the last of some trees, which are listed from the last to the first
abbrev pub last : List Tree → Tree
last [] = Number 0
last (e ∷ trees) = e

-- the trees before the last one
abbrev pub before : List Tree → List Tree
before [] = []
before (e ∷ trees) = trees

-- the name of a variable, which alone has one
abbrev pub name_of : Tree → List ℕ
name_of (Variable x) = x
name_of _ = []

-- the trees after one part more
abbrev pub grown : List ℕ → Part → List Tree → List Tree
grown text (part.Constant n) trees = Number n ∷ trees
grown text (part.Variable place) trees = Variable (word_at text place) ∷ trees
grown text part.Group trees = Group (last trees) ∷ before trees
grown text (part.Unary op) trees = Unary op (last trees) ∷ before trees
grown text (part.Binary op) trees = Binary (last (before trees)) op (last trees) ∷ before (before trees)
grown text part.Conditional trees =
    Conditional (last (before (before trees))) (last (before trees)) (last trees) ∷ before (before (before trees))
grown text (part.Assignment op) trees =
    Assignment (name_of (last (before trees))) op (last trees) ∷ before (before trees)

-- how many trees a part is made of
abbrev pub operand_count : Part → ℕ
operand_count (part.Constant n) = 0
operand_count (part.Variable place) = 0
operand_count part.Group = 1
operand_count (part.Unary op) = 1
operand_count (part.Binary op) = 2
operand_count part.Conditional = 3
operand_count (part.Assignment op) = 2

-- the trees after some parts more
abbrev pub assembled : List ℕ → List Tree → List Part → List Tree
assembled text trees [] = trees
assembled text trees (p ∷ ps) = assembled text (grown text p trees) ps

-- the trees that parts are, the last one first
abbrev pub trees_in : List ℕ → List Part → List Tree
trees_in text parts = assembled text [] parts

-- the tree that parts are
abbrev pub tree_of : List ℕ → List Part → Tree
tree_of text parts = last (trees_in text parts)

-- a token that is a name is the word at its place
abbrev pub IsNamed : List ℕ → Placed → Type 0
IsNamed text placed = (x : List ℕ) → placed.token ≡ Name x → x ≡ word_at text placed.place

-- the trees that several rows of parts are
abbrev pub trees_of : List ℕ → List (List Part) → List Tree
trees_of text rows = map (tree_of text) rows
