-- Trees as lists, by which a proof tells them apart: the parts of a tree, each after the parts that it is assembled of.
use Rattle.std.specs.Prelude.{◌≡◌, ℕ, Bool, true, false, List, [], ◌∷◌, ◌++◌, ◌⊎◌, refl}
use Rattle.std.specs.Coded.{Coded, code_by, coded_ℕ, coded_bool, coded_list, coded×, coded⊎}
use Rattle.std.proofs.Common.{inl, inr, ap, sym, ◌∙◌, append_assoc, append-nil}
use Rattle.arith_syntax.specs.declared.operator.BinaryOperator.{BinaryOperator}
use Rattle.arith_syntax.specs.declared.operator.UnaryOperator.{UnaryOperator}
use Rattle.arith_syntax.specs.declared.operator.AssignmentOperator.{AssignmentOperator}
use Rattle.arith_syntax.specs.contracts.operator.BinaryOperator as binary
use Rattle.arith_syntax.specs.contracts.operator.UnaryOperator as unary
use Rattle.arith_syntax.specs.contracts.operator.AssignmentOperator as assignment
use Rattle.arith_syntax.specs.Grammar.{Tree, Number, Variable, Group, Unary, Binary, Conditional, Assignment}

-- A part of a tree, without what it is assembled of: a constant, a variable, a sign before an operand, an operator, an
-- assignment, or a group or a conditional.
abbrev pub Part : Type 0
Part = ℕ ⊎ (List ℕ ⊎ (UnaryOperator ⊎ (BinaryOperator ⊎ ((List ℕ × AssignmentOperator) ⊎ Bool))))

-- a code of parts: what tells two parts apart, and decides whether they are equal
abbrev pub part_code : Coded Part
part_code =
    coded⊎ coded_ℕ (coded⊎ (coded_list coded_ℕ) (coded⊎ unary.the_row.coded (coded⊎ binary.the_row.coded
    (coded⊎ (coded× (coded_list coded_ℕ) assignment.the_row.coded) coded_bool))))

-- the parts of a tree
abbrev pub parts : Tree → List Part
parts (Number n) = inl n ∷ []
parts (Variable x) = inr (inl x) ∷ []
parts (Group e) = parts e ++ (inr (inr (inr (inr (inr false)))) ∷ [])
parts (Unary op e) = parts e ++ (inr (inr (inl op)) ∷ [])
parts (Binary a op b) = parts a ++ (parts b ++ (inr (inr (inr (inl op))) ∷ []))
parts (Conditional c a b) = parts c ++ (parts a ++ (parts b ++ (inr (inr (inr (inr (inr true)))) ∷ [])))
parts (Assignment x op e) = parts e ++ (inr (inr (inr (inr (inl (x, op))))) ∷ [])

-- the last of some trees is changed by `f`
abbrev pub of_one : (Tree → Tree) → List Tree → List Tree
of_one f [] = []
of_one f (e ∷ trees) = f e ∷ trees

-- the last two of some trees become one by `f`
abbrev pub of_two : (Tree → Tree → Tree) → List Tree → List Tree
of_two f [] = []
of_two f (b ∷ trees) = of_one (λ a. f a b) trees

-- the last three of some trees become one by `f`
abbrev pub of_three : (Tree → Tree → Tree → Tree) → List Tree → List Tree
of_three f [] = []
of_three f (b ∷ trees) = of_two (λ c a. f c a b) trees

-- the trees after one part more, the last one first
abbrev pub with_part : Part → List Tree → List Tree
with_part (inl n) trees = Number n ∷ trees
with_part (inr (inl x)) trees = Variable x ∷ trees
with_part (inr (inr (inl op))) trees = of_one (Unary op) trees
with_part (inr (inr (inr (inl op)))) trees = of_two (λ a b. Binary a op b) trees
with_part (inr (inr (inr (inr (inl (x, op)))))) trees = of_one (Assignment x op) trees
with_part (inr (inr (inr (inr (inr false))))) trees = of_one Group trees
with_part (inr (inr (inr (inr (inr true))))) trees = of_three Conditional trees

-- the trees that parts make, the last one first
abbrev pub made_of : List Tree → List Part → List Tree
made_of trees [] = trees
made_of trees (p ∷ ps) = made_of (with_part p trees) ps

-- the last tree of several
abbrev pub last_of : List Tree → Tree
last_of [] = Number 0
last_of (e ∷ trees) = e

-- the parts of a tree make it
pub made_of-parts : (e : Tree) (trees : List Tree) (more : List Part) → made_of trees (parts e ++ more)
    ≡ made_of (e ∷ trees) more
made_of-parts (Number n) trees more = refl
made_of-parts (Variable x) trees more = refl
made_of-parts (Group e) trees more =
    ap (made_of trees) (append_assoc (parts e) (inr (inr (inr (inr (inr false)))) ∷ []) more)
    ∙ made_of-parts e trees _
made_of-parts (Unary op e) trees more = ap (made_of trees) (append_assoc (parts e) (inr (inr (inl op)) ∷ []) more)
    ∙ made_of-parts e trees _
made_of-parts (Binary a op b) trees more =
    let last : List Part = inr (inr (inr (inl op))) ∷ [] in
    ap (made_of trees) (append_assoc (parts a) (parts b ++ last) more) ∙ made_of-parts a trees _
    ∙ ap (made_of (a ∷ trees)) (append_assoc (parts b) last more) ∙ made_of-parts b (a ∷ trees) _
made_of-parts (Conditional c a b) trees more =
    let last : List Part = inr (inr (inr (inr (inr true)))) ∷ [] in
    ap (made_of trees) (append_assoc (parts c) (parts a ++ (parts b ++ last)) more) ∙ made_of-parts c trees _
    ∙ ap (made_of (c ∷ trees)) (append_assoc (parts a) (parts b ++ last) more) ∙ made_of-parts a (c ∷ trees) _
    ∙ ap (made_of (a ∷ c ∷ trees)) (append_assoc (parts b) last more) ∙ made_of-parts b (a ∷ c ∷ trees) _
made_of-parts (Assignment x op e) trees more =
    ap (made_of trees) (append_assoc (parts e) (inr (inr (inr (inr (inl (x, op))))) ∷ []) more)
    ∙ made_of-parts e trees _

-- A code of trees: a tree is coded as the list of its parts, from which it can be assembled again. So two trees are
-- equal exactly if their parts are.
abbrev pub tree_code : Coded Tree
tree_code =
    code_by (List Part) (coded_list part_code) parts (λ ps. last_of (made_of [] ps))
    (λ e. ap (λ ps. last_of (made_of [] ps)) (sym (append-nil (parts e))) ∙ ap last_of (made_of-parts e [] []))
