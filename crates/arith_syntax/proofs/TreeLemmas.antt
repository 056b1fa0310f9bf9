-- The trees that parts are, part by part.
use Rattle.std.proofs.Common.{◌≡◌, ℕ, zero, suc, ◌+◌, ◌-◌, ◌<◌, ◌≤◌, ◌⊎◌, inl, inr, Some, List, [], ◌∷◌, ◌++◌, length}
use Rattle.std.proofs.Common.{take, get_or, refl, sym, ap, ◌∙◌, arith}
use Rattle.std.specs.List.{slice_get}
use Rattle.std.proofs.lemmas.List.{take_all, take_more}
use Rattle.arith_syntax.specs.declared.part.Part.{Part}
use Rattle.arith_syntax.specs.declared.part.Part.TheVariants as part
use Rattle.arith_syntax.specs.Grammar.{Tree}
use Rattle.arith_syntax.specs.Parts.{assembled, before, grown, last, name_of, operand_count, tree_of, trees_in}

-- the trees after one part more
pub assembled-push : (text : List ℕ) (trees : List Tree) (ps : List Part) (p : Part)
    → assembled text trees (ps ++ p ∷ [])
    ≡ grown text p (assembled text trees ps)
assembled-push text trees [] p = refl
assembled-push text trees (q ∷ ps) p = assembled-push text (grown text q trees) ps p

-- the tree that ends with a part
pub tree_behind : (text : List ℕ) (parts operands : List Part) (p : Part) → parts ≡ operands ++ p ∷ []
    → tree_of text parts ≡ last (grown text p (trees_in text operands))
tree_behind text parts operands p is = ap (tree_of text) is ∙ ap last (assembled-push text [] operands p)

-- the last part, and those before it
pub parts-last : (ps : List Part) (p : Part) → Some p ≡ slice_get ps (length ps - 1)
    → (front : List Part) × (ps ≡ front ++ p ∷ [])
parts-last [] p last = absurd (cc)
parts-last (q ∷ []) p last = let same : p ≡ q = cc in ([], ap (λ h. h ∷ []) (sym same))
parts-last (q ∷ r ∷ ps) p last =
    let at : length (q ∷ r ∷ ps) - 1 ≡ suc (length (r ∷ ps) - 1) = omega arith in
    let inner = parts-last (r ∷ ps) p (last ∙ ap (λ i. slice_get (q ∷ r ∷ ps) i) {y = suc (length (r ∷ ps) - 1)} at) in
    (q ∷ inner.0, ap (λ (more : List Part). q ∷ more) inner.1)

-- the name of the last tree is that of the last part
pub name_behind : (text : List ℕ) (ps : List Part) (p : Part) (name : List ℕ) → Some p ≡ slice_get ps (length ps - 1)
    → ((trees : List Tree) → name ≡ name_of (last (grown text p trees))) → name ≡ name_of (tree_of text ps)
name_behind text ps p name ends is =
    let front = parts-last ps p ends in
    is (trees_in text front.0) ∙ ap name_of (sym (tree_behind text ps front.0 p front.1))

-- the trees before the last ones
pub dropped : ℕ → List Tree → List Tree
dropped zero trees = trees
dropped (suc n) trees = dropped n (before trees)

-- in two steps
pub dropped-add : (n m : ℕ) (trees : List Tree) → dropped (n + m) trees ≡ dropped n (dropped m trees)
unfolding dropped
dropped-add n zero trees = let none : n + 0 ≡ n = omega arith in rw none refl
dropped-add n (suc m) trees =
    let one : n + suc m ≡ suc (n + m) = omega arith in rw one (dropped-add n m (before trees))

-- none are before none
pub dropped-none : (n : ℕ) → dropped n [] ≡ []
unfolding dropped
dropped-none zero = refl
dropped-none (suc n) = dropped-none n

-- a part takes its operands
pub grown-before : (text : List ℕ) (p : Part) (trees : List Tree) → before (grown text p trees)
    ≡ dropped (operand_count p) trees
unfolding dropped
grown-before text (part.Constant n) trees = refl
grown-before text (part.Variable place) trees = refl
grown-before text part.Group trees = refl
grown-before text (part.Unary op) trees = refl
grown-before text (part.Binary op) trees = refl
grown-before text part.Conditional trees = refl
grown-before text (part.Assignment op) trees = refl

-- at most three
pub operand_count-most : (p : Part) → operand_count p ≤ 3
operand_count-most (part.Constant n) = omega arith
operand_count-most (part.Variable place) = omega arith
operand_count-most part.Group = omega arith
operand_count-most (part.Unary op) = omega arith
operand_count-most (part.Binary op) = omega arith
operand_count-most part.Conditional = omega arith
operand_count-most (part.Assignment op) = omega arith

-- with one part more, fewer are due
pub dropped-push : (text : List ℕ) (n : ℕ) (ps : List Part) (p : Part) → dropped (suc n) (trees_in text (ps ++ p ∷ []))
    ≡ dropped (n + operand_count p) (trees_in text ps)
unfolding dropped
dropped-push text n ps p =
    ap (dropped (suc n)) (assembled-push text [] ps p)
    ∙ ap (dropped n) (grown-before text p (trees_in text ps))
    ∙ sym (dropped-add n (operand_count p) (trees_in text ps))

-- one tree is due of all parts
pub dropped-first : (text : List ℕ) (ps : List Part) → dropped 1 (trees_in text (take (length ps) ps))
    ≡ before (trees_in text ps)
unfolding dropped
dropped-first text ps = ap (λ qs. before (trees_in text qs)) (take_all (length ps) ps (omega arith))

-- one part less, and the trees that it is made of
pub dropped-part : (text : List ℕ) (due size : ℕ) (ps : List Part) (p : Part) → 0 < due → 0 < size → size ≤ length ps
    → dropped due (trees_in text (take size ps)) ≡ before (trees_in text ps)
    → dropped (due - 1 + operand_count (get_or ps (size - 1) p)) (trees_in text (take (size - 1) ps))
    ≡ before (trees_in text ps)
dropped-part text due size ps p some longer fits so_far =
    let one_due : due ≡ suc (due - 1) = omega arith in
    let one_part : size ≡ size - 1 + 1 = omega arith in
    let more : take size ps ≡ take (size - 1) ps ++ get_or ps (size - 1) p ∷ [] =
    ap (λ n. take n ps) one_part ∙ take_more ps (size - 1) p (omega arith) in
    sym (dropped-push text (due - 1) (take (size - 1) ps) (get_or ps (size - 1) p))
    ∙ ap (λ qs. dropped (suc (due - 1)) (trees_in text qs)) (sym more)
    ∙ ap (λ n. dropped n (trees_in text (take size ps))) (sym one_due)
    ∙ so_far

-- no tree is due, or no part is left
pub dropped-end : (text : List ℕ) (due size : ℕ) (ps : List Part) → (due ≡ 0) ⊎ (size ≡ 0)
    → dropped due (trees_in text (take size ps)) ≡ before (trees_in text ps)
    → trees_in text (take size ps) ≡ before (trees_in text ps)
unfolding dropped
dropped-end text due size ps (inl none) so_far =
    ap (λ n. dropped n (trees_in text (take size ps))) (sym none) ∙ so_far
dropped-end text due size ps (inr none) so_far =
    ap (λ n. trees_in text (take n ps)) none ∙ sym (dropped-none due)
    ∙ ap (λ n. dropped due (trees_in text (take n ps))) (sym none) ∙ so_far
