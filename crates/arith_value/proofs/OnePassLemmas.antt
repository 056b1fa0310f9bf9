-- What the values that one pass holds are, part by part.
use Rattle.std.proofs.Common.{◌≡◌, ℕ, ℤ, Bool, true, false, List, [], ◌∷◌, ◌++◌}
use Rattle.std.proofs.Common.{reverse, length, ◌==◌, arith, Option, Some, None, Result, Ok, refl, sym, ap, subst, ◌∙◌}
use Rattle.std.specs.Prelude.{if◌then◌else◌}
use Rattle.std.specs.Option.{option_to_list}
use Rattle.std.proofs.lemmas.List.{reverse-append}
use Rattle.std.proofs.lemmas.Bool.{ne_eqb}
use Rattle.arith_syntax.specs.Grammar.{Tree, Assignment, Variable}
use Rattle.arith_syntax.specs.Parts.{assembled, before, grown, last, name_of, tree_of, word_at}
use Rattle.arith_syntax.specs.declared.operator.AssignmentOperator.{AssignmentOperator}
use Rattle.arith_syntax.specs.declared.part.Part.{Part}
use Rattle.arith_syntax.specs.declared.part.Part.TheVariants as part
use Rattle.arith_syntax.proofs.TreeLemmas.{assembled-push}
use Rattle.arith_value.specs.declared.fault.ValueFault.{ValueFault}
use Rattle.arith_value.specs.OnePass.{HasValue, HaveValues, Puts, Steps, Takes}
use Rattle.arith_value.specs.Value.{Evaluates, Evaluation, assignment_of, value}
use Rattle.arith_value.specs.Variables.{Bindings, after}
use Rattle.arith_value.proofs.EvaluateLemmas.{chained}

-- the last number, taken off
pub takes_last : (old new : List ℤ) (taken : Option ℤ) → old ≡ new ++ option_to_list taken
    → Takes (reverse old) taken (reverse new)
takes_last old new None all = tt
takes_last old new (Some n) all = ap reverse all ∙ reverse-append new (n ∷ [])

-- a number behind the others is the first of them from behind
puts_last : (old new : List ℤ) (n : ℤ) → new ≡ old ++ n ∷ [] → reverse new ≡ n ∷ reverse old
puts_last old new n all = ap reverse all ∙ reverse-append old (n ∷ [])

-- a number is put there, or there was no memory for it
pub puts_pushed : (old new : List ℤ) (n : ℤ) (done : Bool) → new ≡ (if done then old ++ n ∷ [] else old)
    → Puts (reverse old) (Ok n) done (reverse new)
puts_pushed old new n false all = tt
puts_pushed old new n true all = puts_last old new n all

-- numbers that are counted as none
pub none_counted : (numbers : List ℤ) (count : ℕ) → count ≡ length numbers → (count == 0) ≡ true → numbers ≡ []
none_counted [] count counted none = refl
none_counted (n ∷ numbers) count counted none =
    let some : (count == 0) ≡ false = ne_eqb count 0 (omega arith) in absurd (cc)

-- What was read of some parts came to these values, whatever trees stand before, and the rest is still to be read.
abbrev pub Passes : Bindings → List ℕ → List Part → List Part → List ℤ → Type 0
Passes variables text all left numbers = (base : List Tree) → (trees : List Tree)
    × HaveValues variables base trees numbers × (assembled text trees left ≡ assembled text base all)

-- one part more was read
pub passes_on : (variables : Bindings) (text : List ℕ) (all left new : List Part) (p : Part) (said : Bool)
    (old numbers : List ℤ) → Passes variables text all left old → left ≡ p ∷ new
    → Steps variables text p old said numbers → said ≡ true → Passes variables text all new numbers
passes_on variables text all left new p false old numbers passes goes steps went base = absurd (cc)
passes_on variables text all left new p true old numbers passes goes steps went base =
    let reached = passes base in (
      grown text p reached.0,
      steps base reached.0 reached.1,
      ap (assembled text reached.0) (sym goes) ∙ reached.2,
    )

-- all parts were read, and one value is left
pub passed : (variables : Bindings) (text : List ℕ) (all left : List Part) (old new : List ℤ) (taken : Option ℤ)
    (number : ℤ) → Passes variables text all left old → left ≡ [] → Takes old taken new → taken ≡ Some number → new ≡ []
    → (base : List Tree) → HaveValues variables base (assembled text base all) (number ∷ [])
passed variables text all left old new None number passes none takes found empty base = absurd (cc)
passed variables text all left old new (Some n) number passes none takes found empty base =
    let reached = passes base in
    let is : n ≡ number = cc in
    let whole : reached.0 ≡ assembled text base all = ap (assembled text reached.0) (sym none) ∙ reached.2 in
    let one : old ≡ number ∷ [] = takes ∙ ap (λ l. n ∷ l) empty ∙ ap (λ m. m ∷ []) is in
    subst (λ trees. HaveValues variables base trees (number ∷ [])) whole
    (subst (HaveValues variables base reached.0) one reached.1)

-- a tree that has a number as its value comes to it
pub has_evaluated : (variables : Bindings) (tree : Tree) (number : ℤ) → HasValue variables tree number
    → Evaluates (value tree) variables (Ok number) variables
has_evaluated variables tree number has = record {
  result = ap (λ (e : Evaluation). e.result) (sym has);
  assigned = ap (λ (e : Evaluation). after variables e.made) (sym has);
}

-- a tree assigns to this name, by this operator, what has this number as its value
pub record Assigns (variables : Bindings) (tree : Tree) (name : List ℕ) (op : AssignmentOperator) (number : ℤ)
    : Type 0 where
  pub operand : Tree
  pub whole : tree ≡ Assignment name op operand
  pub has : HasValue variables operand number

-- a tree by its parts: the name, what is assigned, which is read as one value, and the operator
pub assigns : (variables : Bindings) (text : List ℕ) (parts operand : List Part) (place : ℕ) (op : AssignmentOperator)
    (name : List ℕ) (number : ℤ) → parts ≡ part.Variable place ∷ (operand ++ part.Assignment op ∷ [])
    → name ≡ word_at text place
    → ((base : List Tree) → HaveValues variables base (assembled text base operand) (number ∷ []))
    → Assigns variables (tree_of text parts) name op number
assigns variables text parts operand place op name number are named values =
    let base : List Tree = Variable (word_at text place) ∷ [] in
    let trees : List Tree = assembled text base operand in
    let have : HaveValues variables base trees (number ∷ []) = values base in
    let tree : tree_of text parts ≡ Assignment (name_of (last (before trees))) op (last trees) =
    ap (tree_of text) are ∙ ap last (assembled-push text base operand (part.Assignment op)) in
    record {
      operand = last trees;
      whole = tree ∙ ap (λ (front : List Tree). Assignment (name_of (last front)) op (last trees)) have.1
          ∙ ap (λ (x : List ℕ). Assignment x op (last trees)) (sym named);
      has = have.0;
    }

-- an assignment to a name of what was found in one pass
pub evaluates_assignment : (old new : Bindings) (tree : Tree) (name : List ℕ) (op : AssignmentOperator) (number : ℤ)
    (answer : Result ℤ ValueFault) → Assigns old tree name op number
    → Evaluates (assignment_of name op number) old answer new → Evaluates (value tree) old answer new
evaluates_assignment old new tree name op number answer assigns evaluates =
    rw assigns.whole (chained (value assigns.operand) (λ a. assignment_of name op a) old old new number answer
    (has_evaluated old assigns.operand number assigns.has) evaluates)
