-- Evaluations one after the other: how a program's answers join to that of the whole.
use Rattle.std.proofs.Common.{◌≡◌, ℕ, List, Some, ℤ, [], ◌∷◌, ◌++◌, Result, Ok, Err, Option, None, refl, ap, sym}
use Rattle.std.proofs.Common.{subst, ◌∙◌}
use Rattle.std.proofs.Common.{append_assoc, Bool, FitsSigned, w64, to_z, of_z}
use Rattle.std.specs.Prelude.{if◌then◌else◌}
use Rattle.std.proofs.lemmas.Int.{to_z-of_z}
use Rattle.arith_syntax.specs.Grammar.{Tree, Binary, Conditional}
use Rattle.arith_syntax.specs.declared.part.Part.{Part}
use Rattle.arith_syntax.specs.Parts.{grown, last, tree_of, trees_in}
use Rattle.arith_syntax.proofs.TreeLemmas.{tree_behind}
use Rattle.arith_syntax.specs.declared.operator.BinaryOperator.{BinaryOperator}
use Rattle.arith_value.specs.Operators.{apply, is_true}
use Rattle.arith_value.specs.declared.fault.ValueFault.{ValueFault}
use Rattle.arith_value.specs.declared.fault.ValueFault.TheVariants.{Overflow, ZeroDivision, Shift, OutOfMemory}
use Rattle.arith_value.specs.Variables.{Bindings, assign, after}
use Rattle.arith_value.specs.Value.{Evaluation, Computation, give, followed, first_then, decided, unless, operate}
use Rattle.arith_value.specs.Value.{Comes, Evaluates, Stops, value}

-- assignments and then more are all of them in their order
pub after-append : (variables xs ys : Bindings) → after (after variables xs) ys ≡ after variables (xs ++ ys)
after-append variables [] ys = refl
after-append variables (x ∷ xs) ys = after-append (assign x.0 x.1 variables) xs ys

-- an evaluation that had a value leaves it and its assignments to what comes next
followed_by : (evaluation : Evaluation) (next : ℤ → Evaluation) (a : ℤ) → Ok a ≡ evaluation.result
    → followed evaluation.result evaluation.made next ≡ record
    { result = (next a).result; made = evaluation.made ++ (next a).made }
followed_by evaluation next a had = rw (sym had) refl

-- an evaluation that had a fault ends there
ended_by : (evaluation : Evaluation) (next : ℤ → Evaluation) (fault : ValueFault) → Err fault ≡ evaluation.result
    → followed evaluation.result evaluation.made next ≡ record { result = Err fault; made = evaluation.made }
ended_by evaluation next fault had = rw (sym had) refl

-- a result is what giving it comes to
pub given : (answer : Result ℤ ValueFault) (variables : Bindings) → Evaluates (give answer) variables answer variables
given (Ok n) variables = record { result = refl; assigned = refl }
given (Err Overflow) variables = record { result = refl; assigned = refl }
given (Err ZeroDivision) variables = record { result = refl; assigned = refl }
given (Err Shift) variables = record { result = refl; assigned = refl }
given (Err OutOfMemory) variables = record { done = []; rest = []; beginning = refl; assigned = refl }

-- what comes after a value comes of both
comes_then : (first : Computation) (next : ℤ → Computation) (old mid new : Bindings) (a : ℤ)
    (answer : Result ℤ ValueFault)
    → Comes first old (Ok a) mid → Comes (next a) mid answer new → Comes (first_then first next) old answer new
comes_then first next old mid new a answer before behind =
    let both = followed_by (first old) (λ n. next n (after old (first old).made)) a before.result in
    record {
      result = behind.result ∙ ap (λ m. (next a m).result) before.assigned
          ∙ sym (ap (λ (o : Evaluation). o.result) both);
      assigned = behind.assigned
          ∙ ap (λ m. after m (next a m).made) before.assigned
          ∙ after-append old (first old).made (next a (after old (first old).made)).made
          ∙ sym (ap (λ (o : Evaluation). after old o.made) both);
    }

-- what stops after a value stops both
stops_then : (first : Computation) (next : ℤ → Computation) (old mid new : Bindings) (a : ℤ)
    → Comes first old (Ok a) mid → Stops (next a) mid new → Stops (first_then first next) old new
stops_then first next old mid new a before behind =
    let both = followed_by (first old) (λ n. next n (after old (first old).made)) a before.result in
    record {
      done = (first old).made ++ behind.done;
      rest = behind.rest;
      beginning = append_assoc (first old).made behind.done behind.rest
          ∙ ap (λ more. (first old).made ++ more) (behind.beginning ∙ ap (λ m. (next a m).made) before.assigned)
          ∙ sym (ap (λ (o : Evaluation). o.made) both);
      assigned = behind.assigned ∙ ap (λ m. after m behind.done) before.assigned
          ∙ after-append old (first old).made behind.done;
    }

-- an evaluation with a value, and then the next
pub chained : (first : Computation) (next : ℤ → Computation) (old mid new : Bindings) (a : ℤ)
    (answer : Result ℤ ValueFault)
    → Evaluates first old (Ok a) mid → Evaluates (next a) mid answer new
    → Evaluates (first_then first next) old answer new
chained first next old mid new a (Ok n) before behind = comes_then first next old mid new a (Ok n) before behind
chained first next old mid new a (Err Overflow) before behind =
    comes_then first next old mid new a (Err Overflow) before behind
chained first next old mid new a (Err ZeroDivision) before behind =
    comes_then first next old mid new a (Err ZeroDivision) before behind
chained first next old mid new a (Err Shift) before behind =
    comes_then first next old mid new a (Err Shift) before behind
chained first next old mid new a (Err OutOfMemory) before behind = stops_then first next old mid new a before behind

-- a fault ends both
faults : (first : Computation) (next : ℤ → Computation) (old new : Bindings) (fault : ValueFault)
    → Comes first old (Err fault) new → Comes (first_then first next) old (Err fault) new
faults first next old new fault before =
    let both = ended_by (first old) (λ n. next n (after old (first old).made)) fault before.result in
    record {
      result = sym (ap (λ (o : Evaluation). o.result) both);
      assigned = before.assigned ∙ sym (ap (λ (o : Evaluation). after old o.made) both);
    }

-- a beginning of the first assignments is one of all
begins_all : (result : Result ℤ ValueFault) (made : Bindings) (next : ℤ → Evaluation) (done rest : Bindings) → done
    ++ rest
    ≡ made
    → (more : Bindings) × (done ++ more ≡ (followed result made next).made)
begins_all (Ok a) made next done rest all =
    (rest ++ (next a).made, sym (append_assoc done rest (next a).made) ∙ ap (λ front. front ++ (next a).made) all)
begins_all (Err fault) made next done rest all = (rest, all)

-- what stops the first stops both
stops_first : (first : Computation) (next : ℤ → Computation) (old new : Bindings) → Stops first old new
    → Stops (first_then first next) old new
stops_first first next old new before =
    let all = begins_all (first old).result (first old).made (λ n. next n (after old (first old).made)) before.done
    before.rest before.beginning in
    record { done = before.done; rest = all.0; beginning = all.1; assigned = before.assigned }

-- an evaluation with a fault, and then nothing
pub broken : (first : Computation) (next : ℤ → Computation) (old new : Bindings) (fault : ValueFault)
    → Evaluates first old (Err fault) new → Evaluates (first_then first next) old (Err fault) new
broken first next old new Overflow before = faults first next old new Overflow before
broken first next old new ZeroDivision before = faults first next old new ZeroDivision before
broken first next old new Shift before = faults first next old new Shift before
broken first next old new OutOfMemory before = stops_first first next old new before

-- an operator that the left operand does not decide goes on with the right one
goes_on : (op : BinaryOperator) (a : ℤ) (right : Computation) (old new : Bindings) (answer : Result ℤ ValueFault)
    → decided op a ≡ None → Evaluates (first_then right (λ b. give (apply op a b))) old answer new
    → Evaluates (operate op a right) old answer new
goes_on op a right old new answer undecided evaluated =
    let P : Option ℤ → Type 0 = λ d. Evaluates (unless d (first_then right (λ b. give (apply op a b)))) old answer new
    in
    subst P (sym undecided) evaluated

-- what the code found of a number's truth is so
found_true : (a : ℤ) (said b : Bool) → FitsSigned w64 a → said ≡ is_true (to_z w64 (of_z w64 a)) → said ≡ b
    → is_true a ≡ b
found_true a said b fits found is = ap is_true (sym (to_z-of_z w64 a fits)) ∙ sym found ∙ is

-- a conditional: its condition, and then the branch that this names
pub branched : (condition if_so if_not : Tree) (old mid new : Bindings) (a : ℤ) (said b : Bool)
    (answer : Result ℤ ValueFault) → FitsSigned w64 a → said ≡ is_true (to_z w64 (of_z w64 a)) → said ≡ b
    → Evaluates (value condition) old (Ok a) mid → Evaluates (if b then value if_so else value if_not) mid answer new
    → Evaluates (value (Conditional condition if_so if_not)) old answer new
branched condition if_so if_not old mid new a said b answer fits found is before behind =
    chained (value condition) (λ n. if is_true n then value if_so else value if_not) old mid new a answer before
    (rw (found_true a said b fits found is) behind)

-- an operator that the left operand does not decide: the left operand, and then the right one
pub operated : (op : BinaryOperator) (left right : Tree) (old mid new : Bindings) (a : ℤ) (said : Option ℤ)
    (answer : Result ℤ ValueFault) → FitsSigned w64 a → said ≡ decided op (to_z w64 (of_z w64 a)) → said ≡ None
    → Evaluates (value left) old (Ok a) mid
    → Evaluates (first_then (value right) (λ b. give (apply op a b))) mid answer new
    → Evaluates (value (Binary left op right)) old answer new
operated op left right old mid new a said answer fits found none before behind =
    let undecided : decided op a ≡ None = ap (decided op) (sym (to_z-of_z w64 a fits)) ∙ sym found ∙ none in
    chained (value left) (λ n. operate op n (value right)) old mid new a answer before
    (goes_on op a (value right) mid new answer undecided behind)

-- an operator that the left operand decides
pub settled : (op : BinaryOperator) (left right : Tree) (old mid : Bindings) (a : ℤ) (said : Option ℤ) (v : ℤ)
    → FitsSigned w64 a → said ≡ decided op (to_z w64 (of_z w64 a)) → said ≡ Some v
    → Evaluates (value left) old (Ok a) mid → Evaluates (value (Binary left op right)) old (Ok v) mid
settled op left right old mid a said v fits found some before =
    let is : decided op a ≡ Some v = ap (decided op) (sym (to_z-of_z w64 a fits)) ∙ sym found ∙ some in
    let next : Evaluates (operate op a (value right)) mid (Ok v) mid = rw is (given (Ok v) mid) in
    chained (value left) (λ n. operate op n (value right)) old mid mid a (Ok v) before next

-- the tree that ends with this part
pub tree_ends : (text : List ℕ) (parts operands : List Part) (p q : Part) → parts ≡ operands ++ p ∷ [] → p ≡ q
    → tree_of text parts ≡ last (grown text q (trees_in text operands))
tree_ends text parts operands p q ends is =
    tree_behind text parts operands p ends ∙ ap (λ r. last (grown text r (trees_in text operands))) is

-- what the parts of an evaluation come to
pub ruleset evaluations = (chained, broken, given)
