-- The faults of values are their own: operator by operator, and then down a tree.
use Rattle.std.proofs.Common.{ℕ, ◌*◌, ◌^◌, ℤ, pos, negsuc, Bool, true, false, List, Result, Ok, Err, Option, Some}
use Rattle.std.proofs.Common.{None, nat_lt, int_div, int_rem, ◌+ℤ◌, ◌-ℤ◌, ◌*ℤ◌, neg_ℤ}
use Rattle.std.specs.Prelude.{if◌then◌else◌}
use Rattle.arith_syntax.specs.Grammar.{Tree, Number, Variable, Group, Unary, Binary, Conditional, Assignment}
use Rattle.arith_syntax.specs.declared.operator.BinaryOperator.{BinaryOperator}
use Rattle.arith_syntax.specs.declared.operator.BinaryOperator.TheVariants as binary
use Rattle.arith_syntax.specs.declared.operator.UnaryOperator.{UnaryOperator}
use Rattle.arith_syntax.specs.declared.operator.UnaryOperator.TheVariants as prefix
use Rattle.arith_syntax.specs.declared.operator.AssignmentOperator.{AssignmentOperator}
use Rattle.arith_value.specs.declared.fault.ValueFault.{ValueFault}
use Rattle.arith_value.specs.declared.fault.ValueFault.TheVariants.{Overflow, ZeroDivision, Shift, OutOfMemory}
use Rattle.arith_value.specs.Operators.{apply, beside, checked, count_of, is_true, lowered, quotient, raised}
use Rattle.arith_value.specs.Operators.{shift_left, unary}
use Rattle.arith_value.specs.Own.{IsOwnResult}
use Rattle.arith_value.specs.Value.{Evaluation, Computation, assignment_of, combined, decided, first_then, followed}
use Rattle.arith_value.specs.Value.{give}
use Rattle.arith_value.specs.Value.{load, operate, operator_of, store, unless, value}
use Rattle.arith_value.specs.Variables.{Bindings, after}

-- one of two results that are their own
choice : {T : Type 0} (b : Bool) (r s : Result T ValueFault) → IsOwnResult r → IsOwnResult s
    → IsOwnResult (if b then r else s)
choice true r s p q = p
choice false r s p q = q

own_checked : (n : ℤ) → IsOwnResult (checked n)
own_checked (pos n) = choice (nat_lt n (2 ^ 63)) (Ok (pos n)) (Err Overflow) tt tt
own_checked (negsuc n) = choice (nat_lt n (2 ^ 63)) (Ok (negsuc n)) (Err Overflow) tt tt

own_quotient : (a b : ℤ) → IsOwnResult (quotient a b)
own_quotient a b = choice (is_true b) (checked (int_div a b)) (Err ZeroDivision) (own_checked (int_div a b)) tt

own_beside : (r : Result ℤ ValueFault) (n : ℤ) → IsOwnResult r → IsOwnResult (beside r n)
own_beside (Ok q) n h = tt
own_beside (Err fault) n h = h

own_count : (n : ℤ) → IsOwnResult (count_of n)
own_count (pos n) = choice (nat_lt n 64) (Ok n) (Err Shift) tt tt
own_count (negsuc n) = tt

own_raised : (a : ℕ) (count : Result ℕ ValueFault) → IsOwnResult count → IsOwnResult (raised a count)
own_raised a (Ok n) h = own_checked (pos (a * 2 ^ n))
own_raised a (Err Overflow) h = tt
own_raised a (Err ZeroDivision) h = tt
own_raised a (Err Shift) h = tt
own_raised a (Err OutOfMemory) h = absurd h

own_left : (a b : ℤ) → IsOwnResult (shift_left a b)
own_left (pos a) b = own_raised a (count_of b) (own_count b)
own_left (negsuc a) b = tt

own_lowered : (a : ℤ) (count : Result ℕ ValueFault) → IsOwnResult count → IsOwnResult (lowered a count)
own_lowered a (Ok n) h = tt
own_lowered a (Err Overflow) h = tt
own_lowered a (Err ZeroDivision) h = tt
own_lowered a (Err Shift) h = tt
own_lowered a (Err OutOfMemory) h = absurd h

own_unary : (op : UnaryOperator) (a : ℤ) → IsOwnResult (unary op a)
own_unary prefix.Plus a = tt
own_unary prefix.Minus a = own_checked (neg_ℤ a)
own_unary prefix.Complement a = tt
own_unary prefix.Not a = tt

own_apply : (op : BinaryOperator) (a b : ℤ) → IsOwnResult (apply op a b)
own_apply binary.Multiply a b = own_checked (a *ℤ b)
own_apply binary.Divide a b = own_quotient a b
own_apply binary.Remainder a b = own_beside (quotient a b) (int_rem a b) (own_quotient a b)
own_apply binary.Add a b = own_checked (a +ℤ b)
own_apply binary.Subtract a b = own_checked (a -ℤ b)
own_apply binary.ShiftLeft a b = own_left a b
own_apply binary.ShiftRight a b = own_lowered a (count_of b) (own_count b)
own_apply binary.Less a b = tt
own_apply binary.LessOrEqual a b = tt
own_apply binary.Greater a b = tt
own_apply binary.GreaterOrEqual a b = tt
own_apply binary.Equal a b = tt
own_apply binary.NotEqual a b = tt
own_apply binary.BitAnd a b = tt
own_apply binary.BitXor a b = tt
own_apply binary.BitOr a b = tt
own_apply binary.And a b = tt
own_apply binary.Or a b = tt

-- an evaluation whose result is its own, whatever the variables
abbrev AlwaysOwn : Computation → Type 0
AlwaysOwn step = (variables : Bindings) → IsOwnResult (step variables).result

own_followed : (result : Result ℤ ValueFault) (made : Bindings) (next : ℤ → Evaluation) → IsOwnResult result
    → ((n : ℤ) → IsOwnResult (next n).result) → IsOwnResult (followed result made next).result
own_followed (Ok n) made next h k = k n
own_followed (Err fault) made next h k = h

own_then : (first : Computation) (next : ℤ → Computation) → AlwaysOwn first → ((n : ℤ) → AlwaysOwn (next n))
    → AlwaysOwn (first_then first next)
own_then first next h k variables =
    own_followed (first variables).result (first variables).made (λ n. next n (after variables (first variables).made))
    (h variables) (λ n. k n _)

own_unless : (known : Option ℤ) (step : Computation) → AlwaysOwn step → AlwaysOwn (unless known step)
own_unless None step h = h
own_unless (Some n) step h = λ variables. tt

own_operate : (op : BinaryOperator) (a : ℤ) (right : Computation) → AlwaysOwn right → AlwaysOwn (operate op a right)
own_operate op a right h =
    own_unless (decided op a) (first_then right (λ b. give (apply op a b)))
    (own_then right (λ b. give (apply op a b)) h (λ b variables. own_apply op a b))

own_combined : (op : Option BinaryOperator) (name : List ℕ) (operand : ℤ) → AlwaysOwn (combined op name operand)
own_combined None name operand = λ variables. tt
own_combined (Some op) name operand =
    own_then (load name) (λ old. give (apply op old operand)) (λ variables. tt)
    (λ old variables. own_apply op old operand)

own_assignment : (name : List ℕ) (op : AssignmentOperator) (operand : ℤ) → AlwaysOwn (assignment_of name op operand)
own_assignment name op operand =
    own_then (combined (operator_of op) name operand) (λ n. store name n) (own_combined (operator_of op) name operand)
    (λ n variables. tt)

-- one of two evaluations
own_branch : (b : Bool) (if_so if_not : Computation) → AlwaysOwn if_so → AlwaysOwn if_not
    → AlwaysOwn (if b then if_so else if_not)
own_branch true if_so if_not p q = p
own_branch false if_so if_not p q = q

-- what a tree is worth
pub own_values : (tree : Tree) (variables : Bindings) → IsOwnResult (value tree variables).result
own_values (Number n) = λ variables. own_checked (pos n)
own_values (Variable name) = λ variables. tt
own_values (Group inner) = own_values inner
own_values (Unary op operand) =
    own_then (value operand) (λ a. give (unary op a)) (own_values operand) (λ a variables. own_unary op a)
own_values (Binary left op right) =
    own_then (value left) (λ a. operate op a (value right)) (own_values left)
    (λ a. own_operate op a (value right) (own_values right))
own_values (Conditional condition if_so if_not) =
    own_then (value condition) (λ a. if is_true a then value if_so else value if_not) (own_values condition)
    (λ a. own_branch (is_true a) (value if_so) (value if_not) (own_values if_so) (own_values if_not))
own_values (Assignment name op operand) =
    own_then (value operand) (λ a. assignment_of name op a) (own_values operand) (λ a. own_assignment name op a)
