-- The value of a statement's tree (POSIX, Shell and Utilities, 2.6.4): a whole number or a fault, and the assignments
-- that were made on the way.
--
-- Left operands are evaluated before right ones. `&&`, `||` and `?:` evaluate only what they need.
use Rattle.std.specs.Prelude.{◌≡◌, ℕ, ℤ, pos, List, [], ◌∷◌, ◌++◌, Result, Ok, Err, Option, Some, None, if◌then◌else◌}
use Rattle.arith_syntax.specs.Grammar.{Tree, Number, Variable, Group, Unary, Binary, Conditional, Assignment}
use Rattle.arith_syntax.specs.declared.operator.BinaryOperator.{BinaryOperator}
use Rattle.arith_syntax.specs.declared.operator.BinaryOperator.TheVariants as binary
use Rattle.arith_syntax.specs.declared.operator.AssignmentOperator.{AssignmentOperator}
use Rattle.arith_syntax.specs.declared.operator.AssignmentOperator.TheVariants as assignment
use Rattle.arith_value.specs.declared.fault.ValueFault.{ValueFault}
use Rattle.arith_value.specs.declared.fault.ValueFault.TheVariants as fault
use Rattle.arith_value.specs.Operators.{checked, is_true, unary, apply}
use Rattle.arith_value.specs.Variables.{Bindings, read, after}

-- an evaluation: its result, and the assignments that it made, in their order
pub record Evaluation : Type 0 where
  pub result : Result ℤ ValueFault
  pub made : Bindings

-- a computation: what it comes to, by the variables before it
abbrev pub Computation : Type 0
Computation = Bindings → Evaluation

-- a computation that has this result and assigns nothing
abbrev pub give : Result ℤ ValueFault → Computation
give result variables = record { result = result; made = [] }

-- a computation whose result is the value of a name, and that assigns nothing
abbrev pub load : List ℕ → Computation
load name variables = give (Ok (read name variables)) variables

-- an assignment, whose value is what was assigned
abbrev pub store : List ℕ → ℤ → Computation
store name value variables = record { result = Ok value; made = (name, value) ∷ [] }

-- what comes after an evaluation: if that has a value, the next one by this value, with the assignments of both; else
-- its fault
abbrev pub followed : Result ℤ ValueFault → Bindings → (ℤ → Evaluation) → Evaluation
followed (Ok value) made next = record { result = (next value).result; made = made ++ (next value).made }
followed (Err fault) made next = record { result = Err fault; made = made }

-- one computation, and then the next with its value and the variables after it; a fault ends both
abbrev pub first_then : Computation → (ℤ → Computation) → Computation
first_then first next variables =
    followed (first variables).result (first variables).made
    (λ value. next value (after variables (first variables).made))

-- the value that the left operand decides by itself: 0 if it is false and the operator is `&&`, 1 if it is true and
-- that is `||`
abbrev pub decided : BinaryOperator → ℤ → Option ℤ
decided binary.And a = if is_true a then None else Some (pos 0)
decided binary.Or a = if is_true a then Some (pos 1) else None
decided op a = None

-- a value that is decided, or else a computation
abbrev pub unless : Option ℤ → Computation → Computation
unless None step = step
unless (Some value) step = give (Ok value)

-- the value of an operator: the right operand is evaluated unless the left one decides
abbrev pub operate : BinaryOperator → ℤ → Computation → Computation
operate op a right = unless (decided op a) (first_then right (λ b. give (apply op a b)))

-- the operator that an assignment applies before it assigns, if it has one
abbrev pub operator_of : AssignmentOperator → Option BinaryOperator
operator_of assignment.Assign = None
operator_of assignment.Add = Some binary.Add
operator_of assignment.Subtract = Some binary.Subtract
operator_of assignment.Multiply = Some binary.Multiply
operator_of assignment.Divide = Some binary.Divide
operator_of assignment.Remainder = Some binary.Remainder
operator_of assignment.ShiftLeft = Some binary.ShiftLeft
operator_of assignment.ShiftRight = Some binary.ShiftRight
operator_of assignment.BitAnd = Some binary.BitAnd
operator_of assignment.BitXor = Some binary.BitXor
operator_of assignment.BitOr = Some binary.BitOr

-- what an assignment assigns: its operand, or what its operator gives of the name's value and the operand; the name is
-- read after the operand was evaluated
abbrev pub combined : Option BinaryOperator → List ℕ → ℤ → Computation
combined None name operand = give (Ok operand)
combined (Some op) name operand = first_then (load name) (λ old. give (apply op old operand))

-- an assignment whose operand has this value
abbrev pub assignment_of : List ℕ → AssignmentOperator → ℤ → Computation
assignment_of name op operand = first_then (combined (operator_of op) name operand) (λ value. store name value)

-- The value of a tree by its variables. A constant is worth itself, a name its variable's value, a group what is in it.
-- An operator with one operand is applied to its value; one with two evaluates the left first. `?:` evaluates its
-- condition, and then one of its two values. An assignment evaluates its operand and then assigns.
abbrev pub value : Tree → Computation
value (Number n) = give (checked (pos n))
value (Variable name) = load name
value (Group inner) = value inner
value (Unary op operand) = first_then (value operand) (λ a. give (unary op a))
value (Binary left op right) = first_then (value left) (λ a. operate op a (value right))
value (Conditional condition if_so if_not) =
    first_then (value condition) (λ a. if is_true a then value if_so else value if_not)
value (Assignment name op operand) = first_then (value operand) (λ a. assignment_of name op a)

-- the variables are `new` after all that a computation assigned, and this is its result
pub record Comes (step : Computation) (old : Bindings) (answer : Result ℤ ValueFault) (new : Bindings) : Type 0 where
  pub result : answer ≡ (step old).result
  pub assigned : new ≡ after old (step old).made

-- the variables are `new` after the beginning `done` of what a computation assigns
pub record Stops (step : Computation) (old new : Bindings) : Type 0 where
  pub done : Bindings
  pub rest : Bindings
  pub beginning : done ++ rest ≡ (step old).made
  pub assigned : new ≡ after old done

-- A program's answer and the variables that it leaves are those of a computation. If memory was wanting, it leaves the
-- variables after a beginning of the assignments.
abbrev pub Evaluates : Computation → Bindings → Result ℤ ValueFault → Bindings → Type 0
Evaluates step old (Ok n) new = Comes step old (Ok n) new
Evaluates step old (Err fault.Overflow) new = Comes step old (Err fault.Overflow) new
Evaluates step old (Err fault.ZeroDivision) new = Comes step old (Err fault.ZeroDivision) new
Evaluates step old (Err fault.Shift) new = Comes step old (Err fault.Shift) new
Evaluates step old (Err fault.OutOfMemory) new = Stops step old new
