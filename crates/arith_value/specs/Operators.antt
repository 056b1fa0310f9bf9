-- The operators of shell arithmetic (POSIX, Shell and Utilities, 2.6.4) over whole numbers. Their results have to fit
-- into 64 bits with a sign.
use Rattle.std.specs.Prelude.{ℕ, zero, suc, ◌*◌, ◌/◌, ◌^◌, Bool, true, false, ◌&&◌, ◌||◌, not, ℤ, pos, negsuc, ◌+ℤ◌}
use Rattle.std.specs.Prelude.{◌-ℤ◌, ◌*ℤ◌, neg_ℤ, int_lt, int_le, int_div, int_rem, nat_lt, bit_and, bit_or, bit_xor}
use Rattle.std.specs.Prelude.{if◌then◌else◌, Result, Ok, Err}
use Rattle.std.specs.Int.{w64, cast_unsigned, cast_signed, bit_not}
use Rattle.std.specs.Ordering.{int_eq}
use Rattle.arith_syntax.specs.declared.operator.BinaryOperator.{BinaryOperator}
use Rattle.arith_syntax.specs.declared.operator.BinaryOperator.TheVariants as binary
use Rattle.arith_syntax.specs.declared.operator.UnaryOperator.{UnaryOperator}
use Rattle.arith_syntax.specs.declared.operator.UnaryOperator.TheVariants as prefix
use Rattle.arith_value.specs.declared.fault.ValueFault.{ValueFault}
use Rattle.arith_value.specs.declared.fault.ValueFault.TheVariants.{Overflow, ZeroDivision, Shift}

-- a result, which has to lie between -2^63 and 2^63 - 1; `negsuc n` is -(n + 1)
abbrev pub checked : ℤ → Result ℤ ValueFault
checked (pos n) = if nat_lt n (2 ^ 63) then Ok (pos n) else Err Overflow
checked (negsuc n) = if nat_lt n (2 ^ 63) then Ok (negsuc n) else Err Overflow

-- a number is true unless it is 0
abbrev pub is_true : ℤ → Bool
is_true (pos zero) = false
is_true (pos (suc n)) = true
is_true (negsuc n) = true

-- 1 for what is true, and 0 for what is false
abbrev pub truth : Bool → ℤ
truth true = pos 1
truth false = pos 0

-- the quotient, rounded towards zero; a division by 0 is refused
abbrev pub quotient : ℤ → ℤ → Result ℤ ValueFault
quotient a b = if is_true b then checked (int_div a b) else Err ZeroDivision

-- a remainder, unless the quotient has a fault
abbrev pub beside : Result ℤ ValueFault → ℤ → Result ℤ ValueFault
beside (Ok q) r = Ok r
beside (Err fault) r = Err fault

-- the remainder, which is 0 or has the dividend's sign; it is refused if the quotient is
abbrev pub remainder : ℤ → ℤ → Result ℤ ValueFault
remainder a b = beside (quotient a b) (int_rem a b)

-- how far a shift goes: 0 to 63; any other count is a fault
abbrev pub count_of : ℤ → Result ℕ ValueFault
count_of (pos count) = if nat_lt count 64 then Ok count else Err Shift
count_of (negsuc count) = Err Shift

-- a natural number times a power of two, if the count of the shift has no fault
abbrev pub raised : ℕ → Result ℕ ValueFault → Result ℤ ValueFault
raised a (Ok count) = checked (pos (a * 2 ^ count))
raised a (Err fault) = Err fault

-- a product with a power of two; a negative value is refused
abbrev pub shift_left : ℤ → ℤ → Result ℤ ValueFault
shift_left (pos a) b = raised a (count_of b)
shift_left (negsuc a) b = Err Shift

-- a quotient by a natural number, rounded down
abbrev pub rounded_down : ℤ → ℕ → ℤ
rounded_down (pos a) d = pos (a / d)
rounded_down (negsuc a) d = negsuc (a / d)

-- a number divided by a power of two and rounded down, if the count of the shift has no fault
abbrev pub lowered : ℤ → Result ℕ ValueFault → Result ℤ ValueFault
lowered a (Ok count) = Ok (rounded_down a (2 ^ count))
lowered a (Err fault) = Err fault

-- a quotient by a power of two, rounded down
abbrev pub shift_right : ℤ → ℤ → Result ℤ ValueFault
shift_right a b = lowered a (count_of b)

-- an operation on the 64 bits of two's complement
abbrev pub bitwise : (ℕ → ℕ → ℕ) → ℤ → ℤ → ℤ
bitwise operation a b = cast_signed w64 (operation (cast_unsigned w64 a) (cast_unsigned w64 b))

-- the value of an operator in front of its operand
abbrev pub unary : UnaryOperator → ℤ → Result ℤ ValueFault
unary prefix.Plus a = Ok a
unary prefix.Minus a = checked (neg_ℤ a)
unary prefix.Complement a = Ok (cast_signed w64 (bit_not w64 (cast_unsigned w64 a)))
unary prefix.Not a = Ok (truth (not (is_true a)))

-- the value of an operator between its operands
abbrev pub apply : BinaryOperator → ℤ → ℤ → Result ℤ ValueFault
apply binary.Multiply a b = checked (a *ℤ b)
apply binary.Divide a b = quotient a b
apply binary.Remainder a b = remainder a b
apply binary.Add a b = checked (a +ℤ b)
apply binary.Subtract a b = checked (a -ℤ b)
apply binary.ShiftLeft a b = shift_left a b
apply binary.ShiftRight a b = shift_right a b
apply binary.Less a b = Ok (truth (int_lt a b))
apply binary.LessOrEqual a b = Ok (truth (int_le a b))
apply binary.Greater a b = Ok (truth (int_lt b a))
apply binary.GreaterOrEqual a b = Ok (truth (int_le b a))
apply binary.Equal a b = Ok (truth (int_eq a b))
apply binary.NotEqual a b = Ok (truth (not (int_eq a b)))
apply binary.BitAnd a b = Ok (bitwise bit_and a b)
apply binary.BitXor a b = Ok (bitwise bit_xor a b)
apply binary.BitOr a b = Ok (bitwise bit_or a b)
apply binary.And a b = Ok (truth (is_true a && is_true b))
apply binary.Or a b = Ok (truth (is_true a || is_true b))
