-- The tokens of a text of shell arithmetic (POSIX, Shell and Utilities, 2.6.4). At each place the longest token counts.
-- A place is the number of code points before it.
use Rattle.std.specs.Prelude.{◌≡◌, ℕ, ◌+◌, ◌-◌, ◌*◌, ◌^◌, ◌≤◌, ◌<◌, ◌⊎◌, List, [], ◌∷◌, ◌++◌, length, codes}
use Rattle.std.specs.Prelude.{if◌then◌else◌}
use Rattle.std.specs.Bool.{nat_le}
use Rattle.std.specs.List.{All}
use Rattle.arith_syntax.specs.declared.operator.BinaryOperator.{BinaryOperator}
use Rattle.arith_syntax.specs.declared.operator.BinaryOperator.TheVariants as binary
use Rattle.arith_syntax.specs.declared.operator.AssignmentOperator.{AssignmentOperator}
use Rattle.arith_syntax.specs.declared.operator.AssignmentOperator.TheVariants as assignment
use Rattle.arith_syntax.specs.declared.token.Token.{Token}
use Rattle.arith_syntax.specs.declared.token.Token.TheVariants.{Constant, Name, Operator, Assign, Complement, Not}
use Rattle.arith_syntax.specs.declared.token.Token.TheVariants.{Increment, Decrement, Question, Colon, Open, Close}
use Rattle.arith_syntax.specs.declared.token.Token.TheVariants.{Semicolon}
use Rattle.arith_syntax.specs.declared.token.Placed.{Placed}

-- white space: space, tab, line feed, vertical tab, form feed, carriage return
abbrev pub IsWhite : ℕ → Type 0
IsWhite c = (c ≡ 32) ⊎ ((9 ≤ c) × (c ≤ 13))

-- an ASCII decimal digit
abbrev pub IsDigit : ℕ → Type 0
IsDigit c = (48 ≤ c) × (c ≤ 57)

-- an ASCII letter or `_`
abbrev pub IsLetter : ℕ → Type 0
IsLetter c = ((65 ≤ c) × (c ≤ 90)) ⊎ ((97 ≤ c) × (c ≤ 122)) ⊎ (c ≡ 95)

-- an ASCII letter, a digit or `_`
abbrev pub IsWordCharacter : ℕ → Type 0
IsWordCharacter c = IsDigit c ⊎ IsLetter c

-- an octal digit
abbrev pub IsOctalDigit : ℕ → Type 0
IsOctalDigit c = (48 ≤ c) × (c ≤ 55)

-- a hexadecimal digit of either case
abbrev pub IsHexadecimalDigit : ℕ → Type 0
IsHexadecimalDigit c = IsDigit c ⊎ ((65 ≤ c) × (c ≤ 70)) ⊎ ((97 ≤ c) × (c ≤ 102))

-- a text has a first character, and that has a property
abbrev pub FirstCharacterIs : (ℕ → Type 0) → List ℕ → Type 0
FirstCharacterIs P [] = ⊥
FirstCharacterIs P (c ∷ cs) = P c

-- what a digit is worth
abbrev pub digit_value : ℕ → ℕ
digit_value c = (if nat_le c 57 then c - 48 else (if nat_le c 70 then c - 55 else c - 87))

-- the number that digits spell in a base: each digit counts by its position
abbrev pub in_base : ℕ → List ℕ → ℕ
in_base base [] = 0
in_base base (d ∷ ds) = digit_value d * base ^ length ds + in_base base ds

-- a decimal constant: a digit 1 to 9 and decimal digits
pub record IsDecimal (word : List ℕ) (n : ℕ) : Type 0 where
  pub first : FirstCharacterIs (λ d. (49 ≤ d) × (d ≤ 57)) word
  pub digits : All IsDigit word
  pub value : n ≡ in_base 10 word

-- an octal constant: `0`, and octal digits if there are more; `0` alone is one, too
pub record IsOctal (word : List ℕ) (n : ℕ) : Type 0 where
  pub digits : List ℕ
  pub spelled : word ≡ 48 ∷ digits
  pub octal : All IsOctalDigit digits
  pub value : n ≡ in_base 8 digits

-- a hexadecimal constant: `0x` or `0X`, and at least one hexadecimal digit
pub record IsHexadecimal (word : List ℕ) (n : ℕ) : Type 0 where
  pub sign : ℕ
  pub digits : List ℕ
  pub spelled : word ≡ 48 ∷ sign ∷ digits
  pub marked : (sign ≡ 120) ⊎ (sign ≡ 88)
  pub some : 0 < length digits
  pub hexadecimal : All IsHexadecimalDigit digits
  pub value : n ≡ in_base 16 digits

-- a constant, which has to be below 2^63: decimal, octal or hexadecimal
abbrev pub IsConstant : List ℕ → ℕ → Type 0
IsConstant word n = (n < 2 ^ 63) × (IsDecimal word n ⊎ IsOctal word n ⊎ IsHexadecimal word n)

-- a word: a run of letters, digits and `_`; what follows it, `rest`, begins with none of these
pub record IsWord (word rest : List ℕ) : Type 0 where
  pub characters : All IsWordCharacter word
  pub longest : FirstCharacterIs IsWordCharacter rest → ⊥

-- the sign of an operator with two operands
abbrev pub operator_sign : BinaryOperator → List ℕ
operator_sign binary.Multiply = codes "*"
operator_sign binary.Divide = codes "/"
operator_sign binary.Remainder = codes "%"
operator_sign binary.Add = codes "+"
operator_sign binary.Subtract = codes "-"
operator_sign binary.ShiftLeft = codes "<<"
operator_sign binary.ShiftRight = codes ">>"
operator_sign binary.Less = codes "<"
operator_sign binary.LessOrEqual = codes "<="
operator_sign binary.Greater = codes ">"
operator_sign binary.GreaterOrEqual = codes ">="
operator_sign binary.Equal = codes "=="
operator_sign binary.NotEqual = codes "!="
operator_sign binary.BitAnd = codes "&"
operator_sign binary.BitXor = codes "^"
operator_sign binary.BitOr = codes "|"
operator_sign binary.And = codes "&&"
operator_sign binary.Or = codes "||"

-- the sign of an operator that assigns
abbrev pub assignment_sign : AssignmentOperator → List ℕ
assignment_sign assignment.Assign = codes "="
assignment_sign assignment.Add = codes "+="
assignment_sign assignment.Subtract = codes "-="
assignment_sign assignment.Multiply = codes "*="
assignment_sign assignment.Divide = codes "/="
assignment_sign assignment.Remainder = codes "%="
assignment_sign assignment.ShiftLeft = codes "<<="
assignment_sign assignment.ShiftRight = codes ">>="
assignment_sign assignment.BitAnd = codes "&="
assignment_sign assignment.BitXor = codes "^="
assignment_sign assignment.BitOr = codes "|="

-- the spelling of a token that is a sign
abbrev pub IsSign : Token → List ℕ → Type 0
IsSign (Constant n) text = ⊥
IsSign (Name x) text = ⊥
IsSign (Operator op) text = text ≡ operator_sign op
IsSign (Assign op) text = text ≡ assignment_sign op
IsSign Complement text = text ≡ codes "~"
IsSign Not text = text ≡ codes "!"
IsSign Increment text = text ≡ codes "++"
IsSign Decrement text = text ≡ codes "--"
IsSign Question text = text ≡ codes "?"
IsSign Colon text = text ≡ codes ":"
IsSign Open text = text ≡ codes "("
IsSign Close text = text ≡ codes ")"
IsSign Semicolon text = text ≡ codes ";"

-- a sign that stands here, if no sign that stands here is longer; `rest` follows it
pub record IsLongestSign (token : Token) (sign rest : List ℕ) : Type 0 where
  pub is_sign : IsSign token sign
  pub longest : (other : Token) (text more : List ℕ) → IsSign other text → sign ++ rest ≡ text ++ more
      → length text ≤ length sign

-- a token, what spells it, and what follows that
abbrev pub IsToken : Token → List ℕ → List ℕ → Type 0
IsToken (Constant n) word rest = IsWord word rest × IsConstant word n
IsToken (Name x) word rest = IsWord word rest × FirstCharacterIs IsLetter word × (x ≡ word)
IsToken token sign rest = IsLongestSign token sign rest

-- the tokens that a text begins with; the text begins at the place `place`, and `rest` is what follows them, at the
-- place `end`
abbrev pub ReadsTokens : ℕ → List ℕ → List Placed → ℕ → List ℕ → Type 0
ReadsTokens place text [] end rest = (end ≡ place) × (rest ≡ text)
ReadsTokens place text (t ∷ ts) end rest =
    (white : List ℕ) × (spelled : List ℕ) × (more : List ℕ)
    × (text ≡ white ++ (spelled ++ more)) × All IsWhite white × IsToken t.token spelled more
    × (t.place ≡ place + length white)
    × ReadsTokens (place + length white + length spelled) more ts end rest

-- a text is these tokens, with white space between and around them
pub record IsTokens (text : List ℕ) (tokens : List Placed) : Type 0 where
  pub end : ℕ
  pub rest : List ℕ
  pub reads : ReadsTokens 0 text tokens end rest
  pub white : All IsWhite rest

-- Before this place stand tokens and white space. At it stands a character that begins no token, or a constant that is
-- wrong.
pub record IsWrongAt (text : List ℕ) (place : ℕ) : Type 0 where
  pub tokens : List Placed
  pub end : ℕ
  pub white : List ℕ
  pub wrong : List ℕ
  pub reads : ReadsTokens 0 text tokens end (white ++ wrong)
  pub blank : All IsWhite white
  pub there : place ≡ end + length white
  pub some : 0 < length wrong
  pub visible : FirstCharacterIs IsWhite wrong → ⊥
  pub no_token : (token : Token) (spelled rest : List ℕ) → wrong ≡ spelled ++ rest → IsToken token spelled rest → ⊥
