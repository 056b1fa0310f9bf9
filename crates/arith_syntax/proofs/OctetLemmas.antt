-- A text that is tokens and white space is ASCII, so its octets are its code points.
use Rattle.std.proofs.Common.{◌≡◌, ℕ, suc, ◌<◌, Bool, true, ◌&&◌, List, [], ◌∷◌, ◌++◌, refl, sym, ◌∙◌, arith}
use Rattle.std.proofs.Common.{nat_lt, subst}
use Rattle.std.specs.Prelude.{codes}
use Rattle.std.proofs.lemmas.Bool.Decides.{nat_tests}
use Rattle.std.specs.List.{All}
use Rattle.std.specs.Str.{IsAscii, IsUtf8, chars}
use Rattle.std.proofs.lemmas.Str.{IsAscii-append, encodes-IsAscii, encodes-chars}
use Rattle.std.proofs.lemmas.Str.Ascii.{IsAscii-nil, IsAscii-cons}
use Rattle.arith_syntax.specs.declared.operator.BinaryOperator.{BinaryOperator}
use Rattle.arith_syntax.specs.declared.operator.BinaryOperator.TheVariants as binary
use Rattle.arith_syntax.specs.declared.operator.AssignmentOperator.{AssignmentOperator}
use Rattle.arith_syntax.specs.declared.operator.AssignmentOperator.TheVariants as assignment
use Rattle.arith_syntax.specs.declared.token.Token.{Token}
use Rattle.arith_syntax.specs.declared.token.Token.TheVariants.{Constant, Name, Operator, Assign, Complement, Not}
use Rattle.arith_syntax.specs.declared.token.Token.TheVariants.{Increment, Decrement, Question, Colon, Open, Close}
use Rattle.arith_syntax.specs.declared.token.Token.TheVariants.{Semicolon}
use Rattle.arith_syntax.specs.declared.token.Placed.{Placed}
use Rattle.arith_syntax.specs.Tokens.{IsWhite, IsWordCharacter, IsSign, IsToken, IsTokens, ReadsTokens, operator_sign}
use Rattle.arith_syntax.specs.Tokens.{assignment_sign}

-- characters of a kind that is ASCII
pub of_kind : (P : ℕ → Type 0) → ((c : ℕ) → P c → c < 128) → (cs : List ℕ) → All P cs → IsAscii cs
of_kind P small [] h = IsAscii-nil
of_kind P small (c ∷ cs) h =
    IsAscii-cons c cs (small c (h 0 c (omega arith))) (of_kind P small cs (λ k d below. h (suc k) d (omega arith)))

-- white space is ASCII
pub white : (c : ℕ) → IsWhite c → c < 128
white c h = grind arith

-- the characters of a word are ASCII
pub word : (c : ℕ) → IsWordCharacter c → c < 128
word c h = grind arith

-- whether each character is ASCII
abbrev pub all_small : List ℕ → Bool
all_small [] = true
all_small (c ∷ cs) = nat_lt c 128 && all_small cs

-- characters that are, by that test
pub ascii : (cs : List ℕ) → all_small cs ≡ true → IsAscii cs
ascii [] h = IsAscii-nil
ascii (c ∷ cs) h = IsAscii-cons c cs (grind (arith, nat_tests)) (ascii cs (grind (arith, nat_tests)))

-- the sign of an operator is ASCII
pub operator : (op : BinaryOperator) → all_small (operator_sign op) ≡ true
operator binary.Multiply = refl
operator binary.Divide = refl
operator binary.Remainder = refl
operator binary.Add = refl
operator binary.Subtract = refl
operator binary.ShiftLeft = refl
operator binary.ShiftRight = refl
operator binary.Less = refl
operator binary.LessOrEqual = refl
operator binary.Greater = refl
operator binary.GreaterOrEqual = refl
operator binary.Equal = refl
operator binary.NotEqual = refl
operator binary.BitAnd = refl
operator binary.BitXor = refl
operator binary.BitOr = refl
operator binary.And = refl
operator binary.Or = refl

-- the sign of an operator that assigns is ASCII
pub assigning : (op : AssignmentOperator) → all_small (assignment_sign op) ≡ true
assigning assignment.Assign = refl
assigning assignment.Add = refl
assigning assignment.Subtract = refl
assigning assignment.Multiply = refl
assigning assignment.Divide = refl
assigning assignment.Remainder = refl
assigning assignment.ShiftLeft = refl
assigning assignment.ShiftRight = refl
assigning assignment.BitAnd = refl
assigning assignment.BitXor = refl
assigning assignment.BitOr = refl

-- each sign is ASCII
pub sign : (token : Token) (text : List ℕ) → IsSign token text → IsAscii text
sign (Constant n) text h = absurd h
sign (Name x) text h = absurd h
sign (Operator op) text h = subst IsAscii (sym h) (ascii (operator_sign op) (operator op))
sign (Assign op) text h = subst IsAscii (sym h) (ascii (assignment_sign op) (assigning op))
sign Complement text h = subst IsAscii (sym h) (ascii (codes "~") refl)
sign Not text h = subst IsAscii (sym h) (ascii (codes "!") refl)
sign Increment text h = subst IsAscii (sym h) (ascii (codes "++") refl)
sign Decrement text h = subst IsAscii (sym h) (ascii (codes "--") refl)
sign Question text h = subst IsAscii (sym h) (ascii (codes "?") refl)
sign Colon text h = subst IsAscii (sym h) (ascii (codes ":") refl)
sign Open text h = subst IsAscii (sym h) (ascii (codes "(") refl)
sign Close text h = subst IsAscii (sym h) (ascii (codes ")") refl)
sign Semicolon text h = subst IsAscii (sym h) (ascii (codes ";") refl)

-- what spells a token is ASCII
pub token : (t : Token) (spelled rest : List ℕ) → IsToken t spelled rest → IsAscii spelled
token (Constant n) spelled rest h = of_kind IsWordCharacter word spelled h.0.characters
token (Name x) spelled rest h = of_kind IsWordCharacter word spelled h.0.characters
token (Operator op) spelled rest h = sign (Operator op) spelled h.is_sign
token (Assign op) spelled rest h = sign (Assign op) spelled h.is_sign
token Complement spelled rest h = sign Complement spelled h.is_sign
token Not spelled rest h = sign Not spelled h.is_sign
token Increment spelled rest h = sign Increment spelled h.is_sign
token Decrement spelled rest h = sign Decrement spelled h.is_sign
token Question spelled rest h = sign Question spelled h.is_sign
token Colon spelled rest h = sign Colon spelled h.is_sign
token Open spelled rest h = sign Open spelled h.is_sign
token Close spelled rest h = sign Close spelled h.is_sign
token Semicolon spelled rest h = sign Semicolon spelled h.is_sign

-- what is read is ASCII where the rest is
pub read : (tokens : List Placed) (place : ℕ) (text : List ℕ) (end : ℕ) (rest : List ℕ)
    → ReadsTokens place text tokens end rest → IsAscii rest → IsAscii text
read [] place text end rest r h = subst IsAscii r.1 h
read (t ∷ ts) place text end rest (blank, spelled, more, all, is_blank, is_token, there, behind) h =
    subst IsAscii (sym all) (IsAscii-append blank (spelled ++ more) (of_kind IsWhite white blank is_blank)
    (IsAscii-append spelled more (token t.token spelled more is_token) (read ts _ more end rest behind h)))

-- the octets of a text that is tokens are its code points
pub octets : (text : List ℕ) (tokens : List Placed) → IsUtf8 text → IsTokens (chars text) tokens → chars text ≡ text
octets text tokens utf8 is =
    let ascii : IsAscii (chars text) = read tokens 0 (chars text) is.end is.rest is.reads
    (of_kind IsWhite white is.rest is.white) in
    sym (encodes-IsAscii (chars text) ascii) ∙ encodes-chars text utf8
