-- What the lexer answers, whole and in parts.
use Rattle.std.specs.Prelude.{◌≡◌, ℕ, ◌≤◌, ◌<◌, ◌^◌, ⊤, List, [], ◌∷◌, ◌+◌, ◌++◌, length, take, drop, Option, Some}
use Rattle.std.specs.Prelude.{None, Result, Ok}
use Rattle.std.specs.Prelude.{Err}
use Rattle.std.specs.List.{All}
use Rattle.std.specs.Global.{Vec}
use Rattle.std.specs.Str.{IsUtf8, chars}
use Rattle.arith_syntax.specs.declared.fault.ReadFault.{ReadFault}
use Rattle.arith_syntax.specs.declared.fault.ReadFault.TheVariants.{Syntax, TooDeep, OutOfMemory}
use Rattle.arith_syntax.specs.declared.token.Token.{Token}
use Rattle.arith_syntax.specs.declared.token.Placed.{Placed}
use Rattle.arith_syntax.specs.declared.lexer.Next.{Next}
use Rattle.arith_syntax.specs.declared.spelled.Spelled.{Spelled}
use Rattle.arith_syntax.specs.Tokens.{FirstCharacterIs, IsHexadecimalDigit, digit_value, in_base, IsConstant, IsSign}
use Rattle.arith_syntax.specs.Tokens.{IsLongestSign, IsToken, IsTokens, IsWhite, IsWrongAt, ReadsTokens}

-- what a text is as tokens: these, or wrong at a place
abbrev pub Lexes : List ℕ → Result (Vec Placed) ReadFault → Type 0
Lexes text (Ok placed) = IsTokens text placed.items
Lexes text (Err (Syntax place)) = IsWrongAt text place
Lexes text (Err TooDeep) = ⊥
Lexes text (Err OutOfMemory) = ⊤

-- a text begins with so many characters of a kind, and another one of it doesn't follow
pub record IsRun (P : ℕ → Type 0) (text : List ℕ) (size : ℕ) : Type 0 where
  pub fits : size ≤ length text
  pub inside : All P (take size text)
  pub longest : FirstCharacterIs P (drop size text) → ⊥

-- a digit of a base of at most 16
abbrev pub IsDigitOf : ℕ → ℕ → Type 0
IsDigitOf base c = IsHexadecimalDigit c × (digit_value c < base)

-- what digits of a base are worth, if that is below 2^63
pub record IsNumber (base : ℕ) (digits : List ℕ) (n : ℕ) : Type 0 where
  pub proper : All (IsDigitOf base) digits
  pub value : n ≡ in_base base digits
  pub fits : n < 2 ^ 63

-- what some characters are worth as digits of a base, or that they aren't such digits or are worth 2^63 or more
abbrev pub ReadsNumber : ℕ → List ℕ → Option ℕ → Type 0
ReadsNumber base digits (Some n) = IsNumber base digits n
ReadsNumber base digits None = (n : ℕ) → IsNumber base digits n → ⊥

-- the constant that a word is
abbrev pub ReadsConstant : List ℕ → Option ℕ → Type 0
ReadsConstant word (Some n) = IsConstant word n
ReadsConstant word None = (n : ℕ) → IsConstant word n → ⊥

-- the token that a sign spells
abbrev pub SpellsSign : List ℕ → Option Token → Type 0
SpellsSign text (Some token) = IsSign token text
SpellsSign text None = (token : Token) → IsSign token text → ⊥

-- no sign of two or three characters begins with these two
abbrev pub StandsAlone : ℕ → ℕ → Type 0
StandsAlone first second =
    SpellsSign (first ∷ second ∷ []) None × ((third : ℕ) → SpellsSign (first ∷ second ∷ third ∷ []) None)

-- the longest sign that a text begins with
abbrev pub BeginsWithSign : List ℕ → Option Spelled → Type 0
BeginsWithSign text (Some s) =
    (s.size ≤ length text) × IsLongestSign s.token (take s.size text) (drop s.size text)
BeginsWithSign text None = (token : Token) (sign rest : List ℕ) → text ≡ sign ++ rest → IsSign token sign → ⊥

-- the token that a text begins with
abbrev pub BeginsWithToken : List ℕ → Result (Option Spelled) ReadFault → Type 0
BeginsWithToken text (Ok (Some s)) =
    (s.size ≤ length text) × (0 < s.size) × IsToken s.token (take s.size text) (drop s.size text)
BeginsWithToken text (Ok None) =
    (token : Token) (spelled rest : List ℕ) → text ≡ spelled ++ rest → IsToken token spelled rest → ⊥
BeginsWithToken text (Err fault) = fault ≡ OutOfMemory

-- the tokens of a text up to a place at which no white space stands
pub record IsReached (text : List ℕ) (found : List Placed) (place : ℕ) : Type 0 where
  pub fits : place ≤ length text
  pub end : ℕ
  pub white : List ℕ
  pub reads : ReadsTokens 0 text found end (white ++ drop place text)
  pub blank : All IsWhite white
  pub there : place ≡ end + length white
  pub visible : FirstCharacterIs IsWhite (drop place text) → ⊥
  pub utf8 : IsUtf8 (drop place text)

-- some tokens lead to a place
abbrev pub IsReachable : List ℕ → ℕ → Type 0
IsReachable text place = (found : List Placed) × IsReached text found place

-- the token at a place that was reached, and the place after it; or no token stands there
abbrev pub ReadsNext : List ℕ → ℕ → Result Next ReadFault → Type 0
ReadsNext text place (Ok next) =
    (place < next.behind)
    × ((found : List Placed) → IsReached text found place → IsReached text (found ++ next.placed ∷ []) next.behind)
ReadsNext text place (Err (Syntax wrong)) = (found : List Placed) → IsReached text found place
    → IsWrongAt (chars text) wrong
ReadsNext text place (Err TooDeep) = ⊥
ReadsNext text place (Err OutOfMemory) = ⊤
