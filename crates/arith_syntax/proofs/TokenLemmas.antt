-- How a token begins, and that a text begins with one token at most.
use Rattle.std.proofs.Common.{◌≡◌, ℕ, ◌≤◌, ◌⊎◌, inl, inr, ◌&&◌, true, false, List, [], ◌∷◌, ◌++◌, get_or, drop, refl}
use Rattle.std.proofs.Common.{sym, ap, subst, arith}
use Rattle.std.specs.List.{All}
use Rattle.std.proofs.lemmas.List.Elements.{All-nil, All-cons, All-head, All-tail, All-weaker}
use Rattle.arith_syntax.specs.declared.token.Token.{Token}
use Rattle.arith_syntax.specs.declared.token.Token.TheVariants.{Constant, Name, Operator, Assign, Complement, Not}
use Rattle.arith_syntax.specs.declared.token.Token.TheVariants.{Increment, Decrement, Question, Colon, Open, Close}
use Rattle.arith_syntax.specs.declared.token.Token.TheVariants.{Semicolon}
use Rattle.arith_syntax.specs.Tokens.{FirstCharacterIs, IsDigit, IsLetter, IsWordCharacter, IsConstant, IsWord, IsSign}
use Rattle.arith_syntax.specs.Tokens.{IsLongestSign, IsToken}
use Rattle.arith_syntax.proofs.SignLemmas.{is_sign_character, may_be_sign, sign_may_be, sign_character_bounds}
use Rattle.arith_syntax.proofs.SignLemmas.{both_true}
use Rattle.arith_syntax.proofs.AsciiLemmas.{IsAsciiCharacter}

-- two runs of one kind that stand in front of one text are one run
pub run_once : (P : ℕ → Type 0) (a x b y : List ℕ) → a ++ x ≡ b ++ y → All P a → (FirstCharacterIs P x → ⊥) → All P b
    → (FirstCharacterIs P y → ⊥) → (a ≡ b) × (x ≡ y)
run_once P [] x [] y same one ends other stops = (refl, same)
run_once P [] x (d ∷ b) y same one ends other stops =
    absurd (ends (subst (λ (t : List ℕ). FirstCharacterIs P t) (sym same) (All-head P d b other)))
run_once P (c ∷ a) x [] y same one ends other stops =
    absurd (stops (subst (λ (t : List ℕ). FirstCharacterIs P t) same (All-head P c a one)))
run_once P (c ∷ a) x (d ∷ b) y same one ends other stops =
    let heads : c ≡ d = ap (λ (t : List ℕ). get_or t 0 0) same in
    let rest : (a ≡ b) × (x ≡ y) = run_once P a x b y (ap (λ (t : List ℕ). drop 1 t) same) (All-tail P c a one) ends
    (All-tail P d b other) stops in
    let all : c ∷ a ≡ d ∷ b = (let tails : a ≡ b = rest.0 in cc) in
    (all, rest.1)

-- two words that stand in front of one text are one word
pub word_once : (a x b y : List ℕ) → a ++ x ≡ b ++ y → IsWord a x → IsWord b y → (a ≡ b) × (x ≡ y)
word_once a x b y same one other = run_once IsWordCharacter a x b y same one.characters one.longest other.characters
    other.longest

-- what a text that begins so begins with
begins_at : (P Q : ℕ → Type 0) → ((c : ℕ) → P c → Q c) → (text : List ℕ) → FirstCharacterIs P text
    → FirstCharacterIs Q text
begins_at P Q so [] begins = absurd begins
begins_at P Q so (c ∷ cs) begins = so c begins

-- a constant begins with a digit
pub constant_begins : (word : List ℕ) (n : ℕ) → IsConstant word n → FirstCharacterIs IsDigit word
constant_begins word n constant = elim constant.1 [
  | inl decimal ↦ begins_at (λ d. (49 ≤ d) × (d ≤ 57)) IsDigit (λ d digit. (omega arith, digit.1)) word decimal.first
  | inr (inl octal) ↦ subst (λ (t : List ℕ). FirstCharacterIs IsDigit t) (sym octal.spelled) (omega arith, omega arith)
  | inr (inr hexadecimal) ↦ subst (λ (t : List ℕ). FirstCharacterIs IsDigit t) (sym hexadecimal.spelled)
      (omega arith, omega arith)
]

-- a digit is no letter
pub no_letter : (word : List ℕ) → FirstCharacterIs IsDigit word → FirstCharacterIs IsLetter word → ⊥
no_letter [] digit letter = digit
no_letter (c ∷ cs) digit (inl upper) = omega arith
no_letter (c ∷ cs) digit (inr (inl lower)) = omega arith
no_letter (c ∷ cs) digit (inr (inr line)) = omega arith

-- what may be a sign begins with a character of a sign
begins_sign : (text : List ℕ) → may_be_sign text ≡ true → FirstCharacterIs (λ c. is_sign_character c ≡ true) text
begins_sign [] may = let no : false ≡ true = may in cc
begins_sign (a ∷ []) may = may
begins_sign (a ∷ b ∷ []) may = (both_true (is_sign_character a) (is_sign_character b) may).0
begins_sign (a ∷ b ∷ c ∷ []) may =
    let front : (is_sign_character a && is_sign_character b ≡ true) × (is_sign_character c ≡ true) =
    both_true (is_sign_character a && is_sign_character b) (is_sign_character c) may in
    (both_true (is_sign_character a) (is_sign_character b) front.0).0
begins_sign (a ∷ b ∷ c ∷ d ∷ rest) may = let no : false ≡ true = may in cc

-- a sign begins with a character of a sign
pub sign_begins : (token : Token) (sign : List ℕ) → IsSign token sign
    → FirstCharacterIs (λ c. is_sign_character c ≡ true) sign
sign_begins token sign is = begins_sign sign (sign_may_be token sign is)

-- a token that is a constant
pub record IsConstantToken (token : Token) (spelled rest : List ℕ) : Type 0 where
  pub value : ℕ
  pub is : token ≡ Constant value
  pub word : IsWord spelled rest
  pub constant : IsConstant spelled value

-- a token that is a name
pub record IsNameToken (token : Token) (spelled rest : List ℕ) : Type 0 where
  pub is : token ≡ Name spelled
  pub word : IsWord spelled rest
  pub letter : FirstCharacterIs IsLetter spelled

-- a token is a constant, a name or the longest sign
pub token_cases : (token : Token) (spelled rest : List ℕ) → IsToken token spelled rest
    → IsConstantToken token spelled rest ⊎ IsNameToken token spelled rest ⊎ IsLongestSign token spelled rest
token_cases (Constant n) spelled rest is = inl (record { value = n; is = refl; word = is.0; constant = is.1 })
token_cases (Name x) spelled rest is = inr (inl (record { is = ap Name is.2; word = is.0; letter = is.1 }))
token_cases (Operator op) spelled rest is = inr (inr is)
token_cases (Assign op) spelled rest is = inr (inr is)
token_cases Complement spelled rest is = inr (inr is)
token_cases Not spelled rest is = inr (inr is)
token_cases Increment spelled rest is = inr (inr is)
token_cases Decrement spelled rest is = inr (inr is)
token_cases Question spelled rest is = inr (inr is)
token_cases Colon spelled rest is = inr (inr is)
token_cases Open spelled rest is = inr (inr is)
token_cases Close spelled rest is = inr (inr is)
token_cases Semicolon spelled rest is = inr (inr is)

-- a constant's word begins with a character of a word
pub constant_begins_word : (token : Token) (spelled rest : List ℕ) → IsConstantToken token spelled rest
    → FirstCharacterIs IsWordCharacter spelled
constant_begins_word token spelled rest is = begins_at IsDigit IsWordCharacter (λ c digit. inl digit) spelled
    (constant_begins spelled is.value is.constant)

-- a name begins with a character of a word
pub name_begins_word : (token : Token) (spelled rest : List ℕ) → IsNameToken token spelled rest
    → FirstCharacterIs IsWordCharacter spelled
name_begins_word token spelled rest is = begins_at IsLetter IsWordCharacter (λ c letter. inr letter) spelled is.letter

-- the longest sign is a token
pub sign_is_token : (token : Token) (sign rest : List ℕ) → IsLongestSign token sign rest → IsToken token sign rest
sign_is_token (Constant n) sign rest longest = absurd longest.is_sign
sign_is_token (Name x) sign rest longest = absurd longest.is_sign
sign_is_token (Operator op) sign rest longest = longest
sign_is_token (Assign op) sign rest longest = longest
sign_is_token Complement sign rest longest = longest
sign_is_token Not sign rest longest = longest
sign_is_token Increment sign rest longest = longest
sign_is_token Decrement sign rest longest = longest
sign_is_token Question sign rest longest = longest
sign_is_token Colon sign rest longest = longest
sign_is_token Open sign rest longest = longest
sign_is_token Close sign rest longest = longest
sign_is_token Semicolon sign rest longest = longest

-- a character of a word is ASCII
pub word_character_ascii : (c : ℕ) → IsWordCharacter c → IsAsciiCharacter c
word_character_ascii c (inl digit) = omega arith
word_character_ascii c (inr (inl upper)) = omega arith
word_character_ascii c (inr (inr (inl lower))) = omega arith
word_character_ascii c (inr (inr (inr line))) = omega arith

-- a character of a sign is ASCII
sign_character_ascii : (c : ℕ) → is_sign_character c ≡ true → IsAsciiCharacter c
sign_character_ascii c is = (sign_character_bounds c is).1

-- what may be a sign is ASCII
ascii_sign : (text : List ℕ) → may_be_sign text ≡ true → All IsAsciiCharacter text
ascii_sign [] may = All-nil IsAsciiCharacter
ascii_sign (a ∷ []) may = All-cons IsAsciiCharacter a [] (sign_character_ascii a may) (All-nil IsAsciiCharacter)
ascii_sign (a ∷ b ∷ []) may =
    let front : (is_sign_character a ≡ true) × (is_sign_character b ≡ true) =
    both_true (is_sign_character a) (is_sign_character b) may in
    All-cons IsAsciiCharacter a (b ∷ []) (sign_character_ascii a front.0) (ascii_sign (b ∷ []) front.1)
ascii_sign (a ∷ b ∷ c ∷ []) may =
    let last : (is_sign_character a && is_sign_character b ≡ true) × (is_sign_character c ≡ true) =
    both_true (is_sign_character a && is_sign_character b) (is_sign_character c) may in
    let front : (is_sign_character a ≡ true) × (is_sign_character b ≡ true) =
    both_true (is_sign_character a) (is_sign_character b) last.0 in
    All-cons IsAsciiCharacter a (b ∷ c ∷ []) (sign_character_ascii a front.0)
    (All-cons IsAsciiCharacter b (c ∷ []) (sign_character_ascii b front.1)
    (All-cons IsAsciiCharacter c [] (sign_character_ascii c last.1) (All-nil IsAsciiCharacter)))
ascii_sign (a ∷ b ∷ c ∷ d ∷ rest) may = let no : false ≡ true = may in cc

-- a sign is ASCII
pub sign_ascii : (token : Token) (sign : List ℕ) → IsSign token sign → All IsAsciiCharacter sign
sign_ascii token sign is = ascii_sign sign (sign_may_be token sign is)

-- what spells a token is ASCII
pub token_ascii : (token : Token) (spelled rest : List ℕ) → IsToken token spelled rest → All IsAsciiCharacter spelled
token_ascii token spelled rest is = elim (token_cases token spelled rest is) [
  | inl constant ↦ All-weaker IsWordCharacter IsAsciiCharacter word_character_ascii spelled constant.word.characters
  | inr (inl name) ↦ All-weaker IsWordCharacter IsAsciiCharacter word_character_ascii spelled name.word.characters
  | inr (inr longest) ↦ sign_ascii token spelled longest.is_sign
]

-- a token stays one before another text where its word or its sign does
pub token_behind : (token : Token) (spelled rest other : List ℕ) → (IsWord spelled rest → IsWord spelled other)
    → (IsLongestSign token spelled rest → IsLongestSign token spelled other) → IsToken token spelled rest
    → IsToken token spelled other
token_behind (Constant n) spelled rest other word sign is = (word is.0, is.1)
token_behind (Name x) spelled rest other word sign is = (word is.0, is.1, is.2)
token_behind (Operator op) spelled rest other word sign is = sign is
token_behind (Assign op) spelled rest other word sign is = sign is
token_behind Complement spelled rest other word sign is = sign is
token_behind Not spelled rest other word sign is = sign is
token_behind Increment spelled rest other word sign is = sign is
token_behind Decrement spelled rest other word sign is = sign is
token_behind Question spelled rest other word sign is = sign is
token_behind Colon spelled rest other word sign is = sign is
token_behind Open spelled rest other word sign is = sign is
token_behind Close spelled rest other word sign is = sign is
token_behind Semicolon spelled rest other word sign is = sign is
