-- What all signs have in common, and which of them is the longest that stands somewhere.
use Rattle.std.proofs.Common.{◌≡◌, ℕ, ◌<◌, ◌≤◌, ◌⊎◌, inl, inr, ◌&&◌, ◌||◌, nat_lt, nat_eq, Bool, true, false, List, []}
use Rattle.std.proofs.Common.{◌∷◌, ◌++◌, length, get_or, take, drop, refl, sym, ◌∙◌, ap, subst, arith, None}
use Rattle.std.proofs.lemmas.Bool.Decides.{nat_tests}
use Rattle.std.proofs.lemmas.List.{take-append-drop}
use Rattle.arith_syntax.specs.declared.operator.BinaryOperator.{BinaryOperator}
use Rattle.arith_syntax.specs.declared.operator.BinaryOperator.TheVariants as binary
use Rattle.arith_syntax.specs.declared.operator.AssignmentOperator.{AssignmentOperator}
use Rattle.arith_syntax.specs.declared.operator.AssignmentOperator.TheVariants as assignment
use Rattle.arith_syntax.specs.declared.token.Token.{Token}
use Rattle.arith_syntax.specs.declared.token.Token.TheVariants.{Constant, Name, Operator, Assign, Complement, Not}
use Rattle.arith_syntax.specs.declared.token.Token.TheVariants.{Increment, Decrement, Question, Colon, Open, Close}
use Rattle.arith_syntax.specs.declared.token.Token.TheVariants.{Semicolon}
use Rattle.arith_syntax.specs.Tokens.{IsWordCharacter, operator_sign, assignment_sign, IsSign, IsLongestSign}
use Rattle.arith_syntax.specs.Lexed.{SpellsSign}

-- a character that may stand in a sign
abbrev pub is_sign_character : ℕ → Bool
is_sign_character c = (nat_lt 32 c && nat_lt c 48) || (nat_lt 57 c && nat_lt c 64) || nat_eq c 94 ||
    (nat_lt 123 c && nat_lt c 127)

-- one, two or three characters that may stand in a sign
abbrev pub may_be_sign : List ℕ → Bool
may_be_sign [] = false
may_be_sign (a ∷ []) = is_sign_character a
may_be_sign (a ∷ b ∷ []) = is_sign_character a && is_sign_character b
may_be_sign (a ∷ b ∷ c ∷ []) = is_sign_character a && is_sign_character b && is_sign_character c
may_be_sign (a ∷ b ∷ c ∷ d ∷ rest) = false

-- the sign of an operator with two operands may be one
operator_may_be : (op : BinaryOperator) → may_be_sign (operator_sign op) ≡ true
operator_may_be op = elim op as (λ o. may_be_sign (operator_sign o) ≡ true) [ binary.Multiply ↦ refl | _ ↦ refl ]

-- the sign of an operator that assigns may be one
assignment_may_be : (op : AssignmentOperator) → may_be_sign (assignment_sign op) ≡ true
assignment_may_be op = elim op as (λ o. may_be_sign (assignment_sign o) ≡ true) [ assignment.Assign ↦ refl | _ ↦ refl ]

-- a sign has one to three characters, which may stand in a sign
pub sign_may_be : (token : Token) (text : List ℕ) → IsSign token text → may_be_sign text ≡ true
sign_may_be (Constant n) text is = absurd is
sign_may_be (Name x) text is = absurd is
sign_may_be (Operator op) text is = ap may_be_sign is ∙ operator_may_be op
sign_may_be (Assign op) text is = ap may_be_sign is ∙ assignment_may_be op
sign_may_be Complement text is = ap may_be_sign is
sign_may_be Not text is = ap may_be_sign is
sign_may_be Increment text is = ap may_be_sign is
sign_may_be Decrement text is = ap may_be_sign is
sign_may_be Question text is = ap may_be_sign is
sign_may_be Colon text is = ap may_be_sign is
sign_may_be Open text is = ap may_be_sign is
sign_may_be Close text is = ap may_be_sign is
sign_may_be Semicolon text is = ap may_be_sign is

-- a character of a sign is ASCII and not 0
pub sign_character_bounds : (c : ℕ) → is_sign_character c ≡ true → (32 < c) × (c < 128)
sign_character_bounds c is = grind (arith, nat_tests)

-- a character of a sign stands in no word
pub sign_character_no_word : (c : ℕ) → is_sign_character c ≡ true → IsWordCharacter c → ⊥
sign_character_no_word c is word = grind (arith, nat_tests)

-- the first three characters of a text, 0 standing for those that are missing
pub record IsFront (text : List ℕ) (a b c : ℕ) : Type 0 where
  pub first : a ≡ get_or text 0 0
  pub second : b ≡ get_or text 1 0
  pub third : c ≡ get_or text 2 0

-- the sign that a text begins with is of its first one, two or three characters
pub sign_at_front : (text : List ℕ) (a b c : ℕ) → IsFront text a b c → (token : Token) (sign more : List ℕ) → text
    ≡ sign ++ more → IsSign token sign
    → (IsSign token (a ∷ []) × (length sign ≡ 1)) ⊎ (IsSign token (a ∷ b ∷ []) × (length sign ≡ 2))
    ⊎ (IsSign token (a ∷ b ∷ c ∷ []) × (length sign ≡ 3))
sign_at_front text a b c front token [] more all is = let no : false ≡ true = sign_may_be token [] is in cc
sign_at_front text a b c front token (x ∷ []) more all is =
    let first : x ≡ a = sym (front.first ∙ ap (λ (t : List ℕ). get_or t 0 0) all) in
    inl (subst (λ (k : ℕ). IsSign token (k ∷ [])) first is, refl)
sign_at_front text a b c front token (x ∷ y ∷ []) more all is =
    let first : x ≡ a = sym (front.first ∙ ap (λ (t : List ℕ). get_or t 0 0) all) in
    let second : y ≡ b = sym (front.second ∙ ap (λ (t : List ℕ). get_or t 1 0) all) in
    let same : x ∷ y ∷ [] ≡ a ∷ b ∷ [] = cc in
    inr (inl (subst (λ (s : List ℕ). IsSign token s) same is, refl))
sign_at_front text a b c front token (x ∷ y ∷ z ∷ []) more all is =
    let first : x ≡ a = sym (front.first ∙ ap (λ (t : List ℕ). get_or t 0 0) all) in
    let second : y ≡ b = sym (front.second ∙ ap (λ (t : List ℕ). get_or t 1 0) all) in
    let third : z ≡ c = sym (front.third ∙ ap (λ (t : List ℕ). get_or t 2 0) all) in
    let same : x ∷ y ∷ z ∷ [] ≡ a ∷ b ∷ c ∷ [] = cc in
    inr (inr (subst (λ (s : List ℕ). IsSign token s) same is, refl))
sign_at_front text a b c front token (x ∷ y ∷ z ∷ w ∷ rest) more all is =
    let no : false ≡ true = sign_may_be token (x ∷ y ∷ z ∷ w ∷ rest) is in cc

-- two characters in front of a text are there where the second isn't 0
front_of_two : (text : List ℕ) (a b : ℕ) → a ≡ get_or text 0 0 → b ≡ get_or text 1 0 → 32 < b
    → (a ∷ b ∷ [] ≡ take 2 text) × (2 ≤ length text)
front_of_two [] a b first second there = absurd (omega arith)
front_of_two (x ∷ []) a b first second there = absurd (omega arith)
front_of_two (x ∷ y ∷ ys) a b first second there = (cc, omega arith)

-- three characters in front of a text are there where the third isn't 0
front_of_three : (text : List ℕ) (a b c : ℕ) → a ≡ get_or text 0 0 → b ≡ get_or text 1 0 → c ≡ get_or text 2 0 → 32 < c
    → (a ∷ b ∷ c ∷ [] ≡ take 3 text) × (3 ≤ length text)
front_of_three [] a b c first second third there = absurd (omega arith)
front_of_three (x ∷ []) a b c first second third there = absurd (omega arith)
front_of_three (x ∷ y ∷ []) a b c first second third there = absurd (omega arith)
front_of_three (x ∷ y ∷ z ∷ zs) a b c first second third there = (cc, omega arith)

-- two tests of which both are true
pub both_true : (p q : Bool) → p && q ≡ true → (p ≡ true) × (q ≡ true)
both_true true q both = (refl, both)
both_true false q both = let no : false ≡ true = both in cc

-- a sign of three characters is the longest
pub three_is_longest : (text : List ℕ) (a b c : ℕ) → IsFront text a b c → (token : Token)
    → IsSign token (a ∷ b ∷ c ∷ [])
    → (3 ≤ length text) × IsLongestSign token (take 3 text) (drop 3 text)
three_is_longest text a b c front token is =
    let may : (is_sign_character a && is_sign_character b ≡ true) × (is_sign_character c ≡ true) =
    both_true (is_sign_character a && is_sign_character b) (is_sign_character c) (sign_may_be token (a ∷ b ∷ c ∷ []) is)
    in
    let there : (32 < c) × (c < 128) = sign_character_bounds c may.1 in
    let all : (a ∷ b ∷ c ∷ [] ≡ take 3 text) × (3 ≤ length text) =
    front_of_three text a b c front.first front.second front.third there.0 in
    let size : length (take 3 text) ≡ 3 = ap length (sym all.0) in (
      all.1,
      record {
        is_sign = subst (λ (s : List ℕ). IsSign token s) all.0 is;
        longest = λ other sign more is_other same. elim
            (sign_at_front text a b c front other sign more (sym (take-append-drop 3 text) ∙ same) is_other) [
              | inl found ↦ omega (arith, found.1)
              | inr (inl found) ↦ omega (arith, found.1)
              | inr (inr found) ↦ omega (arith, found.1)
            ];
      },
    )

-- a sign of two characters is the longest where the first three are none
pub two_is_longest : (text : List ℕ) (a b c : ℕ) → IsFront text a b c → SpellsSign (a ∷ b ∷ c ∷ []) None
    → (token : Token)
    → IsSign token (a ∷ b ∷ [])
    → (2 ≤ length text) × IsLongestSign token (take 2 text) (drop 2 text)
two_is_longest text a b c front no_three token is =
    let may : (is_sign_character a ≡ true) × (is_sign_character b ≡ true) =
    both_true (is_sign_character a) (is_sign_character b) (sign_may_be token (a ∷ b ∷ []) is) in
    let there : (32 < b) × (b < 128) = sign_character_bounds b may.1 in
    let all : (a ∷ b ∷ [] ≡ take 2 text) × (2 ≤ length text) = front_of_two text a b front.first front.second there.0 in
    let size : length (take 2 text) ≡ 2 = ap length (sym all.0) in (
      all.1,
      record {
        is_sign = subst (λ (s : List ℕ). IsSign token s) all.0 is;
        longest = λ other sign more is_other same. elim
            (sign_at_front text a b c front other sign more (sym (take-append-drop 2 text) ∙ same) is_other) [
              | inl found ↦ omega (arith, found.1)
              | inr (inl found) ↦ omega (arith, found.1)
              | inr (inr found) ↦ absurd (no_three other found.0)
            ];
      },
    )
