-- A text is read as tokens in one way.
use Rattle.std.proofs.Common.{◌≡◌, ℕ, ◌+◌, ◌<◌, ◌≤◌, ◌⊎◌, inl, inr, ◌&&◌, nat_eq, cond, map, codes, Bool, true, false}
use Rattle.std.proofs.Common.{List, [], ◌∷◌, ◌++◌, length, get_or, take, drop, refl, sym, ◌∙◌, ap, subst, arith}
use Rattle.std.specs.List.{All}
use Rattle.std.proofs.lemmas.List.{append-nil, take_at, drop_at}
use Rattle.std.proofs.lemmas.List.Elements.{All-head, All-tail}
use Rattle.arith_syntax.specs.declared.operator.BinaryOperator.{BinaryOperator}
use Rattle.arith_syntax.specs.declared.operator.BinaryOperator.TheVariants as binary
use Rattle.arith_syntax.specs.declared.operator.AssignmentOperator.{AssignmentOperator}
use Rattle.arith_syntax.specs.declared.operator.AssignmentOperator.TheVariants as assignment
use Rattle.arith_syntax.specs.declared.token.Token.{Token}
use Rattle.arith_syntax.specs.declared.token.Token.TheVariants.{Constant, Name, Operator, Assign, Complement, Not}
use Rattle.arith_syntax.specs.declared.token.Token.TheVariants.{Increment, Decrement, Question, Colon, Open, Close}
use Rattle.arith_syntax.specs.declared.token.Token.TheVariants.{Semicolon}
use Rattle.arith_syntax.specs.declared.token.Placed.{Placed}
use Rattle.arith_syntax.specs.Tokens.{FirstCharacterIs, IsWhite, IsDigit, IsOctalDigit, IsWordCharacter, in_base}
use Rattle.arith_syntax.specs.Tokens.{IsConstant}
use Rattle.arith_syntax.specs.Tokens.{operator_sign, assignment_sign, IsSign, IsLongestSign, IsToken, ReadsTokens}
use Rattle.arith_syntax.specs.Tokens.{IsWrongAt}
use Rattle.arith_syntax.specs.TokenLaws.{TextsHaveOneLexing, TokensAreNowhereWrong, TextsHaveOneWrongPlace}
use Rattle.arith_syntax.proofs.SignLemmas.{is_sign_character, sign_character_no_word, sign_character_bounds}
use Rattle.arith_syntax.proofs.TokenLemmas.{run_once, word_once, constant_begins, sign_begins, IsConstantToken}
use Rattle.arith_syntax.proofs.TokenLemmas.{IsNameToken, token_cases, constant_begins_word, name_begins_word}
use Rattle.arith_syntax.proofs.TokenLemmas.{no_letter}

-- whether two texts are the same
abbrev same_text : List ℕ → List ℕ → Bool
same_text [] [] = true
same_text [] (y ∷ ys) = false
same_text (x ∷ xs) [] = false
same_text (x ∷ xs) (y ∷ ys) = nat_eq x y && same_text xs ys

-- the operators with two operands
operators : List BinaryOperator
operators =
    binary.Multiply ∷ binary.Divide ∷ binary.Remainder ∷ binary.Add ∷ binary.Subtract ∷ binary.ShiftLeft
    ∷ binary.ShiftRight ∷ binary.Less ∷ binary.LessOrEqual
    ∷ binary.Greater ∷ binary.GreaterOrEqual ∷ binary.Equal ∷ binary.NotEqual ∷ binary.BitAnd ∷ binary.BitXor
    ∷ binary.BitOr ∷ binary.And ∷ binary.Or ∷ []

-- the operators that assign
assignments : List AssignmentOperator
assignments =
    assignment.Assign ∷ assignment.Add ∷ assignment.Subtract ∷ assignment.Multiply ∷ assignment.Divide
    ∷ assignment.Remainder ∷ assignment.ShiftLeft ∷ assignment.ShiftRight
    ∷ assignment.BitAnd ∷ assignment.BitXor ∷ assignment.BitOr ∷ []

-- the signs with their tokens
signs : List (List ℕ × Token)
signs =
    map (λ op. (operator_sign op, Operator op)) operators ++ (map (λ op. (assignment_sign op, Assign op)) assignments
    ++ ((codes "~", Complement) ∷ (codes "!", Not) ∷ (codes "++", Increment) ∷ (codes "--", Decrement)
    ∷ (codes "?", Question) ∷ (codes ":", Colon) ∷ (codes "(", Open)
    ∷ (codes ")", Close) ∷ (codes ";", Semicolon) ∷ []))

-- the first of some tokens that is spelled so
abbrev token_in : List (List ℕ × Token) → List ℕ → Token
token_in [] text = Semicolon
token_in (entry ∷ entries) text = cond (same_text entry.0 text) entry.1 (token_in entries text)

-- the token that a sign spells
token_of : List ℕ → Token
token_of text = token_in signs text

-- the sign of an operator spells it
token_of_operator : (op : BinaryOperator) → token_of (operator_sign op) ≡ Operator op
unfolding token_of signs operators assignments
token_of_operator op = elim op as (λ o. token_of (operator_sign o) ≡ Operator o) [ binary.Multiply ↦ refl | _ ↦ refl ]

-- the sign of an assignment spells it
token_of_assignment : (op : AssignmentOperator) → token_of (assignment_sign op) ≡ Assign op
unfolding token_of signs operators assignments
token_of_assignment op = elim op as (λ o. token_of (assignment_sign o) ≡ Assign o)
    [ assignment.Assign ↦ refl | _ ↦ refl ]

-- a sign spells its token
sign_spells : (token : Token) (sign : List ℕ) → IsSign token sign → token_of sign ≡ token
unfolding token_of signs operators assignments
sign_spells (Constant n) sign is = absurd is
sign_spells (Name x) sign is = absurd is
sign_spells (Operator op) sign is = ap token_of is ∙ token_of_operator op
sign_spells (Assign op) sign is = ap token_of is ∙ token_of_assignment op
sign_spells Complement sign is = ap token_of is
sign_spells Not sign is = ap token_of is
sign_spells Increment sign is = ap token_of is
sign_spells Decrement sign is = ap token_of is
sign_spells Question sign is = ap token_of is
sign_spells Colon sign is = ap token_of is
sign_spells Open sign is = ap token_of is
sign_spells Close sign is = ap token_of is
sign_spells Semicolon sign is = ap token_of is

-- the first character of the digits behind `0x` is none of an octal constant
no_octal_mark : (word octal digits : List ℕ) (mark : ℕ) → word ≡ 48 ∷ octal → All IsOctalDigit octal → word ≡ 48 ∷ mark
    ∷ digits → (mark ≡ 120) ⊎ (mark ≡ 88) → ⊥
no_octal_mark word octal digits mark spelled all other marked =
    let same : octal ≡ mark ∷ digits = sym (ap (λ (w : List ℕ). drop 1 w) spelled)
    ∙ ap (λ (w : List ℕ). drop 1 w) other in
    let digit : IsOctalDigit mark = All-head IsOctalDigit mark digits
    (subst (λ (w : List ℕ). All IsOctalDigit w) same all) in
    elim marked [ inl lower ↦ omega arith | inr upper ↦ omega arith ]

-- no decimal constant begins with `0`
no_decimal_zero : (word digits : List ℕ) → FirstCharacterIs (λ d. (49 ≤ d) × (d ≤ 57)) word → word ≡ 48 ∷ digits → ⊥
no_decimal_zero word digits first spelled =
    let begins : (49 ≤ 48) × (48 ≤ 57) = subst (λ (w : List ℕ). FirstCharacterIs (λ d. (49 ≤ d) × (d ≤ 57)) w) spelled
    first
    in
    omega arith

-- a word is one constant at most
constant_once : (word : List ℕ) (n m : ℕ) → IsConstant word n → IsConstant word m → n ≡ m
constant_once word n m one other = elim one.1 [
  | inl a ↦ elim other.1 [
    | inl b ↦ a.value ∙ sym b.value
    | inr (inl b) ↦ absurd (no_decimal_zero word b.digits a.first b.spelled)
    | inr (inr b) ↦ absurd (no_decimal_zero word (b.sign ∷ b.digits) a.first b.spelled)
  ]
  | inr (inl a) ↦ elim other.1 [
    | inl b ↦ absurd (no_decimal_zero word a.digits b.first a.spelled)
    | inr (inl b) ↦ a.value ∙ (ap (λ (w : List ℕ). in_base 8 (drop 1 w)) (sym a.spelled ∙ b.spelled) ∙ sym b.value)
    | inr (inr b) ↦ absurd (no_octal_mark word a.digits b.digits b.sign a.spelled a.octal b.spelled b.marked)
  ]
  | inr (inr a) ↦ elim other.1 [
    | inl b ↦ absurd (no_decimal_zero word (a.sign ∷ a.digits) b.first a.spelled)
    | inr (inl b) ↦ absurd (no_octal_mark word b.digits a.digits a.sign b.spelled b.octal a.spelled a.marked)
    | inr (inr b) ↦ a.value ∙ (ap (λ (w : List ℕ). in_base 16 (drop 2 w)) (sym a.spelled ∙ b.spelled) ∙ sym b.value)
  ]
]

-- two tokens in front of one text are the same, and are spelled the same
pub record IsOneToken (s t : Token) (a x b y : List ℕ) : Type 0 where
  pub token : s ≡ t
  pub spelled : a ≡ b
  pub rest : x ≡ y

-- no text begins with a word and with a sign
no_word_and_sign : (a x b y : List ℕ) (t : Token) → a ++ x ≡ b ++ y → FirstCharacterIs IsWordCharacter a → IsSign t b
    → ⊥
no_word_and_sign [] x b y t same begins is = begins
no_word_and_sign (c ∷ a) x [] y t same begins is = sign_begins t [] is
no_word_and_sign (c ∷ a) x (d ∷ b) y t same begins is =
    let heads : c ≡ d = ap (λ (w : List ℕ). get_or w 0 0) same in
    sign_character_no_word d (sign_begins t (d ∷ b) is) (subst (λ (k : ℕ). IsWordCharacter k) heads begins)

-- two longest signs in front of one text are one token
signs_once : (s t : Token) (a x b y : List ℕ) → a ++ x ≡ b ++ y → IsLongestSign s a x → IsLongestSign t b y
    → IsOneToken s t a x b y
signs_once s t a x b y same one other =
    let up : length b ≤ length a = one.longest t b y other.is_sign same in
    let down : length a ≤ length b = other.longest s a x one.is_sign (sym same) in
    let size : length a ≡ length b = omega arith in
    let spelled : a ≡ b = sym (take_at a x (length a) refl)
    ∙ (ap (λ (w : List ℕ). take (length a) w) same ∙ take_at b y (length a) (sym size)) in
    let rest : x ≡ y = sym (drop_at a x (length a) refl)
    ∙ (ap (λ (w : List ℕ). drop (length a) w) same ∙ drop_at b y (length a) (sym size)) in
    record {
      token = sym (sign_spells s a one.is_sign) ∙ (ap token_of spelled ∙ sign_spells t b other.is_sign);
      spelled = spelled;
      rest = rest;
    }

-- two constants in front of one text are one token
constants_once : (s t : Token) (a x b y : List ℕ) → a ++ x ≡ b ++ y → IsConstantToken s a x → IsConstantToken t b y
    → IsOneToken s t a x b y
constants_once s t a x b y same one other =
    let word : (a ≡ b) × (x ≡ y) = word_once a x b y same one.word other.word in
    let value : one.value ≡ other.value = constant_once b one.value other.value
    (subst (λ (w : List ℕ). IsConstant w one.value) word.0 one.constant) other.constant in
    record { token = one.is ∙ (ap Constant value ∙ sym other.is); spelled = word.0; rest = word.1 }

-- two names in front of one text are one token
names_once : (s t : Token) (a x b y : List ℕ) → a ++ x ≡ b ++ y → IsNameToken s a x → IsNameToken t b y
    → IsOneToken s t a x b y
names_once s t a x b y same one other =
    let word : (a ≡ b) × (x ≡ y) = word_once a x b y same one.word other.word in
    record { token = one.is ∙ (ap Name word.0 ∙ sym other.is); spelled = word.0; rest = word.1 }

-- no text begins with a constant and with a name
no_constant_and_name : (s t : Token) (a x b y : List ℕ) → a ++ x ≡ b ++ y → IsConstantToken s a x → IsNameToken t b y
    → ⊥
no_constant_and_name s t a x b y same one other =
    let word : (a ≡ b) × (x ≡ y) = word_once a x b y same one.word other.word in
    no_letter b (subst (λ (w : List ℕ). FirstCharacterIs IsDigit w) word.0 (constant_begins a one.value one.constant))
    other.letter

-- a text begins with one token at most
pub token_once : (s t : Token) (a x b y : List ℕ) → a ++ x ≡ b ++ y → IsToken s a x → IsToken t b y
    → IsOneToken s t a x b y
token_once s t a x b y same one other = elim (token_cases s a x one) [
  | inl p ↦ elim (token_cases t b y other) [
    | inl q ↦ constants_once s t a x b y same p q
    | inr (inl q) ↦ absurd (no_constant_and_name s t a x b y same p q)
    | inr (inr q) ↦ absurd (no_word_and_sign a x b y t same (constant_begins_word s a x p) q.is_sign)
  ]
  | inr (inl p) ↦ elim (token_cases t b y other) [
    | inl q ↦ absurd (no_constant_and_name t s b y a x (sym same) q p)
    | inr (inl q) ↦ names_once s t a x b y same p q
    | inr (inr q) ↦ absurd (no_word_and_sign a x b y t same (name_begins_word s a x p) q.is_sign)
  ]
  | inr (inr p) ↦ elim (token_cases t b y other) [
    | inl q ↦ absurd (no_word_and_sign b y a x s (sym same) (constant_begins_word t b y q) p.is_sign)
    | inr (inl q) ↦ absurd (no_word_and_sign b y a x s (sym same) (name_begins_word t b y q) p.is_sign)
    | inr (inr q) ↦ signs_once s t a x b y same p q
  ]
]

-- white space stands in no word
no_white_word : (c : ℕ) → IsWhite c → IsWordCharacter c → ⊥
no_white_word c (inl space) (inl digit) = omega arith
no_white_word c (inl space) (inr (inl upper)) = omega arith
no_white_word c (inl space) (inr (inr (inl lower))) = omega arith
no_white_word c (inl space) (inr (inr (inr line))) = omega arith
no_white_word c (inr control) (inl digit) = omega arith
no_white_word c (inr control) (inr (inl upper)) = omega arith
no_white_word c (inr control) (inr (inr (inl lower))) = omega arith
no_white_word c (inr control) (inr (inr (inr line))) = omega arith

-- white space stands in no sign
no_white_sign : (c : ℕ) → IsWhite c → is_sign_character c ≡ true → ⊥
no_white_sign c (inl space) is = let bounds : (32 < c) × (c < 128) = sign_character_bounds c is in omega arith
no_white_sign c (inr control) is = let bounds : (32 < c) × (c < 128) = sign_character_bounds c is in omega arith

-- a text doesn't begin with two kinds of characters that have none in common
not_both : (P Q : ℕ → Type 0) → ((c : ℕ) → P c → Q c → ⊥) → (front rest : List ℕ) → FirstCharacterIs Q front
    → FirstCharacterIs P (front ++ rest) → ⊥
not_both P Q never [] rest begins other = begins
not_both P Q never (c ∷ front) rest begins other = never c other begins

-- no token begins with white space
token_visible : (t : Token) (spelled rest : List ℕ) → IsToken t spelled rest
    → FirstCharacterIs IsWhite (spelled ++ rest) → ⊥
token_visible t spelled rest is = elim (token_cases t spelled rest is) [
  | inl constant ↦ not_both IsWhite IsWordCharacter no_white_word spelled rest
      (constant_begins_word t spelled rest constant)
  | inr (inl name) ↦ not_both IsWhite IsWordCharacter no_white_word spelled rest (name_begins_word t spelled rest name)
  | inr (inr longest) ↦ not_both IsWhite (λ c. is_sign_character c ≡ true) no_white_sign spelled rest
      (sign_begins t spelled longest.is_sign)
]

-- a text in which behind white space no token stands
pub record IsStuck (rest : List ℕ) : Type 0 where
  pub white : List ℕ
  pub wrong : List ℕ
  pub all : rest ≡ white ++ wrong
  pub blank : All IsWhite white
  pub visible : FirstCharacterIs IsWhite wrong → ⊥
  pub no_token : (token : Token) (spelled more : List ℕ) → wrong ≡ spelled ++ more → IsToken token spelled more → ⊥

-- a text that is stuck begins with no token
stuck_stops : (text rest white spelled more : List ℕ) (t : Token) → rest ≡ text → IsStuck rest → text ≡ white
    ++ (spelled ++ more) → All IsWhite white
    → IsToken t spelled more → ⊥
stuck_stops text rest white spelled more t same stuck all blank is =
    let cut : stuck.white ++ stuck.wrong ≡ white ++ (spelled ++ more) = sym stuck.all ∙ (same ∙ all) in
    let once : (stuck.white ≡ white) × (stuck.wrong ≡ spelled ++ more) =
    run_once IsWhite stuck.white stuck.wrong white (spelled ++ more) cut stuck.blank stuck.visible blank
    (token_visible t spelled more is) in
    stuck.no_token t spelled more once.1 is

-- placed tokens with the same parts are the same
same_placed : (t u : Placed) → t.token ≡ u.token → t.place ≡ u.place → t ≡ u
same_placed t u token place =
    let first : t ≡ record { token = u.token; place = t.place } =
    ap (λ (k : Token). let p : Placed = record { token = k; place = t.place } in p) token in
    let second : record { token = u.token; place = t.place } ≡ u =
    ap (λ (n : ℕ). let p : Placed = record { token = u.token; place = n } in p) place in
    first ∙ second

-- two readings that read the same tokens and leave the same rest at the same place
pub record IsOneReading (one other : List Placed) (end last : ℕ) (rest behind : List ℕ) : Type 0 where
  pub tokens : one ≡ other
  pub place : end ≡ last
  pub left : rest ≡ behind

-- two readings of one text that both go on to where it is stuck are one
pub reads_once : (place : ℕ) (text : List ℕ) (one other : List Placed) (end last : ℕ) (rest behind : List ℕ)
    → ReadsTokens place text one end rest → IsStuck rest → ReadsTokens place text other last behind → IsStuck behind
    → IsOneReading one other end last rest behind
reads_once place text [] [] end last rest behind a stuck b held =
    record { tokens = refl; place = a.0 ∙ sym b.0; left = a.1 ∙ sym b.1 }
reads_once place text [] (u ∷ other) end last rest behind a stuck b held =
    absurd (stuck_stops text rest b.0 b.1 b.2 u.token a.1 stuck b.3 b.4 b.5)
reads_once place text (t ∷ one) [] end last rest behind a stuck b held =
    absurd (stuck_stops text behind a.0 a.1 a.2 t.token b.1 held a.3 a.4 a.5)
reads_once place text (t ∷ one) (u ∷ other) end last rest behind a stuck b held =
    let white : (a.0 ≡ b.0) × (a.1 ++ a.2 ≡ b.1 ++ b.2) =
    run_once IsWhite a.0 (a.1 ++ a.2) b.0 (b.1 ++ b.2) (sym a.3 ∙ b.3) a.4 (token_visible t.token a.1 a.2 a.5) b.4
    (token_visible u.token b.1 b.2 b.5) in
    let token : IsOneToken t.token u.token a.1 a.2 b.1 b.2 =
    token_once t.token u.token a.1 a.2 b.1 b.2 white.1 a.5 b.5 in
    let gap : length a.0 ≡ length b.0 = ap length white.0 in
    let size : length a.1 ≡ length b.1 = ap length token.spelled in
    let at : t.place ≡ u.place = (let p : t.place ≡ place + length a.0 = a.6 in let q : u.place
    ≡ place + length b.0 = b.6 in omega arith) in
    let next : place + length b.0 + length b.1 ≡ place + length a.0 + length a.1 = omega arith in
    let moved : ReadsTokens (place + length a.0 + length a.1) b.2 other last behind =
    subst (λ (n : ℕ). ReadsTokens n b.2 other last behind) next b.7 in
    let read : ReadsTokens (place + length a.0 + length a.1) a.2 other last behind =
    subst (λ (w : List ℕ). ReadsTokens (place + length a.0 + length a.1) w other last behind) (sym token.rest) moved in
    let on : IsOneReading one other end last rest behind =
    reads_once (place + length a.0 + length a.1) a.2 one other end last rest behind a.7 stuck read held in
    let placed : t ≡ u = same_placed t u token.token at in
    let tails : one ≡ other = on.tokens in
    record { tokens = cc; place = on.place; left = on.left }

-- nothing begins with no token
nothing_stops : (token : Token) (spelled more : List ℕ) → [] ≡ spelled ++ more → IsToken token spelled more → ⊥
nothing_stops token [] more all is = elim (token_cases token [] more is) [
  | inl constant ↦ constant_begins_word token [] more constant
  | inr (inl name) ↦ name_begins_word token [] more name
  | inr (inr longest) ↦ sign_begins token [] longest.is_sign
]
nothing_stops token (c ∷ spelled) more all is = cc

-- white space is stuck
stuck_white : (rest : List ℕ) → All IsWhite rest → IsStuck rest
stuck_white rest blank = record {
  white = rest;
  wrong = [];
  all = sym (append-nil rest);
  blank = blank;
  visible = λ begins. begins;
  no_token = nothing_stops;
}

-- what is wrong is stuck
stuck_wrong : (text : List ℕ) (place : ℕ) → (wrong : IsWrongAt text place) → IsStuck (wrong.white ++ wrong.wrong)
stuck_wrong text place wrong = record {
  white = wrong.white;
  wrong = wrong.wrong;
  all = refl;
  blank = wrong.blank;
  visible = wrong.visible;
  no_token = wrong.no_token;
}

-- a text is only one list of tokens
pub one_lexing : TextsHaveOneLexing
one_lexing text one other a b =
    (reads_once 0 text one other a.end b.end a.rest b.rest a.reads (stuck_white a.rest a.white) b.reads
    (stuck_white b.rest b.white)).tokens

-- what stands behind white space in white space begins with it
white_behind : (white wrong : List ℕ) → All IsWhite (white ++ wrong) → 0 < length wrong → FirstCharacterIs IsWhite wrong
white_behind [] [] blank some = absurd (omega arith)
white_behind [] (c ∷ wrong) blank some = All-head IsWhite c wrong blank
white_behind (d ∷ white) wrong blank some = white_behind white wrong (All-tail IsWhite d (white ++ wrong) blank) some

-- a text that is tokens is wrong nowhere
pub nowhere_wrong : TokensAreNowhereWrong
nowhere_wrong text tokens place a b =
    let read : IsOneReading tokens b.tokens a.end b.end a.rest (b.white ++ b.wrong) =
    reads_once 0 text tokens b.tokens a.end b.end a.rest (b.white ++ b.wrong) a.reads (stuck_white a.rest a.white)
    b.reads (stuck_wrong text place b) in
    b.visible (white_behind b.white b.wrong (subst (λ (w : List ℕ). All IsWhite w) read.left a.white) b.some)

-- a text is wrong at one place at most
pub one_wrong_place : TextsHaveOneWrongPlace
one_wrong_place text one other a b =
    let read : IsOneReading a.tokens b.tokens a.end b.end (a.white ++ a.wrong) (b.white ++ b.wrong) =
    reads_once 0 text a.tokens b.tokens a.end b.end (a.white ++ a.wrong) (b.white ++ b.wrong) a.reads
    (stuck_wrong text one a) b.reads (stuck_wrong text other b) in
    let once : (a.white ≡ b.white) × (a.wrong ≡ b.wrong) =
    run_once IsWhite a.white a.wrong b.white b.wrong read.left a.blank a.visible b.blank b.visible in
    let size : length a.white ≡ length b.white = ap length once.0 in
    let last : a.end ≡ b.end = read.place in
    let here : one ≡ a.end + length a.white = a.there in
    let there : other ≡ b.end + length b.white = b.there in
    omega arith
