-- From the runs, signs and constants that stand somewhere to the token there.
use Rattle.std.proofs.Common.{◌≡◌, ℕ, zero, suc, ◌<◌, ◌≤◌, inl, inr, true, false, List, [], ◌∷◌, ◌++◌, length, take}
use Rattle.std.proofs.Common.{drop, refl, sym, ◌∙◌, subst, arith, Option, Some, None, Ok}
use Rattle.std.specs.Str.{IsUtf8, IsCharBoundary}
use Rattle.std.proofs.lemmas.List.{take-append-drop}
use Rattle.std.proofs.lemmas.List.Elements.{All-head, All-weaker}
use Rattle.std.proofs.lemmas.Str.{IsCharBoundary-from_drop}
use Rattle.arith_syntax.specs.declared.spelled.Spelled.{Spelled}
use Rattle.arith_syntax.specs.declared.token.Token.{Token}
use Rattle.arith_syntax.specs.declared.token.Token.TheVariants.{Name}
use Rattle.arith_syntax.specs.Tokens.{FirstCharacterIs, IsDigit, IsLetter, IsWordCharacter, IsConstant, IsWord, IsSign}
use Rattle.arith_syntax.specs.Lexed.{IsRun, BeginsWithSign, BeginsWithToken}
use Rattle.arith_syntax.proofs.AsciiLemmas.{IsAsciiCharacter, utf8_behind}
use Rattle.arith_syntax.proofs.SignLemmas.{sign_may_be, sign_character_no_word}
use Rattle.arith_syntax.proofs.TokenLemmas.{no_letter, word_character_ascii, constant_begins_word, name_begins_word}
use Rattle.arith_syntax.proofs.TokenLemmas.{word_once, sign_begins, token_cases, sign_is_token}

-- what follows a word is UTF-8
pub utf8_behind_word : (text : List ℕ) (size : ℕ) → IsUtf8 text → IsRun IsWordCharacter text size
    → IsUtf8 (drop size text)
utf8_behind_word text size utf8 run =
    utf8_behind (take size text) (drop size text) (All-weaker IsWordCharacter IsAsciiCharacter word_character_ascii
    (take size text) run.inside)
    (subst (λ (t : List ℕ). IsUtf8 t) (sym (take-append-drop size text)) utf8)

-- a text may be cut behind a word
pub boundary_behind_word : (text : List ℕ) (size : ℕ) → IsUtf8 text → IsRun IsWordCharacter text size
    → IsCharBoundary text size
boundary_behind_word text size utf8 run = IsCharBoundary-from_drop text size run.fits
    (utf8_behind_word text size utf8 run)

-- the run of word characters is the word
pub run_is_word : (text : List ℕ) (size : ℕ) → IsRun IsWordCharacter text size
    → IsWord (take size text) (drop size text)
run_is_word text size run = record { characters = run.inside; longest = run.longest }

-- the beginning of a part in front is that of the whole
begins_whole : (P : ℕ → Type 0) (front rest : List ℕ) → FirstCharacterIs P front → FirstCharacterIs P (front ++ rest)
begins_whole P [] rest begins = absurd begins
begins_whole P (c ∷ front) rest begins = begins

-- a text that begins with a word begins with no sign
no_sign_at_word : (text : List ℕ) (token : Token) (sign rest : List ℕ) → FirstCharacterIs IsWordCharacter text → text
    ≡ sign
    ++ rest → IsSign token sign → ⊥
no_sign_at_word text token [] rest begins all is = let no : false ≡ true = sign_may_be token [] is in cc
no_sign_at_word text token (c ∷ sign) rest begins all is =
    sign_character_no_word c (sign_begins token (c ∷ sign) is)
    (subst (λ (t : List ℕ). FirstCharacterIs IsWordCharacter t) all begins)

-- a sign isn't empty
sign_not_empty : (token : Token) (sign : List ℕ) → IsSign token sign → 0 < length sign
sign_not_empty token [] is = let no : false ≡ true = sign_may_be token [] is in cc
sign_not_empty token (c ∷ sign) is = omega arith

-- as many characters as stand in a front are taken of a text
longest_takes : (size : ℕ) (text : List ℕ) → 0 < length (take size text) → 0 < size
longest_takes zero text some = some
longest_takes (suc n) text some = omega arith

-- a sign is the token where no word begins
pub sign_read : (text : List ℕ) (result : Option Spelled) → (FirstCharacterIs IsWordCharacter text → ⊥)
    → BeginsWithSign text result
    → BeginsWithToken text (Ok result)
sign_read text (Some s) no_word reads = (
  reads.0,
  longest_takes s.size text (sign_not_empty s.token (take s.size text) reads.1.is_sign),
  sign_is_token s.token (take s.size text) (drop s.size text) reads.1,
)
sign_read text None no_word reads = λ token spelled rest all is. elim (token_cases token spelled rest is) [
  | inl constant ↦ no_word (subst (λ (t : List ℕ). FirstCharacterIs IsWordCharacter t) (sym all)
      (begins_whole IsWordCharacter spelled rest (constant_begins_word token spelled rest constant)))
  | inr (inl name) ↦ no_word (subst (λ (t : List ℕ). FirstCharacterIs IsWordCharacter t) (sym all)
      (begins_whole IsWordCharacter spelled rest (name_begins_word token spelled rest name)))
  | inr (inr longest) ↦ reads token spelled rest all longest.is_sign
]

-- the first of a run begins the text
pub run_begins : (P : ℕ → Type 0) (text : List ℕ) (size : ℕ) → (size ≡ 0 → ⊥) → IsRun P text size
    → FirstCharacterIs P (take size text)
run_begins P [] size some run = absurd (some (let fits : size ≤ 0 = run.fits in omega arith))
run_begins P (c ∷ cs) zero some run = absurd (some refl)
run_begins P (c ∷ cs) (suc n) some run = All-head P c (take n cs) run.inside

-- what begins with a character of a word, but with no digit, begins with a letter
letter_begins : (word : List ℕ) → FirstCharacterIs IsWordCharacter word → (FirstCharacterIs IsDigit word → ⊥)
    → FirstCharacterIs IsLetter word
letter_begins [] begins no_digit = begins
letter_begins (c ∷ cs) (inl digit) no_digit = absurd (no_digit digit)
letter_begins (c ∷ cs) (inr letter) no_digit = letter

-- the whole begins as a text's first characters do
run_whole : (P : ℕ → Type 0) (text : List ℕ) (size : ℕ) → FirstCharacterIs P (take size text) → FirstCharacterIs P text
run_whole P text size begins =
    subst (λ (t : List ℕ). FirstCharacterIs P t) (take-append-drop size text)
    (begins_whole P (take size text) (drop size text) begins)

-- a word that begins with a digit and is no constant is no token
pub no_constant_read : (text : List ℕ) (size : ℕ) → (size ≡ 0 → ⊥) → IsRun IsWordCharacter text size
    → FirstCharacterIs IsDigit (take size text)
    → ((n : ℕ) → IsConstant (take size text) n → ⊥) → BeginsWithToken text (Ok None)
no_constant_read text size some run digit none token spelled rest all is =
    let cut : take size text ++ drop size text ≡ spelled ++ rest = take-append-drop size text ∙ all in
    let is_word : IsWord (take size text) (drop size text) = run_is_word text size run in
    elim (token_cases token spelled rest is) [
      | inl constant ↦ none constant.value (subst (λ (w : List ℕ). IsConstant w constant.value)
          (sym (word_once _ _ _ _ cut is_word constant.word).0) constant.constant)
      | inr (inl name) ↦ no_letter (take size text) digit
          (subst (λ (w : List ℕ). FirstCharacterIs IsLetter w) (sym (word_once _ _ _ _ cut is_word name.word).0)
          name.letter)
      | inr (inr longest) ↦ no_sign_at_word text token spelled rest
          (run_whole IsWordCharacter text size (run_begins IsWordCharacter text size some run)) all longest.is_sign
    ]

-- a word that begins with a letter is a name
pub name_read : (text : List ℕ) (size : ℕ) (name : List ℕ) → (size ≡ 0 → ⊥) → IsRun IsWordCharacter text size
    → (FirstCharacterIs IsDigit (take size text) → ⊥)
    → name ≡ take size text → BeginsWithToken text (Ok (Some (record { token = Name name; size = size })))
name_read text size name some run no_digit is = (
  run.fits,
  omega arith,
  (
    run_is_word text size run,
    letter_begins (take size text) (run_begins IsWordCharacter text size some run) no_digit,
    is,
  ),
)
