-- What is read of a text's octets is read of its code points.
use Rattle.std.proofs.Common.{◌≡◌, ℕ, ◌+◌, List, [], ◌∷◌, ◌++◌, length, refl, sym, ◌∙◌, ap, subst}
use Rattle.std.specs.List.{All}
use Rattle.std.specs.Str.{IsUtf8, chars}
use Rattle.std.proofs.lemmas.List.{append-nil}
use Rattle.std.proofs.lemmas.List.Elements.{All-nil, All-cons, All-weaker}
use Rattle.std.proofs.lemmas.Str.{chars-nil}
use Rattle.arith_syntax.specs.declared.token.Token.{Token}
use Rattle.arith_syntax.specs.declared.token.Placed.{Placed}
use Rattle.arith_syntax.specs.Tokens.{FirstCharacterIs, IsWhite, IsWordCharacter, IsWord, IsLongestSign, IsToken}
use Rattle.arith_syntax.specs.Tokens.{ReadsTokens}
use Rattle.arith_syntax.specs.Tokens.{IsTokens, IsWrongAt}
use Rattle.arith_syntax.proofs.AsciiLemmas.{IsAsciiCharacter, utf8_behind, chars_behind, chars_some, IsAsciiFront}
use Rattle.arith_syntax.proofs.AsciiLemmas.{octets_of}
use Rattle.arith_syntax.proofs.TokenLemmas.{sign_ascii, token_ascii, token_behind, word_character_ascii}
use Rattle.arith_syntax.proofs.TokensReadLemmas.{white_ascii}

-- the first code point is the first octet where it is ASCII
begins_octets : (P : ℕ → Type 0) → ((c : ℕ) → P c → IsAsciiCharacter c) → (octets cs : List ℕ) → IsUtf8 octets
    → chars octets ≡ cs → FirstCharacterIs P cs
    → FirstCharacterIs P octets
begins_octets P ascii octets [] utf8 same begins = absurd begins
begins_octets P ascii octets (c ∷ cs) utf8 same begins =
    let front : IsAsciiFront octets (c ∷ []) cs = octets_of (c ∷ []) octets cs
    (All-cons IsAsciiCharacter c [] (ascii c begins) (All-nil IsAsciiCharacter)) utf8 same in
    subst (λ (t : List ℕ). FirstCharacterIs P t) (sym front.all) begins

-- the first octet is the first code point where it is ASCII
begins_chars : (P : ℕ → Type 0) → ((c : ℕ) → P c → IsAsciiCharacter c) → (octets : List ℕ) → IsUtf8 octets
    → FirstCharacterIs P octets → FirstCharacterIs P (chars octets)
begins_chars P ascii [] utf8 begins = absurd begins
begins_chars P ascii (b ∷ bs) utf8 begins =
    subst (λ (t : List ℕ). FirstCharacterIs P t)
    (sym (chars_behind (b ∷ []) bs (All-cons IsAsciiCharacter b [] (ascii b begins) (All-nil IsAsciiCharacter)) utf8))
    begins

-- a word before octets is one before their code points
word_chars : (spelled more : List ℕ) → IsUtf8 more → IsWord spelled more → IsWord spelled (chars more)
word_chars spelled more utf8 word = record {
  characters = word.characters;
  longest = λ begins. word.longest (begins_octets IsWordCharacter word_character_ascii more (chars more) utf8 refl
      begins);
}

-- a word before code points is one before their octets
word_octets : (spelled more : List ℕ) → IsUtf8 more → IsWord spelled (chars more) → IsWord spelled more
word_octets spelled more utf8 word = record {
  characters = word.characters;
  longest = λ begins. word.longest (begins_chars IsWordCharacter word_character_ascii more utf8 begins);
}

-- the longest sign before octets is that before their code points
sign_chars : (token : Token) (sign more : List ℕ) → IsUtf8 (sign ++ more) → IsLongestSign token sign more
    → IsLongestSign token sign (chars more)
sign_chars token sign more utf8 is = record {
  is_sign = is.is_sign;
  longest = λ other text rest is_other same.
      (let front : IsAsciiFront (sign ++ more) text rest = octets_of text (sign ++ more) rest
      (sign_ascii other text is_other) utf8
      (chars_behind sign more (sign_ascii token sign is.is_sign) utf8 ∙ same) in
      is.longest other text front.rest is_other front.all);
}

-- the longest sign before code points is that before their octets
sign_octets : (token : Token) (sign more : List ℕ) → IsUtf8 (sign ++ more) → IsLongestSign token sign (chars more)
    → IsLongestSign token sign more
sign_octets token sign more utf8 is = record {
  is_sign = is.is_sign;
  longest = λ other text rest is_other same.
      is.longest other text (chars rest) is_other
      (sym (chars_behind sign more (sign_ascii token sign is.is_sign) utf8)
      ∙ (ap chars same ∙ chars_behind text rest (sign_ascii other text is_other)
      (subst (λ (t : List ℕ). IsUtf8 t) same utf8)));
}

-- a token before octets is one before their code points
pub token_chars : (token : Token) (spelled more : List ℕ) → IsUtf8 (spelled ++ more) → IsToken token spelled more
    → IsToken token spelled (chars more)
token_chars token spelled more utf8 is =
    let rest : IsUtf8 more = utf8_behind spelled more (token_ascii token spelled more is) utf8 in
    token_behind token spelled more (chars more) (word_chars spelled more rest) (sign_chars token spelled more utf8) is

-- a token before code points is one before their octets
pub token_octets : (token : Token) (spelled more : List ℕ) → IsUtf8 (spelled ++ more)
    → IsToken token spelled (chars more) → IsToken token spelled more
token_octets token spelled more utf8 is =
    let rest : IsUtf8 more = utf8_behind spelled more (token_ascii token spelled (chars more) is) utf8 in
    token_behind token spelled (chars more) more (word_octets spelled more rest) (sign_octets token spelled more utf8)
    is

-- the tokens that were read of octets, and UTF-8 behind them
pub record IsReadOfChars (place : ℕ) (text : List ℕ) (found : List Placed) (end : ℕ) (rest : List ℕ) : Type 0 where
  pub reads : ReadsTokens place (chars text) found end (chars rest)
  pub utf8 : IsUtf8 rest

-- what is read of octets is read of their code points
pub reads_chars : (place : ℕ) (text : List ℕ) (found : List Placed) (end : ℕ) (rest : List ℕ) → IsUtf8 text
    → ReadsTokens place text found end rest
    → IsReadOfChars place text found end rest
reads_chars place text [] end rest utf8 reads =
    record { reads = (reads.0, ap chars reads.1); utf8 = subst (λ (t : List ℕ). IsUtf8 t) (sym reads.1) utf8 }
reads_chars place text (t ∷ found) end rest utf8 reads =
    let white : List ℕ = reads.0 in
    let spelled : List ℕ = reads.1 in
    let more : List ℕ = reads.2 in
    let blank : All IsAsciiCharacter white = All-weaker IsWhite IsAsciiCharacter white_ascii white reads.4 in
    let ascii : All IsAsciiCharacter spelled = token_ascii t.token spelled more reads.5 in
    let all : IsUtf8 (white ++ (spelled ++ more)) = subst (λ (t : List ℕ). IsUtf8 t) reads.3 utf8 in
    let behind : IsUtf8 (spelled ++ more) = utf8_behind white (spelled ++ more) blank all in
    let last : IsUtf8 more = utf8_behind spelled more ascii behind in
    let on : IsReadOfChars (place + length white + length spelled) more found end rest =
    reads_chars (place + length white + length spelled) more found end rest last reads.7 in
    let same : chars text ≡ white ++ (spelled ++ chars more) =
    ap chars reads.3 ∙ (chars_behind white (spelled ++ more) blank all
    ∙ ap (λ (t : List ℕ). white ++ t) (chars_behind spelled more ascii behind)) in
    record {
      reads = (
        white,
        spelled,
        chars more,
        same,
        reads.4,
        token_chars t.token spelled more behind reads.5,
        reads.6,
        on.reads,
      );
      utf8 = on.utf8;
    }

-- octets that are tokens are so as code points
pub tokens_chars : (text : List ℕ) (found : List Placed) → IsUtf8 text → IsTokens text found
    → IsTokens (chars text) found
tokens_chars text found utf8 tokens =
    let on : IsReadOfChars 0 text found tokens.end tokens.rest =
    reads_chars 0 text found tokens.end tokens.rest utf8 tokens.reads in
    let blank : All IsAsciiCharacter tokens.rest = All-weaker IsWhite IsAsciiCharacter white_ascii tokens.rest
    tokens.white in
    let whole : IsUtf8 (tokens.rest ++ []) = subst (λ (t : List ℕ). IsUtf8 t) (sym (append-nil tokens.rest)) on.utf8 in
    let same : chars tokens.rest ≡ tokens.rest =
    ap chars (sym (append-nil tokens.rest)) ∙ (chars_behind tokens.rest [] blank whole
    ∙ (ap (λ (t : List ℕ). tokens.rest ++ t) chars-nil ∙ append-nil tokens.rest)) in
    record {
      end = tokens.end;
      rest = chars tokens.rest;
      reads = on.reads;
      white = subst (λ (t : List ℕ). All IsWhite t) (sym same) tokens.white;
    }

-- octets that are wrong at a place are so as code points
pub wrong_chars : (text : List ℕ) (place : ℕ) → IsUtf8 text → IsWrongAt text place → IsWrongAt (chars text) place
wrong_chars text place utf8 wrong =
    let on : IsReadOfChars 0 text wrong.tokens wrong.end (wrong.white ++ wrong.wrong) =
    reads_chars 0 text wrong.tokens wrong.end (wrong.white ++ wrong.wrong) utf8 wrong.reads in
    let blank : All IsAsciiCharacter wrong.white = All-weaker IsWhite IsAsciiCharacter white_ascii wrong.white
    wrong.blank in
    let behind : IsUtf8 wrong.wrong = utf8_behind wrong.white wrong.wrong blank on.utf8 in
    record {
      tokens = wrong.tokens;
      end = wrong.end;
      white = wrong.white;
      wrong = chars wrong.wrong;
      reads = subst (λ (t : List ℕ). ReadsTokens 0 (chars text) wrong.tokens wrong.end t)
          (chars_behind wrong.white wrong.wrong blank on.utf8) on.reads;
      blank = wrong.blank;
      there = wrong.there;
      some = chars_some wrong.wrong behind wrong.some;
      visible = λ begins. wrong.visible (begins_octets IsWhite white_ascii wrong.wrong (chars wrong.wrong) behind refl
          begins);
      no_token = λ token spelled rest all is.
          (let front : IsAsciiFront wrong.wrong spelled rest = octets_of spelled wrong.wrong rest
          (token_ascii token spelled rest is) behind all in
          wrong.no_token token spelled front.rest front.all
          (token_octets token spelled front.rest (subst (λ (t : List ℕ). IsUtf8 t) front.all behind)
          (subst (λ (t : List ℕ). IsToken token spelled t) (sym front.behind) is)));
    }
