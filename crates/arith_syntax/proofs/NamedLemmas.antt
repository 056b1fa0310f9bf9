-- A name is the word at its place.
use Rattle.std.proofs.Common.{◌≡◌, ℕ, ◌+◌, true, false, List, [], ◌∷◌, ◌++◌, length, take, drop, refl, sym, ap, ◌∙◌}
use Rattle.std.proofs.Common.{subst, arith, append_assoc}
use Rattle.std.proofs.Common.{length-append}
use Rattle.std.specs.Str.{IsUtf8, chars}
use Rattle.std.specs.List.{All, take_while}
use Rattle.std.proofs.lemmas.Bool.Decides.{nat_tests}
use Rattle.std.proofs.lemmas.List.{take-append-drop}
use Rattle.std.proofs.lemmas.List.Elements.{All-cons, All-head, All-nil, All-tail}
use Rattle.std.proofs.lemmas.List.Sums.{take_while-cons}
use Rattle.std.proofs.lemmas.Str.{IsUtf8-from_ascii}
use Rattle.arith_syntax.specs.declared.token.Token.TheVariants.{Name}
use Rattle.arith_syntax.specs.declared.token.Placed.{Placed}
use Rattle.arith_syntax.specs.Lexed.{IsReached, IsRun}
use Rattle.arith_syntax.specs.Parts.{IsNamed, is_word_character}
use Rattle.arith_syntax.specs.Tokens.{FirstCharacterIs, IsToken, IsTokens, IsWordCharacter, ReadsTokens}
use Rattle.arith_syntax.proofs.OctetLemmas.{octets, of_kind, word}

-- what stands behind a front
pub drop_past : {X : Type 0} (front rest : List X) → drop (length front) (front ++ rest) ≡ rest
drop_past [] rest = refl
drop_past (x ∷ front) rest = drop_past front rest

-- a character of a word
is_word : (c : ℕ) → IsWordCharacter c → is_word_character c ≡ true
is_word c h = grind (arith, nat_tests)

-- and any other
is_no_word : (c : ℕ) → (IsWordCharacter c → ⊥) → is_word_character c ≡ false
is_no_word c h = grind (arith, nat_tests)

-- nothing is taken of what begins with no character of a word
none_taken : (rest : List ℕ) → (FirstCharacterIs IsWordCharacter rest → ⊥) → take_while is_word_character rest ≡ []
none_taken [] h = refl
none_taken (c ∷ rest) h =
    take_while-cons is_word_character c rest ∙ rw (is_no_word c h) refl

-- the run that a text begins with is its longest word
pub word_taken : (front rest : List ℕ) → All IsWordCharacter front → (FirstCharacterIs IsWordCharacter rest → ⊥)
    → take_while is_word_character (front ++ rest) ≡ front
word_taken [] rest all longest = none_taken rest longest
word_taken (c ∷ front) rest all longest =
    take_while-cons is_word_character c (front ++ rest)
    ∙ rw (
      is_word c (All-head IsWordCharacter c front all),
      word_taken front rest (All-tail IsWordCharacter c front all)
          longest,
    ) refl

-- the run at the beginning of a text
pub run_taken : (text : List ℕ) (size : ℕ) → IsRun IsWordCharacter text size → take size text
    ≡ take_while is_word_character text
run_taken text size run =
    sym (ap (take_while is_word_character) (sym (take-append-drop size text))
    ∙ word_taken (take size text) (drop size text) run.inside run.longest)

-- a word is UTF-8
pub word_utf8 : (text : List ℕ) (size : ℕ) → IsRun IsWordCharacter text size → IsUtf8 (take size text)
word_utf8 text size run = IsUtf8-from_ascii (take size text) (of_kind IsWordCharacter word (take size text) run.inside)

-- a name that stands behind some of a text
named_here : (front white spelled more : List ℕ) (t : Placed) → IsToken t.token spelled more → t.place
    ≡ length front + length white → IsNamed (front ++ (white ++ (spelled ++ more))) t
named_here front white spelled more t is there x named =
    let token : IsToken (Name x) spelled more = subst (λ k. IsToken k spelled more) named is in
    let behind : drop t.place (front ++ (white ++ (spelled ++ more))) ≡ spelled ++ more =
    rw (there, ← length-append front white, ← append_assoc front white (spelled ++ more))
    (drop_past (front ++ white) (spelled ++ more)) in
    token.2 ∙ sym (ap (take_while is_word_character) behind
    ∙ word_taken spelled more token.0.characters token.0.longest)

-- the names of tokens that stand behind some of a text
named_behind : (front text : List ℕ) (found : List Placed) (end : ℕ) (rest : List ℕ)
    → ReadsTokens (length front) text found end rest → All (IsNamed (front ++ text)) found
named_behind front text [] end rest reads = All-nil (IsNamed (front ++ text))
named_behind front text (t ∷ found) end rest reads =
    let white : List ℕ = reads.0 in
    let spelled : List ℕ = reads.1 in
    let more : List ℕ = reads.2 in
    let here : IsNamed (front ++ (white ++ (spelled ++ more))) t =
    named_here front white spelled more t reads.5 reads.6 in
    let place : length front + length white + length spelled ≡ length (front ++ (white ++ spelled)) =
    omega (arith, length-append front (white ++ spelled), length-append white spelled) in
    let on : All (IsNamed ((front ++ (white ++ spelled)) ++ more)) found =
    named_behind (front ++ (white ++ spelled)) more found end rest
    (subst (λ n. ReadsTokens n more found end rest) place reads.7) in
    let same : (front ++ (white ++ spelled)) ++ more ≡ front ++ (white ++ (spelled ++ more)) =
    append_assoc front (white ++ spelled) more ∙ ap (λ (t : List ℕ). front ++ t) (append_assoc white spelled more) in
    subst (λ (whole : List ℕ). All (IsNamed (front ++ whole)) (t ∷ found)) (sym reads.3)
    (All-cons (IsNamed (front ++ (white ++ (spelled ++ more)))) t found here
    (subst (λ (whole : List ℕ). All (IsNamed whole) found) same on))

-- the names of tokens that were reached
pub named_reached : (text : List ℕ) (found : List Placed) (place : ℕ) → IsReached text found place
    → All (IsNamed text) found
named_reached text found place reached = named_behind [] text found reached.end (reached.white ++ drop place text)
    reached.reads

-- the names of a text's tokens
pub named_tokens : (text : List ℕ) (found : List Placed) → IsUtf8 text → IsTokens (chars text) found
    → All (IsNamed text) found
named_tokens text found utf8 is =
    subst (λ (t : List ℕ). All (IsNamed t) found) (octets text found utf8 is)
    (named_behind [] (chars text) found is.end is.rest is.reads)
