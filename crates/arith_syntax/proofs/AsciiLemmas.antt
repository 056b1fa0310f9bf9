-- A text in UTF-8 that begins with ASCII characters: each of them is one octet.
use Rattle.std.proofs.Common.{◌≡◌, ℕ, ◌<◌, List, [], ◌∷◌, ◌++◌, length, get_or, drop, refl, sym, ◌∙◌, ap, subst, arith}
use Rattle.std.specs.List.{All}
use Rattle.std.specs.Str.{IsUtf8, chars}
use lib.Utf8.{encodes, encode}
use Rattle.std.proofs.lemmas.List.Elements.{All-head, All-tail}
use Rattle.std.proofs.lemmas.Str.{encode_ascii, IsUtf8-past_char, chars_past_char, chars-nil}

-- an ASCII character
abbrev pub IsAsciiCharacter : ℕ → Type 0
IsAsciiCharacter c = c < 128

-- an ASCII character in front is its own spelling
ascii_front : (c : ℕ) (rest : List ℕ) → c < 128 → c ∷ rest ≡ encode c ++ rest
ascii_front c rest ascii = ap (λ (e : List ℕ). e ++ rest) (sym (encode_ascii c ascii))

-- what follows ASCII characters is UTF-8
pub utf8_behind : (front rest : List ℕ) → All IsAsciiCharacter front → IsUtf8 (front ++ rest) → IsUtf8 rest
utf8_behind [] rest ascii utf8 = utf8
utf8_behind (c ∷ front) rest ascii utf8 =
    utf8_behind front rest (All-tail IsAsciiCharacter c front ascii)
    (IsUtf8-past_char (c ∷ (front ++ rest)) (front ++ rest) c utf8
    (ascii_front c (front ++ rest) (All-head IsAsciiCharacter c front ascii)))

-- ASCII characters in front are the first code points
pub chars_behind : (front rest : List ℕ) → All IsAsciiCharacter front → IsUtf8 (front ++ rest) → chars (front ++ rest)
    ≡ front ++ chars rest
chars_behind [] rest ascii utf8 = refl
chars_behind (c ∷ front) rest ascii utf8 =
    let first : c ∷ (front ++ rest) ≡ encode c ++ (front ++ rest) =
    ascii_front c (front ++ rest) (All-head IsAsciiCharacter c front ascii) in
    chars_past_char (c ∷ (front ++ rest)) (front ++ rest) c utf8 first
    ∙ ap (λ (t : List ℕ). c ∷ t) (chars_behind front rest (All-tail IsAsciiCharacter c front ascii)
    (IsUtf8-past_char (c ∷ (front ++ rest)) (front ++ rest) c utf8 first))

-- a text that isn't empty begins with a character
first_character : (b : ℕ) (bs : List ℕ) → IsUtf8 (b ∷ bs) → (c : ℕ) × (rest : List ℕ) × (b ∷ bs ≡ encode c ++ rest)
first_character b bs ([], (ok, spelled)) = let no : [] ≡ b ∷ bs = spelled in cc
first_character b bs (c ∷ cs, (ok, spelled)) = (c, encodes cs, sym spelled)

-- the octets that ASCII code points in front come from
pub record IsAsciiFront (octets front more : List ℕ) : Type 0 where
  pub rest : List ℕ
  pub all : octets ≡ front ++ rest
  pub behind : chars rest ≡ more
  pub utf8 : IsUtf8 rest

-- ASCII code points in front are the first octets
pub octets_of : (front octets more : List ℕ) → All IsAsciiCharacter front → IsUtf8 octets → chars octets ≡ front ++ more
    → IsAsciiFront octets front more
octets_of [] octets more ascii utf8 same = record { rest = octets; all = refl; behind = same; utf8 = utf8 }
octets_of (c ∷ front) [] more ascii utf8 same = let no : [] ≡ c ∷ (front ++ more) = sym chars-nil ∙ same in cc
octets_of (c ∷ front) (b ∷ bs) more ascii utf8 same =
    let first = first_character b bs utf8 in
    let d : ℕ = first.0 in
    let rest : List ℕ = first.1 in
    let spelled : b ∷ bs ≡ encode d ++ rest = first.2 in
    let chars_are : d ∷ chars rest ≡ c ∷ (front ++ more) = sym (chars_past_char (b ∷ bs) rest d utf8 spelled) ∙ same in
    let heads : d ≡ c = ap (λ (t : List ℕ). get_or t 0 0) chars_are in
    let small : c < 128 = All-head IsAsciiCharacter c front ascii in
    let plain : b ∷ bs ≡ d ∷ rest = spelled ∙ sym (ascii_front d rest (omega arith)) in
    let tails : bs ≡ rest = ap (λ (t : List ℕ). drop 1 t) plain in
    let first_is : b ≡ c = ap (λ (t : List ℕ). get_or t 0 0) plain ∙ heads in
    let behind : chars bs ≡ front ++ more = ap chars tails ∙ ap (λ (t : List ℕ). drop 1 t) chars_are in
    let utf8_rest : IsUtf8 bs = subst (λ (t : List ℕ). IsUtf8 t) (sym tails)
    (IsUtf8-past_char (b ∷ bs) rest d utf8 spelled) in
    let on : IsAsciiFront bs front more = octets_of front bs more (All-tail IsAsciiCharacter c front ascii) utf8_rest
    behind in
    let all : b ∷ bs ≡ c ∷ (front ++ on.rest) = (let rest_is : bs ≡ front ++ on.rest = on.all in cc) in
    record { rest = on.rest; all = all; behind = on.behind; utf8 = on.utf8 }

-- a text that isn't empty has a code point
pub chars_some : (text : List ℕ) → IsUtf8 text → 0 < length text → 0 < length (chars text)
chars_some [] utf8 some = absurd (omega arith)
chars_some (b ∷ bs) utf8 some =
    let first = first_character b bs utf8 in
    let points : chars (b ∷ bs) ≡ first.0 ∷ chars first.1 = chars_past_char (b ∷ bs) first.1 first.0 utf8 first.2 in
    let size : length (chars (b ∷ bs)) ≡ length (first.0 ∷ chars first.1) = ap length points in
    omega arith
