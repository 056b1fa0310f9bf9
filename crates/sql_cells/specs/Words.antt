-- The word at a cursor.
use Rattle.std.specs.Prelude.{ℕ, ◌+◌, ◌-◌, Bool, ◌||◌, ◌==◌, nat_le, nat_lt, if◌then◌else◌, List, [], ◌∷◌, ◌++◌, take}
use Rattle.std.specs.Prelude.{drop}
use Rattle.std.specs.Char.{is_ascii_alphanumeric}
use Rattle.std.specs.List.{prefix_len}
use Rattle.sql_cells.specs.Tables.{goes_on}

-- an octet of a name that needs no quotes
abbrev pub is_name : ℕ → Bool
is_name b = is_ascii_alphanumeric b || b == 95 || nat_le 128 b

-- how many octets the first characters of a text have
abbrev pub octets_of : ℕ → List ℕ → ℕ
octets_of characters [] = 0
octets_of characters (b ∷ rest) =
    if goes_on b then 1 + octets_of characters rest
    else if nat_lt 0 characters then 1 + octets_of (characters - 1) rest
    else 0

-- what stands before a cursor, which counts characters; one past the end is the end
abbrev pub before : ℕ → List ℕ → List ℕ
before cursor text = take (octets_of cursor text) text

-- what stands after it
abbrev pub after : ℕ → List ℕ → List ℕ
after cursor text = drop (octets_of cursor text) text

-- the place at which the word begins that a text ends with
abbrev pub word_start : List ℕ → ℕ
word_start [] = 0
word_start (b ∷ rest) = if nat_lt 0 (word_start rest) then 1 + word_start rest else if is_name b then 0 else 1

-- the word that a text ends with
abbrev pub last_word : List ℕ → List ℕ
last_word text = drop (word_start text) text

-- the word that holds or touches a cursor
abbrev pub word_around : ℕ → List ℕ → List ℕ
word_around cursor text =
    last_word (before cursor text) ++ take (prefix_len is_name (after cursor text)) (after cursor text)
