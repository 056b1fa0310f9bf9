-- The parts of a cell: statements, and lines that begin with a dot.
use Rattle.std.specs.Prelude.{◌≡◌, ◌≢◌, ◌++◌, codes, ℕ, zero, suc, ◌+◌, ◌-◌, Bool, not, ◌&&◌, ◌||◌, ◌==◌}
use Rattle.std.specs.Prelude.{nat_lt, min}
use Rattle.std.specs.Str.{bytes_eq}
use Rattle.std.specs.Prelude.{if◌then◌else◌, List, [], ◌∷◌, length, take, drop, filter, slice_index}
use Rattle.std.specs.List.{prefix_len}
use Rattle.interp_core.specs.declared.answer.Completeness.{Completeness}
use Rattle.interp_core.specs.declared.answer.Completeness.TheVariants.{Complete, Incomplete}
use Rattle.sqlite_syntax.specs.Lex.{comment_len}
use Rattle.sqlite.specs.Batch.{first_len}

-- a blank of SQL
abbrev pub is_blank : ℕ → Bool
is_blank b = b == 32 || b == 9 || b == 10 || b == 12 || b == 13

-- an octet within a line
abbrev pub is_within : ℕ → Bool
is_within b = not (b == 10)

-- a text begins with these two octets
abbrev pub begins_with : ℕ → ℕ → List ℕ → Bool
begins_with a b text = slice_index text 0 == a && slice_index text 1 == b

-- the length of the blank or the comment that a text begins with, or 0
abbrev pub gap_len : List ℕ → ℕ
gap_len text =
    if is_blank (slice_index text 0) then 1
    else if begins_with 45 45 text then 2 + prefix_len is_within (drop 2 text)
    else if begins_with 47 42 text && not (slice_index text 2 == 0) then 2 + comment_len (drop 2 text)
    else 0

-- what a text has after blanks and comments; the number counts the octets that are left of one
abbrev pub past_gaps_from : ℕ → List ℕ → List ℕ
past_gaps_from left [] = []
past_gaps_from (suc left) (b ∷ rest) = past_gaps_from left rest
past_gaps_from zero (b ∷ rest) =
    let gap = gap_len (b ∷ rest) in if gap == 0 then b ∷ rest else past_gaps_from (gap - 1) rest

-- what a text has after blanks and comments
unfoldable pub past_gaps : List ℕ → List ℕ
past_gaps = past_gaps_from 0

-- a text that does something: it has more than blanks, comments and a semicolon
abbrev pub does : List ℕ → Bool
does text = not (length (past_gaps text) == 0 || slice_index (past_gaps text) 0 == 59)

-- a text whose first word begins with a dot
abbrev pub is_dotted : List ℕ → Bool
is_dotted text = slice_index (past_gaps text) 0 == 46

-- the length of the first part: up to the end of its line if it begins with a dot, else as sqlite cuts a statement off
abbrev pub part_len : List ℕ → ℕ
part_len text =
    if is_dotted text
    then length text - length (past_gaps text) + (1 + prefix_len is_within (drop 1 (past_gaps text)))
    else first_len text

-- a text, cut after each part
abbrev pub IsParted : List ℕ → List (List ℕ) → Type 0
IsParted text [] = text ≡ []
IsParted text (part ∷ parts) =
    (text ≢ []) × (part ≡ take (part_len text) text) × IsParted (drop (part_len text) text) parts

-- the parts of a text that do something
abbrev pub IsCut : List ℕ → List (List ℕ) → Type 0
IsCut text pieces = (parts : List (List ℕ)) × IsParted text parts × (pieces ≡ filter does parts)

-- the last of parts, after one
abbrev pub last_from : List ℕ → List (List ℕ) → List ℕ
last_from last [] = last
last_from last (part ∷ parts) = last_from part parts

-- the octet that closes what an octet opens: a quoted text or a quoted name; 0 if it opens none
abbrev pub closing : ℕ → ℕ
closing b = if b == 39 || b == 34 || b == 96 then b else if b == 91 then 93 else 0

-- an octet other than this one
abbrev pub is_other : ℕ → ℕ → Bool
is_other b other = not (other == b)

-- the length of the text in quotes that a text begins with, up to the first octet that closes it or the text's end
abbrev pub quote_len : List ℕ → ℕ
quote_len text =
    min (length text) (2 + prefix_len (is_other (closing (slice_index text 0))) (drop 1 text))

-- the length of the first thing of a text: a blank or a comment, a text in quotes, or else one octet
abbrev pub thing_len : List ℕ → ℕ
thing_len text =
    if nat_lt 0 (gap_len text) then gap_len text
    else if closing (slice_index text 0) == 0 then 1
    else quote_len text

-- a text, cut after each thing
abbrev pub IsSplit : List ℕ → List (List ℕ) → Type 0
IsSplit text [] = text ≡ []
IsSplit text (thing ∷ things) =
    (text ≢ []) × (thing ≡ take (thing_len text) text) × IsSplit (drop (thing_len text) text) things

-- a comment that isn't closed
abbrev pub is_open : List ℕ → Bool
is_open thing =
    begins_with 47 42 thing
    && not (nat_lt 3 (length thing) && begins_with 42 47 (drop (length thing - 2) thing))

-- a thing that is no blank and no comment, unless the comment isn't closed
abbrev pub is_solid : List ℕ → Bool
is_solid thing = gap_len thing == 0 || is_open thing

-- the last solid one of things, after one
abbrev pub last_solid : List ℕ → List (List ℕ) → List ℕ
last_solid last [] = last
last_solid last (thing ∷ things) = last_solid (if is_solid thing then thing else last) things

-- A text is whole if it ends with a semicolon, and is left with no text in quotes and no comment open. Blanks and
-- comments after the semicolon are none of it, and neither is a text that has nothing else.
abbrev pub IsWhole : List ℕ → Bool → Type 0
IsWhole text whole =
    (things : List (List ℕ)) × IsSplit text things
    × (whole ≡ bytes_eq (last_solid (codes ";") things) (codes ";"))

-- A text is complete if what stands after the last statement and the last line with a dot is whole. So is a text that
-- sqlite can't read, if it ends with a semicolon: it fails as it runs. A line feed ends the last line, and a comment.
abbrev pub IsJudged : List ℕ → Completeness → Type 0
IsJudged text judged =
    (parts : List (List ℕ)) × IsParted (text ++ codes "\n") parts
    × ((whole : Bool) × IsWhole (last_from [] parts) whole × (judged ≡ (if whole then Complete else Incomplete)))
