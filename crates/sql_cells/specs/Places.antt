-- Where in a statement something is wrong.
use Rattle.std.specs.Prelude.{ℕ, ◌+◌, ◌==◌, nat_lt, if◌then◌else◌, List, [], ◌∷◌, ◌++◌, codes, flat_map, take, drop}
use Rattle.std.specs.List.{prefix_len}
use Rattle.sql_cells.specs.Parts.{is_blank, is_within}
use Rattle.sql_cells.specs.Tables.{goes_on, printed}

-- the place at which the last line of a text begins
abbrev pub line_start : List ℕ → ℕ
line_start [] = 0
line_start (b ∷ rest) = if nat_lt 0 (line_start rest) then 1 + line_start rest else if b == 10 then 1 else 0

-- the last line of a text
abbrev pub last_line : List ℕ → List ℕ
last_line text = drop (line_start text) text

-- the first line of a text
abbrev pub first_line : List ℕ → List ℕ
first_line text = take (prefix_len is_within text) text

-- what stands below an octet of a line so that a caret comes below the next character
abbrev pub below : ℕ → List ℕ
below b = if goes_on b then [] else 32 ∷ []

-- how long a text is without the blanks that it ends with
abbrev pub solid_len : List ℕ → ℕ
solid_len [] = 0
solid_len (b ∷ rest) = if nat_lt 0 (solid_len rest) then 1 + solid_len rest else if is_blank b then 0 else 1

-- the line of a place, and a caret below the place: control characters are left out
abbrev pub pointed : List ℕ → ℕ → List ℕ
pointed text at =
    codes "\n" ++ printed 0 (last_line (take at text)) ++ printed 0 (first_line (drop at text)) ++ codes "\n"
    ++ flat_map below (last_line (take at text)) ++ codes "^"
