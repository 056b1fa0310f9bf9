-- What a person is shown of rows: a table, for a console and for a page.
use Rattle.std.specs.Prelude.{ℕ, zero, suc, ◌+◌, ◌-◌, min, max, Bool, ◌&&◌, ◌||◌, ◌==◌, nat_lt, nat_le, if◌then◌else◌, List, []}
use Rattle.std.specs.Prelude.{◌∷◌, ◌++◌, codes, flat_map, length, map, replicate, slice_index_or, take}
use Rattle.std.specs.Fmt.{decimal}
use Rattle.sqlite_value.specs.Order.{Row}
use Rattle.sql_cells.specs.Values.{escaped, value_html, value_text}

-- how many rows of a table are shown at most
abbrev pub most_rows : ℕ
most_rows = 1000

-- how wide a column is made at most for the sake of its widest cell
abbrev pub most_width : ℕ
most_width = 200

-- an octet that goes on with a character of UTF-8
abbrev pub goes_on : ℕ → Bool
goes_on b = nat_le 128 b && nat_lt b 192

-- how many characters a text has
abbrev pub width : List ℕ → ℕ
width [] = 0
width (b ∷ rest) = (if goes_on b then 0 else 1) + width rest

-- the cell of a row in a column
abbrev pub cell : List (List ℕ) → ℕ → List ℕ
cell cells at = slice_index_or cells at []

-- the width of the widest cell of a column
abbrev pub widest : ℕ → List (List (List ℕ)) → ℕ
widest at [] = 0
widest at (cells ∷ rows) = max (width (cell cells at)) (widest at rows)

-- The widths of so many columns, from one on. No column is made wider than the most for the sake of its widest cell.
abbrev pub widths_from : List (List (List ℕ)) → ℕ → ℕ → List ℕ
widths_from rows at zero = []
widths_from rows at (suc more) = min (widest at rows) most_width ∷ widths_from rows (at + 1) more

-- An octet of a line, after another one. A control character is shown as a blank. It is one of ASCII, or one from
-- U+0080 to U+009F, which UTF-8 writes as 194 and a second octet. In place of that comes U+00A0.
abbrev pub printed_after : ℕ → ℕ → ℕ
printed_after previous b =
    if nat_lt b 32 || b == 127 then 32
    else if previous == 194 && nat_le 128 b && nat_lt b 160 then 160
    else b

-- the octets of a line after another octet, without control characters
abbrev pub printed : ℕ → List ℕ → List ℕ
printed previous [] = []
printed previous (b ∷ rest) = printed_after previous b ∷ printed b rest

-- a cell between its bars, as wide as its column
abbrev pub boxed : ℕ → List ℕ → List ℕ
boxed wide text = codes " " ++ printed 0 text ++ replicate (wide - width text) 32 ++ codes " |"

-- the cells of a row from one on, under columns of these widths
abbrev pub boxes : List (List ℕ) → ℕ → List ℕ → List ℕ
boxes cells at [] = []
boxes cells at (wide ∷ widths) = boxed wide (cell cells at) ++ boxes cells (at + 1) widths

-- the line of a row
abbrev pub line : List ℕ → List (List ℕ) → List ℕ
line widths cells = codes "|" ++ boxes cells 0 widths ++ codes "\n"

-- the part of a rule below a column
abbrev pub dashes : ℕ → List ℕ
dashes wide = codes "-" ++ replicate wide 45 ++ codes "-+"

-- the line between the names and the rows
abbrev pub rule : List ℕ → List ℕ
rule widths = codes "+" ++ flat_map dashes widths ++ codes "\n"

-- the lines of a table whose columns have these widths
abbrev pub lines : List ℕ → List (List ℕ) → List (List (List ℕ)) → List ℕ
lines widths names rows =
    rule widths ++ line widths names ++ rule widths ++ flat_map (line widths) rows ++ rule widths

-- a table of texts, each column as wide as its widest cell
abbrev pub aligned : List (List ℕ) → List (List (List ℕ)) → List ℕ
aligned names rows = lines (widths_from (names ∷ rows) 0 (length names)) names rows

-- what is said of rows that aren't shown
abbrev pub cut_note : ℕ → List ℕ
cut_note count = codes "The first " ++ decimal most_rows ++ codes " of " ++ decimal count ++ codes " rows."

-- the line below a table that was cut
abbrev pub text_note : ℕ → List ℕ
text_note count = if nat_lt most_rows count then cut_note count ++ codes "\n" else []

-- the paragraph below a table that was cut
abbrev pub html_note : ℕ → List ℕ
html_note count = if nat_lt most_rows count then codes "<p>" ++ cut_note count ++ codes "</p>\n" else []

-- the texts of a row's values
abbrev pub texts : Row → List (List ℕ)
texts row = map value_text row

-- rows for a console
abbrev pub text_table : List (List ℕ) → List Row → List ℕ
text_table names rows = aligned names (map texts (take most_rows rows)) ++ text_note (length rows)

-- a name in the head of a table
abbrev pub html_name : List ℕ → List ℕ
html_name name = codes "<th>" ++ escaped name ++ codes "</th>"

-- a value in the body of a table
abbrev pub html_cell : List ℕ → List ℕ
html_cell value = codes "<td>" ++ value ++ codes "</td>"

-- a row of the body
abbrev pub html_row : Row → List ℕ
html_row row = codes "<tr>" ++ flat_map (λ value. html_cell (value_html value)) row ++ codes "</tr>\n"

-- how a table begins: a dollar sign in it begins no mathematics
unfoldable pub html_head : List ℕ
html_head = codes "<table class=\"tex2jax_ignore mathjax_ignore\">\n<thead>\n<tr>"

-- rows for a page
abbrev pub html_table : List (List ℕ) → List Row → List ℕ
html_table names rows =
    html_head ++ flat_map html_name names ++ codes "</tr>\n</thead>\n<tbody>\n"
    ++ flat_map html_row (take most_rows rows) ++ codes "</tbody>\n</table>\n" ++ html_note (length rows)
