-- Lines that begin with a dot.
use Rattle.std.specs.Prelude.{ℕ, ◌+◌, ◌-◌, ◌*◌, ◌==◌, Bool, not, ◌&&◌, nat_lt, if◌then◌else◌, List, [], ◌∷◌, ◌++◌}
use Rattle.std.specs.Prelude.{codes, drop, flat_map, take, Option, Some, None}
use Rattle.std.specs.Char.{is_ascii_digit}
use Rattle.std.specs.List.{prefix_len}
use Rattle.std.specs.Str.{bytes_eq}
use Rattle.std.specs.Str.Lossy.{utf8_lossy}
use Rattle.interp_core.specs.declared.answer.Output.{Output}
use Rattle.interp_core.specs.declared.answer.Output.TheVariants.{Stdout}
use Rattle.interp_core.specs.declared.fault.InterpFault.{InterpFault}
use Rattle.interp_core.specs.declared.fault.InterpFault.TheVariants.{Raised}
use Rattle.sqlite_value.specs.Order.{Row}
use Rattle.sql_cells.specs.declared.dots.Dot.{Dot}
use Rattle.sql_cells.specs.declared.dots.Dot.TheVariants.{Help, Tables, Schema, Limit, Unknown}
use Rattle.sql_cells.specs.declared.statement.Came.{Came}
use Rattle.sql_cells.specs.declared.statement.Came.TheVariants.{Rows, Changed}
use Rattle.sql_cells.specs.Parts.{is_blank}
use Rattle.sql_cells.specs.Values.{first_value}

-- an octet of a word
abbrev pub is_inner : ℕ → Bool
is_inner b = not (is_blank b)

-- the word that a text begins with
abbrev pub first_word : List ℕ → List ℕ
first_word text = take (prefix_len is_inner text) text

-- what a text has after the blanks that it begins with
abbrev pub past_blanks : List ℕ → List ℕ
past_blanks text = drop (prefix_len is_blank text) text

-- the word after the first one, if there is one
abbrev pub second_word : List ℕ → List ℕ
second_word text = first_word (past_blanks (drop (prefix_len is_inner text) text))

-- what the first word of a line asks for
abbrev pub dot_of : List ℕ → Dot
dot_of word =
    if bytes_eq word (codes ".help") then Help else if bytes_eq word (codes ".tables") then Tables
    else if bytes_eq word (codes ".schema") then Schema else if bytes_eq word (codes ".limit") then Limit
    else Unknown

-- the number whose digits go on after those of a number, which has at most sixteen
abbrev pub number_from : ℕ → List ℕ → Option ℕ
number_from n [] = Some n
number_from n (b ∷ rest) =
    if is_ascii_digit b && nat_lt n 1000000000000000 then number_from (n * 10 + (b - 48)) rest else None

-- the number that a word is
abbrev pub number : List ℕ → Option ℕ
number [] = None
number (b ∷ rest) = number_from 0 (b ∷ rest)

-- the query of the names of tables and views, without those that SQLite keeps for itself
abbrev pub names_query : List ℕ
names_query =
    codes "SELECT name FROM sqlite_schema WHERE type IN ('table', 'view') "
    ++ codes "AND name NOT LIKE 'sqlite_%' ORDER BY name"

-- what is said of the lines that begin with a dot
abbrev pub help_text : List ℕ
help_text =
    codes ".help            these lines\n"
    ++ codes ".limit N         lets each query of this session take N steps, one or more for each row\n"
    ++ codes ".schema [TABLE]  the statements that made the tables, or one of them\n"
    ++ codes ".tables          the names of tables and views\n"
    ++ codes "Anything else is SQL of sqlite. Each statement ends with a semicolon.\n"

-- the query of what was made
abbrev pub each_schema : List ℕ
each_schema = codes "SELECT sql || ';' FROM sqlite_schema WHERE sql IS NOT NULL"

-- an octet of a name within a string of SQL
abbrev pub quoted_octet : ℕ → List ℕ
quoted_octet b = if b == 39 then codes "''" else b ∷ []

-- the query of what was made under a name
abbrev pub schema_of : List ℕ → List ℕ
schema_of name =
    utf8_lossy (each_schema ++ codes " AND lower(tbl_name) = lower('" ++ flat_map quoted_octet name ++ codes "')")

-- the query of what was made, under a name if there is one
abbrev pub schema_query : List ℕ → List ℕ
schema_query [] = each_schema
schema_query (b ∷ rest) = schema_of (b ∷ rest)

-- a line that has a row's first value
abbrev pub listed_row : Row → List ℕ
listed_row row = first_value row ++ codes "\n"

-- a line for each row, if there is one
abbrev pub listed_rows : List Row → List Output
listed_rows [] = []
listed_rows (row ∷ rows) = Stdout (utf8_lossy (flat_map listed_row (row ∷ rows))) ∷ []

-- what is shown of a query that a line with a dot stands for
abbrev pub listed : Came → List Output
listed (Rows outline rows) = listed_rows rows.items
listed (Changed count) = []

-- a line that asks for nothing known
abbrev pub unknown_dot : InterpFault
unknown_dot =
    Raised (codes "ProgrammingError") (codes "unknown dot word: .help, .limit N, .schema [TABLE] and .tables are known")

-- a limit that is no number
abbrev pub bad_limit : InterpFault
bad_limit = Raised (codes "ProgrammingError") (codes ".limit takes a number of steps")
