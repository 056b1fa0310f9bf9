-- How the values of a row are written.
use Rattle.std.specs.Prelude.{ℕ, ◌+◌, ◌/◌, ◌%◌, ◌==◌, nat_lt, if◌then◌else◌, List, [], ◌∷◌, ◌++◌, codes, flat_map}
use Rattle.std.specs.Fmt.{signed_decimal}
use Rattle.sqlite_value.specs.Order.{Row}
use Rattle.sqlite_value.specs.declared.value.Value.{Value}
use Rattle.sqlite_value.specs.declared.value.Value.TheVariants.{Null, Int, Real, Text, Blob}
use Rattle.sqlite_sql.specs.Spelling.{spelled}

-- a digit to the base 16
abbrev pub hex_digit : ℕ → ℕ
hex_digit n = if nat_lt n 10 then n + 48 else n + 55

-- the two digits of an octet
abbrev pub hex_octet : ℕ → List ℕ
hex_octet b = hex_digit (b / 16) ∷ hex_digit (b % 16) ∷ []

-- A value as text: a number as SQLite writes it, a text as it is, a blob as a literal of SQL. A NULL has brackets, so
-- that it isn't taken for the text of that name.
abbrev pub value_text : Value → List ℕ
value_text Null = codes "[NULL]"
value_text (Int n) = signed_decimal n
value_text (Real x) = spelled x
value_text (Text t) = t
value_text (Blob b) = codes "x'" ++ flat_map hex_octet b ++ codes "'"

-- an octet as HTML has it in a text or an attribute
abbrev pub escaped_octet : ℕ → List ℕ
escaped_octet b =
    if b == 38 then codes "&amp;" else if b == 60 then codes "&lt;" else if b == 62 then codes "&gt;"
    else if b == 34 then codes "&quot;" else b ∷ []

-- a text as HTML has it: no part of it is taken for markup
abbrev pub escaped : List ℕ → List ℕ
escaped = flat_map escaped_octet

-- a value as HTML: a NULL is set apart by its style, and of the others only a text may have what could be markup
abbrev pub value_html : Value → List ℕ
value_html Null = codes "<em>NULL</em>"
value_html (Int n) = value_text (Int n)
value_html (Real x) = value_text (Real x)
value_html (Text t) = escaped t
value_html (Blob b) = value_text (Blob b)

-- the first value of a row, or nothing if there is none
abbrev pub first_value : Row → List ℕ
first_value [] = []
first_value (value ∷ row) = value_text value
