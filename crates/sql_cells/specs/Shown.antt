-- What a person is shown of a statement that ran.
use Rattle.std.specs.Prelude.{ℕ, ◌==◌, if◌then◌else◌, List, [], ◌∷◌, ◌++◌, codes}
use Rattle.std.specs.Fmt.{decimal}
use Rattle.std.specs.Str.Lossy.{utf8_lossy}
use Rattle.interp_core.specs.declared.answer.Output.{Output}
use Rattle.interp_core.specs.declared.answer.Output.TheVariants.{Stdout, DisplayHtml}
use Rattle.sqlite_value.specs.Order.{Row}
use Rattle.sql_cells.specs.declared.statement.Came.{Came}
use Rattle.sql_cells.specs.declared.statement.Came.TheVariants.{Rows, Changed}
use Rattle.sql_cells.specs.Tables.{html_table, text_table}
use Rattle.sql_cells.specs.Values.{first_value}

-- rows under the names of their columns, each part that is no UTF-8 replaced
abbrev pub table_output : List (List ℕ) → List Row → Output
table_output names rows = DisplayHtml (utf8_lossy (text_table names rows)) (utf8_lossy (html_table names rows))

-- a count of rows
abbrev pub count_text : ℕ → List ℕ
count_text count = if count == 1 then codes "1 row\n" else decimal count ++ codes " rows\n"

-- what is shown of a statement: one table if it has columns, a count if it changed rows, else nothing
abbrev pub shown : Came → List Output
shown (Rows outline rows) = table_output outline.columns rows.items ∷ []
shown (Changed count) = if count == 0 then [] else Stdout (count_text count) ∷ []

-- the first value of the first row, or nothing if there is none
abbrev pub first_of : List Row → List ℕ
first_of [] = []
first_of (row ∷ rows) = first_value row

-- what a query is worth: its first value
abbrev pub worth : Came → List ℕ
worth (Rows outline rows) = utf8_lossy (first_of rows.items)
worth (Changed count) = decimal count
