-- What is known of a name.
use Rattle.std.specs.Prelude.{ℕ, ◌-◌, Bool, ◌==◌, if◌then◌else◌, List, [], ◌∷◌, ◌++◌, codes, flat_map, length, slice_get}
use Rattle.std.specs.Prelude.{Option, Some, None}
use Rattle.std.specs.Str.{str_eq_ignore_ascii_case}
use Rattle.std.specs.Str.Lossy.{utf8_lossy}
use Rattle.sqlite_schema.specs.declared.schema.Column.{Column}
use Rattle.sqlite_schema.specs.declared.schema.Kind.{Kind}
use Rattle.sqlite_schema.specs.declared.schema.Kind.TheVariants as kind
use Rattle.sqlite_schema.specs.declared.schema.Schema.{Schema}
use Rattle.sqlite_schema.specs.declared.schema.Table.{Table}
use Rattle.sqlite_schema.specs.declared.schema.View.{View}
use Rattle.sql_cells.specs.Words.{word_around}

-- The type of a column of a STRICT table. Another column has an affinity, which is the same for INTEGER and NUMERIC,
-- and for BLOB and no type.
abbrev pub kind_word : Bool → Kind → List ℕ
kind_word strict kind.Integer = if strict then codes "INTEGER" else codes "INTEGER or NUMERIC"
kind_word strict kind.Real = codes "REAL"
kind_word strict kind.Text = codes "TEXT"
kind_word strict kind.Blob = codes "BLOB"
kind_word strict kind.Any = if strict then codes "ANY" else codes "BLOB"

-- a column as it is shown
unfoldable pub column_text : Column → List ℕ
column_text column =
    codes "  " ++ column.name ++ codes " " ++ kind_word column.is_strict column.kind
    ++ (if column.not_null then codes " NOT NULL" else [])

-- a column as it is shown after another one
abbrev pub next_column : Column → List ℕ
next_column column = codes ",\n" ++ column_text column

-- columns as they are shown, with commas between them
abbrev pub columns_text : List Column → List ℕ
columns_text [] = []
columns_text (column ∷ columns) = column_text column ++ flat_map next_column columns

-- two names are one, but for the case of ASCII letters
abbrev pub is_named : List ℕ → List ℕ → Bool
is_named name other = str_eq_ignore_ascii_case other name

-- how the statement begins that makes a table
unfoldable pub create_table : List ℕ
create_table = codes "CREATE TABLE "

-- how a table that is shown begins
unfoldable pub table_head : List ℕ → List ℕ
table_head name = create_table ++ name ++ codes " (\n"

-- the name of a column, if there is one
abbrev pub name_of : Option Column → List ℕ
name_of (Some column) = column.name
name_of None = []

-- The column at a place of a row: place 0 is that of the INTEGER PRIMARY KEY, if there is one, and each column has a
-- place of its own after that.
abbrev pub column_at : Option ℕ → ℕ → Option ℕ
column_at key place = if place == 0 then key else Some (place - 1)

-- the name of a column by its number, if there is one
abbrev pub name_in : List Column → Option ℕ → List ℕ
name_in columns (Some at) = name_of (slice_get columns at)
name_in columns None = []

-- the name of the column at a place of a table's rows
abbrev pub name_at : Table → ℕ → List ℕ
name_at table place = name_in table.columns (column_at table.key place)

-- the name of the column at a place, after another one
abbrev pub next_name : Table → ℕ → List ℕ
next_name table place = codes ", " ++ name_at table place

-- the names of the columns at places, with commas between them
abbrev pub names_at : Table → List ℕ → List ℕ
names_at table [] = []
names_at table (place ∷ places) = name_at table place ++ flat_map (next_name table) places

-- how the line begins that tells a primary key
unfoldable pub primary_head : List ℕ
primary_head = codes ",\n  PRIMARY KEY ("

-- a table's primary key, as it is shown
abbrev pub primary_text : Table → List ℕ
primary_text table =
    if length table.primary == 0 then [] else primary_head ++ names_at table table.primary ++ codes ")"

-- a table as it is shown: its columns and its primary key, in the form of the statement that makes a table
abbrev pub table_lines : Table → List ℕ
table_lines table =
    table_head table.name ++ columns_text table.columns ++ primary_text table ++ codes "\n);\n"

-- a table, if this is its name
abbrev pub table_words : List ℕ → Table → List ℕ
table_words name table = if is_named name table.name then table_lines table else []

-- a view as it is shown: the statement that made it, which what isn't known here has none of
abbrev pub view_lines : View → List ℕ
view_lines view = if length view.sql == 0 then [] else view.sql ++ codes ";\n"

-- a view, if this is its name
abbrev pub view_words : List ℕ → View → List ℕ
view_words name view = if is_named name view.name then view_lines view else []

-- the line before a column that has its table
unfoldable pub column_head : List ℕ → List ℕ
column_head table = codes "in table " ++ table ++ codes "\n"

-- a column as it is shown with its table
abbrev pub column_lines : List ℕ → Column → List ℕ
column_lines table column = column_head table ++ column_text column ++ codes "\n"

-- a column with its table, if this is its name
abbrev pub column_words : List ℕ → List ℕ → Column → List ℕ
column_words name table column = if is_named name column.name then column_lines table column else []

-- the columns of a table that have this name
abbrev pub columns_words : List ℕ → Table → List ℕ
columns_words name table = flat_map (column_words name table.name) table.columns

-- what is known of a name: tables, views and columns
abbrev pub described : Schema → List ℕ → List ℕ
described schema name =
    flat_map (table_words name) schema.tables ++ flat_map (view_words name) schema.views
    ++ flat_map (columns_words name) schema.tables

-- words, if there are some
abbrev pub if_some : List ℕ → Option (List ℕ)
if_some words = if length words == 0 then None else Some (utf8_lossy words)

-- what is known of the word at a cursor
abbrev pub inspection : Schema → List ℕ → ℕ → Option (List ℕ)
inspection schema text cursor = if_some (described schema (word_around cursor text))
