-- What may stand for the word before a cursor.
use Rattle.std.specs.Prelude.{ℕ, Bool, true, false, not, ◌&&◌, if◌then◌else◌, List, [], ◌∷◌, ◌++◌, flat_map, length}
use Rattle.std.specs.Prelude.{◌==◌, codes, map, slice_index, take}
use Rattle.std.specs.Char.{is_ascii_digit}
use Rattle.std.specs.List.{prefix_len}
use Rattle.std.specs.Str.{bytes_eq, str_eq_ignore_ascii_case}
use Rattle.std.specs.Str.Lossy.{utf8_lossy}
use Rattle.interp_core.specs.declared.answer.Completion.{Completion}
use Rattle.sqlite_schema.specs.declared.schema.Column.{Column}
use Rattle.sqlite_schema.specs.declared.schema.Schema.{Schema}
use Rattle.sqlite_schema.specs.declared.schema.Table.{Table}
use Rattle.sqlite_schema.specs.declared.schema.View.{View}
use Rattle.sqlite_syntax.specs.declared.token.TheConstants.{KEYWORDS}
use Rattle.sql_cells.specs.Tables.{width}
use Rattle.sql_cells.specs.Words.{before, is_name, last_word, word_start}

-- a name begins with a word, but for the case of ASCII letters
abbrev pub begins : List ℕ → List ℕ → Bool
begins word name = str_eq_ignore_ascii_case (take (length word) name) word

-- a name stands among others
abbrev pub has : List (List ℕ) → List ℕ → Bool
has [] name = false
has (other ∷ names) name = if bytes_eq other name then true else has names name

-- the names so far, and one more if it begins with the word and isn't there yet
abbrev pub offer : List ℕ → List (List ℕ) → List ℕ → List (List ℕ)
offer word offered name = if begins word name && not (has offered name) then offered ++ name ∷ [] else offered

-- the names so far, and of others those that begin with the word, each once
abbrev pub offer_all : List ℕ → List (List ℕ) → List (List ℕ) → List (List ℕ)
offer_all word offered [] = offered
offer_all word offered (name ∷ names) = offer_all word (offer word offered name) names

-- the names of tables
abbrev pub table_names : List Table → List (List ℕ)
table_names tables = map (λ table. table.name) tables

-- the names of views
abbrev pub view_names : List View → List (List ℕ)
view_names views = map (λ view. view.name) views

-- the names of columns
abbrev pub column_names : List Column → List (List ℕ)
column_names columns = map (λ column. column.name) columns

-- the names of the columns of tables
abbrev pub all_columns : List Table → List (List ℕ)
all_columns tables = flat_map (λ table. column_names table.columns) tables

-- the keywords of SQL
unfoldable pub keywords : List (List ℕ)
keywords = map (λ k. k.0.now) KEYWORDS

-- what may stand for a word: names of tables, views and columns that begin with it
abbrev pub names_for : Schema → List ℕ → List (List ℕ)
names_for schema word =
    offer_all word (offer_all word (offer_all word [] (table_names schema.tables)) (view_names schema.views))
    (all_columns schema.tables)

-- a name is one of these words, but for the case of ASCII letters
abbrev pub is_among : List (List ℕ) → List ℕ → Bool
is_among [] name = false
is_among (word ∷ words) name = if str_eq_ignore_ascii_case word name then true else is_among words name

-- an octet of a name in double quotes
abbrev pub in_quotes : ℕ → List ℕ
in_quotes b = if b == 34 then codes "\"\"" else b ∷ []

-- a name that needs no quotes: it has only octets of a word, doesn't begin with a digit, and is no keyword
abbrev pub is_plain : List ℕ → Bool
is_plain name =
    prefix_len is_name name == length name && not (is_ascii_digit (slice_index name 0)) && not (is_among keywords name)

-- a name as SQL writes it, in double quotes if it needs them
abbrev pub written : List ℕ → List ℕ
written name = if is_plain name then name else codes "\"" ++ flat_map in_quotes name ++ codes "\""

-- a name as it is offered
abbrev pub offered_text : List ℕ → List ℕ
offered_text name = utf8_lossy (written name)

-- the texts that may stand for a word: names, and after them keywords
abbrev pub matches : Schema → List ℕ → List (List ℕ)
matches schema word = map offered_text (names_for schema word) ++ map utf8_lossy (offer_all word [] keywords)

-- what may stand for the word before a cursor
abbrev pub completion : Schema → List ℕ → ℕ → Completion
completion schema text cursor = record {
  matches = matches schema (last_word (before cursor text));
  start = width (take (word_start (before cursor text)) (before cursor text));
  end = width (before cursor text);
}
