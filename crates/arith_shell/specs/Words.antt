-- The word at a cursor: a run of ASCII letters, digits and `_`. Texts are lists of code points, and a cursor counts
-- them.
use Rattle.std.specs.Prelude.{ℕ, ◌-◌, List, ◌++◌, length, take, drop}
use Rattle.std.specs.List.{suffix_len, take_while}
use Rattle.arith_syntax.specs.Parts.{is_word_character}

-- the place at which the longest run begins that ends a text
abbrev pub run_start : List ℕ → ℕ
run_start text = length text - suffix_len is_word_character text

-- the longest run that ends a text
abbrev pub last_run : List ℕ → List ℕ
last_run text = drop (run_start text) text

-- the word that ends at a cursor
abbrev pub word_before : List ℕ → ℕ → List ℕ
word_before text cursor = last_run (take cursor text)

-- the word that holds or touches a cursor
abbrev pub word_around : List ℕ → ℕ → List ℕ
word_around text cursor = word_before text cursor ++ take_while is_word_character (drop cursor text)
