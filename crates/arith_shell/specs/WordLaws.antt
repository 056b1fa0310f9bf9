-- That the words at a cursor are those of the grammar.
use Rattle.std.specs.Prelude.{◌≡◌, ℕ, true, ◌↔◌}
use Rattle.arith_syntax.specs.Tokens.{IsWordCharacter}
use Rattle.arith_syntax.specs.Parts.{is_word_character}

-- a character of a word at a cursor is one of a name or a constant, and the other way round
abbrev pub WordsAreTokens : Type 0
WordsAreTokens = (c : ℕ) → (is_word_character c ≡ true) ↔ IsWordCharacter c
