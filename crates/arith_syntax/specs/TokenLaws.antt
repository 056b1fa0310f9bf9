-- Laws of the definition of tokens.
use Rattle.std.specs.Prelude.{◌≡◌, ℕ, List}
use Rattle.arith_syntax.specs.declared.token.Placed.{Placed}
use Rattle.arith_syntax.specs.Tokens.{IsTokens, IsWrongAt}

-- a text is only one list of tokens
abbrev pub TextsHaveOneLexing : Type 0
TextsHaveOneLexing = (text : List ℕ) (one other : List Placed) → IsTokens text one → IsTokens text other → one ≡ other

-- a text that is tokens is wrong nowhere
abbrev pub TokensAreNowhereWrong : Type 0
TokensAreNowhereWrong = (text : List ℕ) (tokens : List Placed) (place : ℕ) → IsTokens text tokens → IsWrongAt text place
    → ⊥

-- a text is wrong at one place at most
abbrev pub TextsHaveOneWrongPlace : Type 0
TextsHaveOneWrongPlace = (text : List ℕ) (one other : ℕ) → IsWrongAt text one → IsWrongAt text other → one ≡ other
