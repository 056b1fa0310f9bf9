-- How a text is read sentence by sentence. Private contracts alone cite this file.
use Rattle.std.specs.Prelude.{◌≡◌, ℕ, ◌<◌, ⊤, true, false, List, [], ◌∷◌, ◌++◌, ◌⊎◌, filter, length, Option, Some, None}
use Rattle.std.specs.Prelude.{Result, Ok, Err}
use Rattle.std.specs.List.{All}
use Rattle.std.specs.Str.{chars}
use Rattle.arith_syntax.specs.declared.cutting.Cut.{Cut}
use Rattle.arith_syntax.specs.declared.fault.ReadFault.{ReadFault}
use Rattle.arith_syntax.specs.declared.fault.ReadFault.TheVariants.{Syntax, TooDeep, OutOfMemory}
use Rattle.arith_syntax.specs.declared.token.Placed.{Placed}
use Rattle.arith_syntax.specs.Grammar.{Tree}
use Rattle.arith_syntax.specs.Lexed.{IsReached, IsReachable}
use Rattle.arith_syntax.specs.Parts.{IsNamed}
use Rattle.arith_syntax.specs.Reading.{Sentence, is_semicolon, sentences, has_tokens, AllMean, CellMeans, OrMemory}
use Rattle.arith_syntax.specs.Tokens.{IsTokens, IsWrongAt}

-- the text is wrong at a place, if the place from which it was looked at was reached; want of memory says nothing
abbrev pub IsWrongFrom : List ℕ → ℕ → ReadFault → Type 0
IsWrongFrom text place (Syntax wrong) = (found : List Placed) → IsReached text found place
    → IsWrongAt (chars text) wrong
IsWrongFrom text place TooDeep = ⊥
IsWrongFrom text place OutOfMemory = ⊤

-- A sentence that begins at a place that was reached ends at a `;`, after which the text goes on, or at the end of the
-- text.
abbrev pub CutsAt : List ℕ → ℕ → List Placed → ℕ → Option ℕ → Type 0
CutsAt text place tokens end (Some next) = (place < next) × (semicolon : Placed) × (is_semicolon semicolon.token ≡ true)
    × (semicolon.place ≡ end)
    × ((found : List Placed) → IsReached text found place → IsReached text (found ++ (tokens ++ semicolon ∷ [])) next)
CutsAt text place tokens end None = (end ≡ length (chars text))
    × ((found : List Placed) → IsReached text found place → IsTokens (chars text) (found ++ tokens))

-- the tokens of a sentence: none is `;`, each name is the word at its place, and the sentence ends as it has to
pub record IsCut (text : List ℕ) (place : ℕ) (tokens : List Placed) (cut : Cut) : Type 0 where
  pub plain : All (λ (p : Placed). is_semicolon p.token ≡ false) tokens
  pub named : All (IsNamed text) tokens
  pub ends : CutsAt text place tokens cut.end cut.behind

-- the sentence at a place that was reached, or a wrong token in it
abbrev pub Cuts : List ℕ → ℕ → Result Cut ReadFault → List Placed → Type 0
Cuts text place (Ok cut) tokens = IsCut text place tokens cut
Cuts text place (Err fault) tokens = IsWrongFrom text place fault

-- from a place that was reached on, a text is tokens, or it is wrong
abbrev pub Skips : List ℕ → ℕ → Result (Unit {0}) ReadFault → Type 0
Skips text place (Ok done) = (found : List Placed) → IsReached text found place
    → (more : List Placed) × IsTokens (chars text) (found ++ more)
Skips text place (Err fault) = IsWrongFrom text place fault

-- the place after a sentence was reached, if there is one
abbrev pub IsSomeReachable : List ℕ → Option ℕ → Type 0
IsSomeReachable text None = ⊤
IsSomeReachable text (Some place) = IsReachable text place

-- What is told of a sentence's fault. A wrong token after the sentence is told in its place, if there is one.
abbrev pub IsTold : List ℕ → Option ℕ → ReadFault → ReadFault → Type 0
IsTold text None fault told = told ≡ fault
IsTold text (Some place) fault told = (IsWrongFrom text place told)
    ⊎ ((told ≡ fault) × ((found : List Placed) → IsReached text found place → (more : List Placed)
    × IsTokens (chars text) (found ++ more)))

-- the sentences before a place that was reached have these trees
pub record Progress (text : List ℕ) (place : ℕ) (trees : List Tree) : Type 0 where
  pub found : List Placed
  pub reached : IsReached text found place
  pub done : List Sentence
  pub all : (end : ℕ) (more : List Placed) → sentences end (found ++ more) ≡ done ++ sentences end more
  pub good : AllMean (filter has_tokens done) trees

-- one sentence more, or the last one, or the fault of the cell
abbrev pub ReadsOn : List ℕ → ℕ → Result (Option ℕ) ReadFault → List Tree → Type 0
ReadsOn text place (Ok (Some next)) trees = (place < next) × Progress text next trees
ReadsOn text place (Ok None) trees = CellMeans (chars text) (Ok trees)
ReadsOn text place (Err fault) trees = OrMemory (λ f. CellMeans (chars text) (Err f)) fault
