-- What a text means as statements of shell arithmetic (POSIX, Shell and Utilities, 2.6.4): its trees, or its first
-- fault.
use Rattle.std.specs.Bool.{nat_lt}
use Rattle.std.specs.Prelude.{◌≡◌, ℕ, ◌<◌, ⊤, Bool, true, false, List, [], ◌∷◌, ◌++◌, ◌⊎◌, map, length, filter}
use Rattle.std.specs.Prelude.{count_by, if◌then◌else◌, Result, Ok, Err}
use Rattle.arith_syntax.specs.declared.fault.ReadFault.{ReadFault}
use Rattle.arith_syntax.specs.declared.fault.ReadFault.TheVariants.{Syntax, TooDeep, OutOfMemory}
use Rattle.arith_syntax.specs.declared.token.Token.{Token}
use Rattle.arith_syntax.specs.declared.token.Token.TheVariants.{Constant, Name, Semicolon}
use Rattle.arith_syntax.specs.declared.token.Placed.{Placed}
use Rattle.arith_syntax.specs.Grammar.{Tree, IsStatement, BeginsStatement}
use Rattle.arith_syntax.specs.Tokens.{IsTokens, IsWrongAt}

-- the tokens alone, without their places
abbrev pub tokens_of : List Placed → List Token
tokens_of placed = map (λ (p : Placed). p.token) placed

-- a token that counts as an operator: one that is neither a name nor a constant
abbrev pub is_operator : Token → Bool
is_operator (Constant n) = false
is_operator (Name x) = false
is_operator _ = true

-- the tokens of a statement, and the place of its end
pub record Sentence : Type 0 where
  pub tokens : List Placed
  pub end : ℕ

-- the sentence of some tokens and the place of its end
abbrev pub sentence_of : List Placed → ℕ → Sentence
sentence_of tokens end = record { tokens = tokens; end = end }

-- a sentence has more than 200 operators
abbrev pub IsTooDeep : Sentence → Type 0
IsTooDeep sentence = 200 < count_by (λ (p : Placed). is_operator p.token) sentence.tokens

-- the first token with which no statement goes on: some statement begins with the tokens before it, but none with these
-- and it
pub record FailsAtToken (sentence : Sentence) (place : ℕ) : Type 0 where
  pub before : List Placed
  pub token : Placed
  pub after : List Placed
  pub all : sentence.tokens ≡ before ++ (token ∷ after)
  pub begins : BeginsStatement (tokens_of before)
  pub breaks : BeginsStatement (tokens_of before ++ token.token ∷ []) → ⊥
  pub there : place ≡ token.place

-- some statement begins with the tokens of a sentence, but they aren't one: its end is the first place that doesn't fit
pub record FailsAtEnd (sentence : Sentence) (place : ℕ) : Type 0 where
  pub begins : BeginsStatement (tokens_of sentence.tokens)
  pub breaks : (tree : Tree) → IsStatement (tokens_of sentence.tokens) tree → ⊥
  pub there : place ≡ sentence.end

-- What a sentence is: its tree, or its fault. If it has too many operators that is its fault, whatever its syntax.
abbrev pub Means : Sentence → Result Tree ReadFault → Type 0
Means sentence (Ok tree) = (IsTooDeep sentence → ⊥) × IsStatement (tokens_of sentence.tokens) tree
Means sentence (Err (Syntax place)) =
    (IsTooDeep sentence → ⊥) × (FailsAtToken sentence place ⊎ FailsAtEnd sentence place)
Means sentence (Err TooDeep) = IsTooDeep sentence
Means sentence (Err OutOfMemory) = ⊥

-- there are as many trees as sentences, and each sentence has its tree
abbrev pub AllMean : List Sentence → List Tree → Type 0
AllMean [] [] = Unit {0}
AllMean [] (tree ∷ trees) = ⊥
AllMean (sentence ∷ sentences) [] = ⊥
AllMean (sentence ∷ sentences) (tree ∷ trees) = Means sentence (Ok tree) × AllMean sentences trees

-- the fault of the first sentence that has one
pub record FailsFirst (sentences : List Sentence) (fault : ReadFault) : Type 0 where
  pub before : List Sentence
  pub trees : List Tree
  pub sentence : Sentence
  pub after : List Sentence
  pub all : sentences ≡ before ++ (sentence ∷ after)
  pub good : AllMean before trees
  pub fails : Means sentence (Err fault)

-- `;` ends a sentence
abbrev pub is_semicolon : Token → Bool
is_semicolon Semicolon = true
is_semicolon _ = false

-- a token in front of the first of some sentences
abbrev pub with_first : Placed → List Sentence → List Sentence
with_first token [] = []
with_first token (sentence ∷ sentences) = record sentence { tokens = token ∷ sentence.tokens } ∷ sentences

-- the sentences that tokens are cut into at each `;`; the last one ends at the place `end`
abbrev pub sentences : ℕ → List Placed → List Sentence
sentences end [] = sentence_of [] end ∷ []
sentences end (token ∷ tokens) =
    (if is_semicolon token.token then sentence_of [] token.place ∷ sentences end tokens
    else with_first token (sentences end tokens))

-- whether a sentence has a token
abbrev pub has_tokens : Sentence → Bool
has_tokens sentence = nat_lt 0 (length sentence.tokens)

-- the statements of a cell: its sentences without the empty ones
abbrev pub cell_sentences : List ℕ → List Placed → List Sentence
cell_sentences text tokens = filter has_tokens (sentences (length text) tokens)

-- a text as one statement, in which `;` cuts nothing
abbrev pub whole_sentence : List ℕ → List Placed → Sentence
whole_sentence text tokens = sentence_of tokens (length text)

-- the fault of a text that isn't tokens: one of syntax, at the place at which it is wrong
abbrev pub IsWrong : List ℕ → ReadFault → Type 0
IsWrong text (Syntax place) = IsWrongAt text place
IsWrong text TooDeep = ⊥
IsWrong text OutOfMemory = ⊥

-- What a cell means: the trees of its statements, or its first fault. If the text isn't tokens, that is its fault.
abbrev pub CellMeans : List ℕ → Result (List Tree) ReadFault → Type 0
CellMeans text (Ok trees) = (tokens : List Placed) × IsTokens text tokens × AllMean (cell_sentences text tokens) trees
CellMeans text (Err fault) =
    IsWrong text fault ⊎ ((tokens : List Placed) × IsTokens text tokens × FailsFirst (cell_sentences text tokens) fault)

-- what a text means as one statement
abbrev pub StatementMeans : List ℕ → Result Tree ReadFault → Type 0
StatementMeans text (Ok tree) = (tokens : List Placed) × IsTokens text tokens
    × Means (whole_sentence text tokens) (Ok tree)
StatementMeans text (Err fault) =
    IsWrong text fault ⊎ ((tokens : List Placed) × IsTokens text tokens
    × Means (whole_sentence text tokens) (Err fault))

-- a fault that has a property, or want of memory, about which no definition says anything
abbrev pub OrMemory : (ReadFault → Type 0) → ReadFault → Type 0
OrMemory P (Syntax place) = P (Syntax place)
OrMemory P TooDeep = P TooDeep
OrMemory P OutOfMemory = ⊤

-- a sentence adds its tree to some trees, and an empty one adds nothing
pub record Adds (sentence : Sentence) (old new : List Tree) : Type 0 where
  pub added : List Tree
  pub all : new ≡ old ++ added
  pub means : AllMean (filter has_tokens (sentence ∷ [])) added

-- a sentence that isn't empty has a fault
pub record Fails (sentence : Sentence) (fault : ReadFault) : Type 0 where
  pub some : has_tokens sentence ≡ true
  pub means : Means sentence (Err fault)
