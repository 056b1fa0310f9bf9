-- What the parser gives for the tokens of a statement, and that the grammar gives them one tree.
use Rattle.std.specs.Prelude.{◌≡◌, ℕ, ⊤, List, ◌⊎◌, Result, Ok, Err}
use Rattle.arith_syntax.specs.declared.part.Part.{Part}
use Rattle.arith_syntax.specs.declared.fault.ReadFault.{ReadFault}
use Rattle.arith_syntax.specs.declared.fault.ReadFault.TheVariants.{Syntax, TooDeep, OutOfMemory}
use Rattle.arith_syntax.specs.declared.token.Token.{Token}
use Rattle.arith_syntax.specs.Grammar.{Tree, IsStatement}
use Rattle.arith_syntax.specs.Parts.{tree_of}
use Rattle.arith_syntax.specs.Reading.{Sentence, FailsAtToken, FailsAtEnd, tokens_of}

-- the tree of a sentence, or its first place that doesn't fit; want of memory says nothing
abbrev pub Parses : Sentence → Tree → Result (Unit {0}) ReadFault → Type 0
Parses sentence tree (Ok done) = IsStatement (tokens_of sentence.tokens) tree
Parses sentence tree (Err (Syntax place)) = FailsAtToken sentence place ⊎ FailsAtEnd sentence place
Parses sentence tree (Err TooDeep) = ⊥
Parses sentence tree (Err OutOfMemory) = ⊤

-- The parts of the tree of a sentence of this text, or the sentence's first place that doesn't fit. Want of memory says
-- nothing.
abbrev pub IsParsed : Sentence → List ℕ → Result (List Part) ReadFault → Type 0
IsParsed sentence text (Ok parts) = IsStatement (tokens_of sentence.tokens) (tree_of text parts)
IsParsed sentence text (Err (Syntax place)) = FailsAtToken sentence place ⊎ FailsAtEnd sentence place
IsParsed sentence text (Err TooDeep) = ⊥
IsParsed sentence text (Err OutOfMemory) = ⊤

-- tokens are spelled by one statement at most
abbrev pub HaveOneTree : Type 0
HaveOneTree = (tokens : List Token) (one other : Tree) → IsStatement tokens one → IsStatement tokens other → one ≡ other
