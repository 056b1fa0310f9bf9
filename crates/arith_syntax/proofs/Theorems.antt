-- The laws of the grammar for proofs of crates above. Each has the name of the public function whose contract it is.
use Rattle.arith_syntax.specs.Once.{HasOneReading}
use Rattle.arith_syntax.specs.Parsing.{HaveOneTree}
use Rattle.arith_syntax.specs.TokenLaws.{TextsHaveOneLexing, TextsHaveOneWrongPlace, TokensAreNowhereWrong}
use Rattle.arith_syntax.proofs.OnceLemmas.{text_reads_once}
use Rattle.arith_syntax.proofs.ParsingLemmas as trees
use Rattle.arith_syntax.proofs.TokenLawLemmas as lexing

-- the grammar is unambiguous
pub one_tree : HaveOneTree
one_tree = trees.one_tree

-- a text means one thing
pub one_reading : HasOneReading
one_reading = text_reads_once

-- a text is only one list of tokens
pub one_lexing : TextsHaveOneLexing
one_lexing = lexing.one_lexing

-- a text that is tokens is wrong nowhere
pub tokens_are_nowhere_wrong : TokensAreNowhereWrong
tokens_are_nowhere_wrong = lexing.nowhere_wrong

-- a text is wrong at one place at most
pub one_wrong_place : TextsHaveOneWrongPlace
one_wrong_place = lexing.one_wrong_place
