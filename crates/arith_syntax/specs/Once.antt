-- That a text has one reading: one tree or one fault.
use Rattle.std.specs.Prelude.{◌≡◌, ℕ, List, Result}
use Rattle.arith_syntax.specs.declared.fault.ReadFault.{ReadFault}
use Rattle.arith_syntax.specs.Grammar.{Tree}
use Rattle.arith_syntax.specs.Reading.{CellMeans, StatementMeans}

-- a text means one thing as a cell, and one as a statement
pub record HasOneReading : Type 0 where
  pub one_cell : (text : List ℕ) (a b : Result (List Tree) ReadFault) → CellMeans text a → CellMeans text b → a ≡ b
  pub one_statement : (text : List ℕ) (a b : Result Tree ReadFault) → StatementMeans text a → StatementMeans text b → a
      ≡ b
