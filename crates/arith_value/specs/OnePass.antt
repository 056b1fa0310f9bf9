-- How an expression is evaluated in one pass over its parts. Private contracts alone cite this file.
use Rattle.std.specs.Prelude.{◌≡◌, ⊤, ℕ, ℤ, Bool, true, false, List, [], ◌∷◌, Option, Some, None, Result, Ok, Err}
use Rattle.arith_syntax.specs.Grammar.{Tree}
use Rattle.arith_syntax.specs.Parts.{before, grown, last}
use Rattle.arith_syntax.specs.declared.part.Part.{Part}
use Rattle.arith_value.specs.declared.fault.ValueFault.{ValueFault}
use Rattle.arith_value.specs.Value.{give, value}
use Rattle.arith_value.specs.Variables.{Bindings}

-- a tree has a number as its value, and assigns nothing
abbrev pub HasValue : Bindings → Tree → ℤ → Type 0
HasValue variables tree number = value tree variables ≡ give (Ok number) variables

-- the last of some trees have these values, that of the last one first; the trees before them are the base
abbrev pub HaveValues : Bindings → List Tree → List Tree → List ℤ → Type 0
HaveValues variables base trees [] = trees ≡ base
HaveValues variables base trees (number ∷ numbers) =
    HasValue variables (last trees) number × HaveValues variables base (before trees) numbers

-- the first of some numbers, taken off
abbrev pub Takes : List ℤ → Option ℤ → List ℤ → Type 0
Takes old None new = ⊤
Takes old (Some number) new = old ≡ number ∷ new

-- a number, put in front of others
abbrev pub Puts : List ℤ → Result ℤ ValueFault → Bool → List ℤ → Type 0
Puts old value false new = ⊤
Puts old (Ok number) true new = new ≡ number ∷ old
Puts old (Err fault) true new = ⊥

-- from the values of trees to those after one part more
abbrev pub Steps : Bindings → List ℕ → Part → List ℤ → Bool → List ℤ → Type 0
Steps variables text part old false new = ⊤
Steps variables text part old true new = (base trees : List Tree) → HaveValues variables base trees old
    → HaveValues variables base (grown text part trees) new
