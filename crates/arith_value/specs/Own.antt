-- That a value's faults are its own: no definition speaks of memory.
use Rattle.std.specs.Prelude.{⊤, Result, Ok, Err}
use Rattle.arith_syntax.specs.Grammar.{Tree}
use Rattle.arith_value.specs.declared.fault.ValueFault.{ValueFault}
use Rattle.arith_value.specs.declared.fault.ValueFault.TheVariants.{Overflow, ZeroDivision, Shift, OutOfMemory}
use Rattle.arith_value.specs.Value.{value}
use Rattle.arith_value.specs.Variables.{Bindings}

-- a result, or a fault that isn't want of memory
abbrev pub IsOwnResult : {T : Type 0} → Result T ValueFault → Type 0
IsOwnResult (Ok n) = ⊤
IsOwnResult (Err Overflow) = ⊤
IsOwnResult (Err ZeroDivision) = ⊤
IsOwnResult (Err Shift) = ⊤
IsOwnResult (Err OutOfMemory) = ⊥

-- what a tree is worth is never want of memory
abbrev pub ValuesAreOwn : Type 0
ValuesAreOwn = (tree : Tree) (variables : Bindings) → IsOwnResult (value tree variables).result
