-- Facts of a fault that isn't want of memory.
use Rattle.arith_syntax.specs.declared.fault.ReadFault.{ReadFault}
use Rattle.arith_syntax.specs.declared.fault.ReadFault.TheVariants.{Syntax, TooDeep, OutOfMemory}
use Rattle.arith_syntax.specs.Reading.{OrMemory}

-- what a fault is, from another fact of it
pub OrMemory-map : (P Q : ReadFault → Type 0) → ((fault : ReadFault) → P fault → Q fault) → (fault : ReadFault)
    → OrMemory P fault → OrMemory Q fault
OrMemory-map P Q f (Syntax place) h = f (Syntax place) h
OrMemory-map P Q f TooDeep h = f TooDeep h
OrMemory-map P Q f OutOfMemory h = h
