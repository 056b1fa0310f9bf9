-- The numbers and the words by which the faults of an interpreter are reported.
use Rattle.std.specs.Prelude.{ℕ, List, ◌++◌, codes}
use Rattle.std.specs.Fmt.{decimal}
use Rattle.interp_core.specs.declared.fault.InterpFault.{InterpFault}
use Rattle.interp_core.specs.declared.fault.InterpFault.TheVariants.{Syntax, Overflow, ZeroDivision, Shift, TooDeep}
use Rattle.interp_core.specs.declared.fault.InterpFault.TheVariants.{Interrupted, OutOfMemory, Raised}

-- the number of a fault; they count from 50 on, in the order in which the faults are listed
abbrev pub interp_fault_number : InterpFault → ℕ
interp_fault_number (Syntax place) = 50
interp_fault_number Overflow = 51
interp_fault_number ZeroDivision = 52
interp_fault_number Shift = 53
interp_fault_number TooDeep = 54
interp_fault_number Interrupted = 55
interp_fault_number OutOfMemory = 56
interp_fault_number (Raised name value) = 57

-- the name of a fault, which a reply and an error message give as `ename` ('Messaging in Jupyter' 5.3, "Request-Reply")
abbrev pub fault_name : InterpFault → List ℕ
fault_name (Syntax place) = codes "SyntaxError"
fault_name Overflow = codes "OverflowError"
fault_name ZeroDivision = codes "ZeroDivisionError"
fault_name Shift = codes "ShiftError"
fault_name TooDeep = codes "TooDeep"
fault_name Interrupted = codes "Interrupted"
fault_name OutOfMemory = codes "OutOfMemory"
fault_name (Raised name value) = name

-- what is said of a fault, which a reply and an error message give as `evalue`
abbrev pub fault_value : InterpFault → List ℕ
fault_value (Syntax place) = codes "syntax error at " ++ decimal place
fault_value Overflow = codes "result outside 64 bits"
fault_value ZeroDivision = codes "division by zero"
fault_value Shift = codes "shift refused"
fault_value TooDeep = codes "more than 200 operators"
fault_value Interrupted = codes "interrupted"
fault_value OutOfMemory = codes "out of memory"
fault_value (Raised name value) = value
