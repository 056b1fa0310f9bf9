-- The variables of a shell: names with their values, each name once, in the order of the names' octets.
use Rattle.std.specs.Prelude.{◌≡◌, ℕ, Bool, ℤ, pos, List, [], ◌∷◌, map, Option, None, Result, Ok, Err, is_some, nat_eq}
use Rattle.std.specs.Prelude.{string_bytes, if◌then◌else◌, ⊤}
use Rattle.std.specs.List.{filter, starts_with}
use Rattle.std.specs.List.Sorted.{IsStrictlySortedBy}
use Rattle.std.specs.declared.alloc.Global.{Global}
use Rattle.std.specs.declared.string.String.{String}
use Rattle.std.specs.declared.vec.Vec.{Vec}
use Rattle.arith_value.specs.declared.fault.ValueFault.{ValueFault}
use Rattle.arith_value.specs.declared.fault.ValueFault.TheVariants.{Overflow, ZeroDivision, Shift, OutOfMemory}
use Rattle.std.specs.declared.cmp.Ordering.{Ordering}
use Rattle.std.specs.Ordering.{nat_cmp}
use Rattle.std.specs.Cmp.Lexicographic.{slice_cmp}
use Rattle.std.specs.Map.{lookup, set_value, keys_of}
use Rattle.std.specs.BTreeMap.{insert_entry}
use Rattle.std.specs.Option.{unwrap_or}
use Rattle.std.specs.Str.{bytes_eq}

-- variables: names with their values
abbrev pub Bindings : Type 0
Bindings = List (List ℕ × ℤ)

-- the order of names: by their octets
abbrev pub name_order : List ℕ → List ℕ → Ordering
name_order = slice_cmp nat_cmp

-- the names that have a value
abbrev pub names : Bindings → List (List ℕ)
names variables = keys_of variables

-- the value of a name, or none if it is unset
abbrev pub find : List ℕ → Bindings → Option ℤ
find name variables = lookup (bytes_eq name) variables

-- the value of a name, which is 0 if it is unset
abbrev pub read : List ℕ → Bindings → ℤ
read name variables = unwrap_or (find name variables) (pos 0)

-- the variables after an assignment: a name that is there takes the value, and a new one goes to its place in the order
abbrev pub assign : List ℕ → ℤ → Bindings → Bindings
assign name value variables =
    if is_some (find name variables)
    then set_value (bytes_eq name) variables value
    else insert_entry name_order variables name value

-- the variables after assignments, in their order
abbrev pub after : Bindings → Bindings → Bindings
after variables [] = variables
after variables (made ∷ more) = after (assign made.0 made.1 variables) more

-- The variables that a map of the program holds: each entry's text becomes the octets of a name. The entries stay in
-- their order.
abbrev pub shown : List (String Global × ℤ) → Bindings
shown entries = map (λ e. (string_bytes e.0, e.1)) entries

-- A name was set. Only a new name needs memory, and if none was left the variables are as they were.
abbrev pub IsSet : List ℕ → ℤ → Bindings → Result Unit ValueFault → Bindings → Type 0
IsSet name value old (Ok done) new = new ≡ assign name value old
IsSet name value old (Err OutOfMemory) new = (find name old ≡ None) × (new ≡ old)
IsSet name value old (Err Overflow) new = ⊥
IsSet name value old (Err ZeroDivision) new = ⊥
IsSet name value old (Err Shift) new = ⊥

-- a name begins with a text
abbrev pub begins : List ℕ → List ℕ → Bool
begins beginning name = starts_with nat_eq name beginning

-- names ascend by their octets, so that none stands twice
abbrev pub IsAscending : List (List ℕ) → Type 0
IsAscending found = IsStrictlySortedBy name_order found

-- the names that begin with a text, in their order; want of memory says nothing
abbrev pub NamesBeginning : List ℕ → Bindings → Result (Vec (List ℕ) Global) ValueFault → Type 0
NamesBeginning beginning variables (Ok found) = found.items ≡ filter (begins beginning) (names variables)
NamesBeginning beginning variables (Err OutOfMemory) = ⊤
NamesBeginning beginning variables (Err Overflow) = ⊥
NamesBeginning beginning variables (Err ZeroDivision) = ⊥
NamesBeginning beginning variables (Err Shift) = ⊥
