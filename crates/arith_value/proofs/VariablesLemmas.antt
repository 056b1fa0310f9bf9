-- The variables that a map's entries hold, after each call of the map.
use Rattle.std.proofs.Common.{◌≡◌, ℕ, ℤ, List, [], ◌∷◌, Bool, true, false, cond, Option, Some, None, map, refl, ap}
use Rattle.std.proofs.Common.{sym, subst, ◌∙◌}
use Rattle.std.specs.Prelude.{string_bytes}
use Rattle.std.specs.declared.alloc.Global.{Global}
use Rattle.std.specs.declared.string.String.{String}
use Rattle.std.specs.declared.cmp.Ordering.{Ordering}
use Rattle.std.specs.declared.cmp.Ordering.TheVariants.{Less, Equal, Greater}
use Rattle.std.specs.Ordering.{match_ordering}
use Rattle.std.specs.List.{AllByRecursion, filter}
use Rattle.std.specs.List.Sorted.{IsStrictlySortedBy}
use Rattle.std.specs.Map.{lookup, set_value, keys_of}
use Rattle.std.specs.BTreeMap.{is_at, insert_entry}
use Rattle.std.specs.Str.{bytes_eq}
use Rattle.std.specs.String.{string_cmp}
use Rattle.std.proofs.lemmas.List.Kept.{IsStrictlySortedBy-filter}
use Rattle.std.proofs.lemmas.Map.Text.{is_eq-slice_cmp, text_cmp}
use Rattle.arith_value.specs.Variables.{Bindings, name_order, names, begins, find, assign, shown, IsAscending}

-- a look-up among entries finds what the name's octets find among the variables
pub find_shown : (name : List ℕ) (entries : List (String Global × ℤ)) → lookup (is_at (text_cmp name)) entries
    ≡ find name (shown entries)
find_shown name [] = refl
find_shown name (e ∷ es) =
    rw (is_eq-slice_cmp name (string_bytes e.0)) (ap (cond (bytes_eq name (string_bytes e.0)) (Some e.1))
    (find_shown name es))

-- what a look-up among entries found is what the name finds among the variables
pub looked_up : (name : List ℕ) (entries : List (String Global × ℤ)) (found : Option ℤ)
    → found ≡ lookup (is_at (text_cmp name)) entries → find name (shown entries) ≡ found
looked_up name entries found same = sym (find_shown name entries) ∙ sym same

-- an entry that is replaced, by cases of the test
set_case : (b : Bool) (e : String Global × ℤ) (es : List (String Global × ℤ)) (value : ℤ)
    (changed : List (String Global × ℤ)) (after : Bindings)
    → shown changed ≡ after
    → shown (cond b ((e.0, value) ∷ es) (e ∷ changed)) ≡ cond b ((string_bytes e.0, value) ∷ shown es)
    ((string_bytes e.0, e.1) ∷ after)
set_case true e es value changed after same = refl
set_case false e es value changed after same = ap (λ more. (string_bytes e.0, e.1) ∷ more) same

-- a value that is set among entries is set among the variables
pub set_shown : (name : List ℕ) (entries : List (String Global × ℤ)) (value : ℤ)
    → shown (set_value (is_at (text_cmp name)) entries value) ≡ set_value (bytes_eq name) (shown entries) value
set_shown name [] value = refl
set_shown name (e ∷ es) value =
    rw (is_eq-slice_cmp name (string_bytes e.0)) (set_case (bytes_eq name (string_bytes e.0)) e es value _ _
    (set_shown name es value))

-- an entry that is inserted, by cases of the order
insert_case : (o : Ordering) (key : String Global) (e : String Global × ℤ) (es : List (String Global × ℤ)) (value : ℤ)
    (changed : List (String Global × ℤ)) (after : Bindings)
    → shown changed ≡ after
    → shown (match_ordering o ((key, value) ∷ e ∷ es) ((e.0, value) ∷ es) (e ∷ changed))
    ≡ match_ordering o ((string_bytes key, value) ∷ (string_bytes e.0, e.1) ∷ shown es)
    ((string_bytes e.0, value) ∷ shown es) ((string_bytes e.0, e.1) ∷ after)
insert_case Less key e es value changed after same = refl
insert_case Equal key e es value changed after same = refl
insert_case Greater key e es value changed after same = ap (λ more. (string_bytes e.0, e.1) ∷ more) same

-- an entry that is inserted by its key is inserted among the variables by its name
pub insert_shown : (key : String Global) (entries : List (String Global × ℤ)) (value : ℤ)
    → shown (insert_entry string_cmp entries key value)
    ≡ insert_entry name_order (shown entries) (string_bytes key) value
insert_shown key [] value = refl
insert_shown key (e ∷ es) value = insert_case (string_cmp key e.0) key e es value _ _ (insert_shown key es value)

-- an assignment to a name that is there
pub assign_there : (name : List ℕ) (variables : Bindings) (value old : ℤ) → find name variables ≡ Some old
    → assign name value variables ≡ set_value (bytes_eq name) variables value
assign_there name variables value old found = rw found refl

-- an assignment to a name that is new
pub assign_new : (name : List ℕ) (variables : Bindings) (value : ℤ) → find name variables ≡ None
    → assign name value variables ≡ insert_entry name_order variables name value
assign_new name variables value absent = rw absent refl

-- the names of the variables that entries hold are the octets of the entries' keys
pub names_shown : (entries : List (String Global × ℤ)) → map (λ key. string_bytes key) (keys_of entries)
    ≡ names (shown entries)
names_shown [] = refl
names_shown (e ∷ es) = ap (λ more. string_bytes e.0 ∷ more) (names_shown es)

-- a key below others has its octets below theirs
below_shown : (key : String Global) (entries : List (String Global × ℤ))
    → AllByRecursion (λ other. string_cmp key other ≡ Less) (keys_of entries)
    → AllByRecursion (λ name. name_order (string_bytes key) name ≡ Less) (names (shown entries))
below_shown key [] below = below
below_shown key (e ∷ es) below = (below.0, below_shown key es below.1)

-- the names of a map in order ascend
ascending_shown : (entries : List (String Global × ℤ)) → IsStrictlySortedBy string_cmp (keys_of entries)
    → IsStrictlySortedBy name_order (names (shown entries))
unfolding IsStrictlySortedBy
ascending_shown [] ordered = ordered
ascending_shown (e ∷ es) ordered = (below_shown e.0 es ordered.0, ascending_shown es ordered.1)

-- the names of a map in order that begin with a text ascend
pub ascending_found : (entries : List (String Global × ℤ)) (beginning : List ℕ) (found : List (List ℕ))
    → IsStrictlySortedBy string_cmp (keys_of entries) → found ≡ filter (begins beginning) (names (shown entries))
    → IsAscending found
ascending_found entries beginning found ordered exact =
    subst IsAscending (sym exact) (IsStrictlySortedBy-filter name_order (begins beginning) (names (shown entries))
    (ascending_shown entries ordered))
