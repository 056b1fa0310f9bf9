-- How a field of a content is judged ('Messaging in Jupyter' 5.3; a content is JSON, RFC 8259): its kind, and whether
-- it may be left out.
use Rattle.std.specs.Prelude.{◌≡◌, ℕ, List, [], ◌∷◌, Bool, false, min, nat_le, if◌then◌else◌}
use Rattle.std.specs.Prelude.{Option, Some, None, option_map, option_and_then, Result, Ok, Err, length, map}
use Rattle.std.specs.Ordering.{nat_cmp}
use Rattle.std.specs.Cmp.Lexicographic.{slice_cmp}
use Rattle.std.specs.List.Sorted.{IsStrictlySortedBy}
use Rattle.std.specs.Option.{ok_or, option_map_or}
use Rattle.std.specs.Str.{bytes_eq, chars, is_utf8}
use Rattle.serde_json.specs.Data.{Data, Members, no_members, member}
use Rattle.serde_json.specs.Find.{as_bool, as_number, as_object, as_str, as_u64, get_member}
use Rattle.serde_json.specs.Read.{read}
use Rattle.jmsg_types.specs.Fault.{Refusal, not_json, not_an_object, field}

-- a value that is a text
abbrev pub as_text : Data → Option (List ℕ)
as_text value = as_str value

-- a value that is a truth
abbrev pub as_truth : Data → Option Bool
as_truth value = as_bool value

-- a value that is a whole number; JSON's reader keeps it below 2^64
abbrev pub as_whole : Data → Option ℕ
as_whole value = option_and_then as_u64 (as_number value)

-- a value that is a level of detail: 0 or 1
abbrev pub as_level : Data → Option ℕ
as_level value = option_and_then (λ level. if nat_le level 1 then Some level else None) (as_whole value)

-- the names and texts of members that are texts, all of them, in the order of the names' octets
abbrev pub texts_of : Members → Option (List (List ℕ × List ℕ))
texts_of no_members = Some []
texts_of (member name value rest) =
    option_and_then (λ text. option_map (λ texts. (name, text) ∷ texts) (texts_of rest)) (as_text value)

-- names and texts by the order of the names' octets, each name once
abbrev pub NamesRise : List (List ℕ × List ℕ) → Type 0
NamesRise texts = IsStrictlySortedBy (slice_cmp nat_cmp) (map (λ text. text.0) texts)

-- a value that is an object of texts, with their names
abbrev pub as_texts : Data → Option (List (List ℕ × List ℕ))
as_texts value = option_and_then texts_of (as_object value)

-- under each name but one the new members have what the old ones have
abbrev pub KeepsOthers : List ℕ → Members → Members → Type 0
KeepsOthers name old new =
    (other : List ℕ) → bytes_eq other name ≡ false → get_member other new ≡ get_member other old

-- A field that has to be there. The value under its name is read as one of its kind. If there is no value, or it is of
-- another kind, the content is refused by the field's name.
abbrev pub required : {A : Type 0} → (Data → Option A) → List ℕ → Members → Result A Refusal
required kind name members = ok_or (option_and_then kind (get_member name members)) (field name)

-- A field that may be left out. If it is, its default counts. If it is there it has to be of its kind, or else the
-- content is refused by the field's name.
abbrev pub optional : {A : Type 0} → (Data → Option A) → A → List ℕ → Members → Result A Refusal
optional kind default name members =
    option_map_or (λ value. ok_or (kind value) (field name)) (get_member name members) (Ok default)

-- the first is judged, and the next one if the first isn't refused
abbrev pub and_then : {A B E : Type 0} → Result A E → (A → Result B E) → Result B E
and_then (Ok value) next = next value
and_then (Err fault) next = Err fault

-- how many characters a text has
abbrev pub code_points : List ℕ → ℕ
code_points text = length (chars text)

-- The cursor of a code, in code points. A cursor past the code's end is at the end, and so is one that is left out.
abbrev pub optional_cursor : List ℕ → List ℕ → Members → Result ℕ Refusal
optional_cursor code name members =
    and_then (optional as_whole (code_points code) name members) (λ cursor. Ok (min cursor (code_points code)))

-- the members of what was read as JSON, which is to be an object
abbrev pub members_of_data : Option Data → Result Members Refusal
members_of_data None = Err not_json
members_of_data (Some value) = ok_or (as_object value) not_an_object

-- the members of a content, which is to be an object of JSON in UTF-8 (RFC 8259, section 8.1)
abbrev pub members_in : List ℕ → Result Members Refusal
members_in content = if is_utf8 content then members_of_data (read content) else Err not_json
