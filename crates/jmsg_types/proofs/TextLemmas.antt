-- The texts of an object's members, read one after the other.
use Rattle.std.proofs.Common.{◌≡◌, ℕ, List, [], ◌∷◌, ◌++◌, Option, Some, None, option_map, option_and_then, String}
use Rattle.std.proofs.Common.{Global, string_bytes, append_assoc, append-nil, refl, map, nat_cmp, string_cmp, Less}
use Rattle.std.proofs.Common.{sym, ap, ◌∙◌}
use Rattle.std.specs.Prelude.{IfSome, ⊤}
use Rattle.std.specs.Cmp.Lexicographic.{slice_cmp}
use Rattle.std.specs.List.{AllByRecursion}
use Rattle.std.specs.List.Sorted.{IsStrictlySortedBy}
use Rattle.std.specs.Map.{keys_of}
use Rattle.std.proofs.lemmas.Option.{MatchOption-at_some}
use Rattle.serde_json.specs.Data.{Members}
use Rattle.serde_json.specs.View.{view, members_view}
use Rattle.serde_json.specs.declared.value.Value.{Value}
use Rattle.serde_json.proofs.Views.{Entry}
use Rattle.jmsg_types.specs.Field.{NamesRise, as_text, texts_of}

-- names and their texts
abbrev pub Texts : Type 0
Texts = List (List ℕ × List ℕ)

-- all texts are those that were read and those of the entries that are left
abbrev pub AreLeft : Option Texts → Texts → List Entry → Type 0
AreLeft all done left = all ≡ option_map (λ rest. done ++ rest) (texts_of (members_view left))

-- the texts of a member and those behind it
abbrev texts_behind : List ℕ → Members → Option (List ℕ) → Option Texts
texts_behind name rest text =
    option_and_then (λ words. option_map (λ texts. (name, words) ∷ texts) (texts_of rest)) text

-- at first all are left
none_read : (all : Option Texts) → all ≡ option_map (λ rest. [] ++ rest) all
none_read None = refl
none_read (Some texts) = refl

pub left_first : (entries left : List Entry) (done : Texts) → left ≡ entries → done ≡ []
    → AreLeft (texts_of (members_view entries)) done left
left_first entries left done same none = rw (same, none) (none_read (texts_of (members_view entries)))

-- one text more
one_more : (done : Texts) (name text : List ℕ) (rest : Option Texts)
    → option_map (λ later. done ++ later) (option_map (λ texts. (name, text) ∷ texts) rest)
    ≡ option_map (λ later. (done ++ (name, text) ∷ []) ++ later) rest
one_more done name text None = refl
one_more done name text (Some texts) = ap Some (sym (append_assoc done ((name, text) ∷ []) texts))

pub left_next : (all : Option Texts) (done new : Texts) (left later : List Entry) (name : String Global) (value : Value)
    (key text : List ℕ)
    → AreLeft all done left → left ≡ (name, value) ∷ later → Some text ≡ as_text (view value) → key ≡ string_bytes name
    → new ≡ done ++ (key, text) ∷ [] → AreLeft all new later
left_next all done new left later name value key text left_is turn is named more =
    let entry = ap (λ entries. option_map (λ rest. done ++ rest) (texts_of (members_view entries))) turn in
    let longer : new ≡ done ++ (string_bytes name, text) ∷ [] = rw (more, named) refl in
    let worded = ap (option_map (λ rest. done ++ rest))
    (ap (texts_behind (string_bytes name) (members_view later)) (sym is)) in
    rw longer (left_is ∙ entry ∙ worded ∙ one_more done (string_bytes name) text (texts_of (members_view later)))

-- a value that is no text
pub left_other : (all : Option Texts) (done : Texts) (left later : List Entry) (name : String Global) (value : Value)
    → AreLeft all done left → left ≡ (name, value) ∷ later → None ≡ as_text (view value) → None ≡ all
left_other all done left later name value left_is turn other =
    let entry = ap (λ entries. option_map (λ rest. done ++ rest) (texts_of (members_view entries))) turn in
    let worded = ap (option_map (λ rest. done ++ rest))
    (ap (texts_behind (string_bytes name) (members_view later)) (sym other)) in
    sym (left_is ∙ entry ∙ worded)

-- at the end none is left
pub left_last : (all : Option Texts) (done : Texts) (left : List Entry) → AreLeft all done left → left ≡ [] → Some done
    ≡ all
left_last all done left left_is none =
    sym (left_is ∙ ap (λ entries. option_map (λ rest. done ++ rest) (texts_of (members_view entries))) none
    ∙ ap Some (append-nil done))

-- the names of the texts are the keys of the entries
names_behind : (key : List ℕ) (text : Option (List ℕ)) (rest : Option Texts) (keys : List (List ℕ))
    → IfSome rest (λ texts. map (λ text. text.0) texts ≡ keys)
    → IfSome (option_and_then (λ words. option_map (λ texts. (key, words) ∷ texts) rest) text)
    (λ texts. map (λ text. text.0) texts ≡ key ∷ keys)
names_behind key None rest keys h = tt
names_behind key (Some words) None keys h = tt
names_behind key (Some words) (Some texts) keys h = ap (λ names. key ∷ names) h

names_are_keys : (entries : List Entry) → IfSome (texts_of (members_view entries))
    (λ texts. map (λ text. text.0) texts ≡ map string_bytes (keys_of entries))
names_are_keys [] = refl
names_are_keys (entry ∷ entries) =
    names_behind (string_bytes entry.0) (as_text (view entry.1)) (texts_of (members_view entries))
    (map string_bytes (keys_of entries))
    (names_are_keys entries)

-- keys in the order of texts are in the order of their octets
above : (key : String Global) (keys : List (String Global)) → AllByRecursion (λ other. string_cmp key other ≡ Less) keys
    → AllByRecursion (λ other. slice_cmp nat_cmp (string_bytes key) other ≡ Less) (map string_bytes keys)
above key [] h = h
above key (first ∷ keys) h = (h.0, above key keys h.1)

octets_rise : (keys : List (String Global)) → IsStrictlySortedBy string_cmp keys
    → IsStrictlySortedBy (slice_cmp nat_cmp) (map string_bytes keys)
unfolding IsStrictlySortedBy
octets_rise [] h = h
octets_rise (key ∷ keys) h = (above key keys h.0, octets_rise keys h.1)

pub names_rise : (entries : List Entry) (texts : Texts) → IsStrictlySortedBy string_cmp (keys_of entries)
    → Some texts ≡ texts_of (members_view entries) → NamesRise texts
names_rise entries texts order is =
    let names : map (λ text. text.0) texts ≡ map string_bytes (keys_of entries) =
    MatchOption-at_some ⊤ (λ texts. map (λ text. text.0) texts ≡ map string_bytes (keys_of entries)) texts (sym is)
    (names_are_keys entries) in
    rw names (octets_rise (keys_of entries) order)

-- no names are in order
pub no_names_rise : (texts : Texts) → texts ≡ [] → NamesRise texts
unfolding IsStrictlySortedBy
no_names_rise texts none = rw none tt
