-- The members of a content beside the entries of the map that holds them.
use Rattle.std.proofs.Common.{◌≡◌, ℕ, List, [], ◌∷◌, Bool, true, false, Option, Some, None, option_map, String, Global}
use Rattle.std.proofs.Common.{Bor, string_bytes, nat_cmp, cond, bytes_eq, true≢false, refl, sym, ap, ◌∙◌}
use Rattle.std.proofs.lemmas.Map.Text.{is_eq-slice_cmp}
use Rattle.std.proofs.lemmas.Slice.Eq.{bytes_eq-Decides}
use Rattle.std.specs.BTreeMap.{is_at}
use Rattle.std.specs.Cmp.Lexicographic.{slice_cmp}
use Rattle.std.specs.Map.{lookup, remove_entry}
use Rattle.std.specs.Option.{option_copied}
use Rattle.std.specs.Ordering.{match_ordering}
use Rattle.serde_json.specs.Find.{get_member}
use Rattle.serde_json.specs.View.{view, members_view}
use Rattle.serde_json.specs.declared.value.Value.{Value}
use Rattle.serde_json.proofs.Views.{Entry, view-lookup, member_later}

-- whether a key is this name
abbrev pub named : List ℕ → String Global → Bool
named name = is_at (λ key. slice_cmp nat_cmp name (string_bytes key))

-- what a map has under a name is the member of that name
pub member-value : (name : List ℕ) (entries : List Entry) (found : Option Value) → found ≡ lookup (named name) entries
    → option_map view found ≡ get_member name (members_view entries)
member-value name entries found e = ap (option_map view) e ∙ view-lookup name entries

-- the same, where it is lent
pub member-lent : (name : List ℕ) (entries : List Entry) (found : Option (Bor Value)) → option_copied found
    ≡ lookup (named name) entries
    → option_map (λ value. view value.now) found ≡ get_member name (members_view entries)
member-lent name entries None e = member-value name entries None e
member-lent name entries (Some value) e = member-value name entries (Some value.now) e

-- two names of which one is a key are the same or not
apart : (name other key : List ℕ) → bytes_eq other name ≡ false → bytes_eq name key ≡ true → other ≡ key → ⊥
apart name other key differ same is =
    true≢false (sym ((bytes_eq-Decides other name).1 (is ∙ sym ((bytes_eq-Decides name key).0 same))) ∙ differ)

-- the entry that leaves a map at a test leaves the members of other names
other_stays : (test : Bool) (name other : List ℕ) (entry : Entry) (entries : List Entry)
    → bytes_eq name (string_bytes entry.0) ≡ test
    → bytes_eq other name ≡ false
    → get_member other (members_view (remove_entry (named name) entries)) ≡ get_member other (members_view entries)
    → get_member other (members_view (cond test entries (entry ∷ remove_entry (named name) entries)))
    ≡ get_member other (members_view (entry ∷ entries))
other_stays true name other entry entries is differ rest =
    sym (member_later other entry entries (apart name other (string_bytes entry.0) differ is))
other_stays false name other entry entries is differ rest =
    ap (λ found. match_ordering (slice_cmp nat_cmp other (string_bytes entry.0)) found (Some (view entry.1)) found) rest

-- a map without a name has the members of the other names as before
pub get_member-remove_entry : (name other : List ℕ) (entries : List Entry) → bytes_eq other name ≡ false
    → get_member other (members_view (remove_entry (named name) entries)) ≡ get_member other (members_view entries)
get_member-remove_entry name other [] differ = refl
get_member-remove_entry name other (entry ∷ entries) differ =
    rw (is_eq-slice_cmp name (string_bytes entry.0))
    (other_stays _ name other entry entries refl differ (get_member-remove_entry name other entries differ))
