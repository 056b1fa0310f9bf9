-- What reading a content says of its members.
use Rattle.std.proofs.Common.{◌≡◌, ℕ, List, Bool, true, false, Option, Some, None, option_map, Result, Ok, Err, String}
use Rattle.std.proofs.Common.{Global, BTreeMap, refl, sym, ap, ◌∙◌, if◌then◌else◌}
use Rattle.std.specs.Prelude.{IsUtf8, IfSome, MatchResult}
use Rattle.std.specs.Option.{ok_or}
use Rattle.std.specs.Str.{is_utf8}
use Rattle.std.proofs.lemmas.Str.{IsUtf8-from_is_utf8, is_utf8-from_IsUtf8}
use Rattle.serde_json.specs.Data.{Data}
use Rattle.serde_json.specs.Find.{as_object}
use Rattle.serde_json.specs.Read.{read}
use Rattle.serde_json.specs.View.{members_view}
use Rattle.serde_json.specs.declared.value.Value.{Value}
use Rattle.jmsg_types.specs.Fault.{not_json, not_an_object, refusal_of}
use Rattle.jmsg_types.specs.Field.{members_in, members_of_data}
use Rattle.jmsg_types.specs.declared.fault.ContentFault.{ContentFault}
use Rattle.jmsg_types.specs.declared.fault.ContentFault.TheVariants.{NotAnObject}

-- the map of an object's members
abbrev pub MemberMap : Type 0
MemberMap = BTreeMap (String Global) Value

-- a content that was read has the members of its value, where that is an object
members_in-read : (content : List ℕ) (value : Data) → IsUtf8 content → read content ≡ Some value
    → members_in content ≡ ok_or (as_object value) not_an_object
members_in-read content value text h = rw (is_utf8-from_IsUtf8 content text, h) refl

pub members_answer : (content : List ℕ) (value : Data) (found : Option MemberMap)
    (answer : Result MemberMap ContentFault)
    → IsUtf8 content → read content ≡ Some value → option_map (λ members. members_view members.entries) found
    ≡ as_object value
    → answer ≡ ok_or found NotAnObject
    → MatchResult answer (λ members. members_in content ≡ Ok (members_view members.entries))
    (λ fault. IfSome (refusal_of fault) (λ refusal. members_in content ≡ Err refusal))
members_answer content value None answer text h is e =
    rw e (members_in-read content value text h ∙ ap (λ object. ok_or object not_an_object) (sym is))
members_answer content value (Some members) answer text h is e =
    rw e (members_in-read content value text h ∙ ap (λ object. ok_or object not_an_object) (sym is))

-- the members at either answer of the test
no_json_either_way : (test : Bool) (found : Option Data) → (test ≡ true → found ≡ None)
    → (if test then members_of_data found else Err not_json) ≡ Err not_json
no_json_either_way true found h = ap members_of_data (h refl)
no_json_either_way false found h = refl

-- a content that was not read is no JSON
pub members_in-unread : (content : List ℕ) → (IsUtf8 content → read content ≡ None) → members_in content ≡ Err not_json
members_in-unread content h =
    no_json_either_way (is_utf8 content) (read content) (λ test. h (IsUtf8-from_is_utf8 content test))
