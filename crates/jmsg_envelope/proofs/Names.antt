-- What reading a header says of its names.
use Rattle.std.proofs.Common.{◌≡◌, ℕ, List, Bool, true, false, Option, Some, None, refl, ap, option_and_then}
use Rattle.std.proofs.Common.{if◌then◌else◌}
use Rattle.std.specs.Prelude.{IsUtf8}
use Rattle.std.specs.Str.{is_utf8}
use Rattle.std.proofs.lemmas.Str.{IsUtf8-from_is_utf8, is_utf8-from_IsUtf8}
use Rattle.serde_json.specs.Data.{Data}
use Rattle.serde_json.specs.Read.{read}
use Rattle.jmsg_envelope.specs.Header.{header_names, names_of}

-- a header that was read has the names of its value
pub header_names-from_read : (octets : List ℕ) (value : Data) → IsUtf8 octets → read octets ≡ Some value
    → header_names octets ≡ names_of value
header_names-from_read octets value text h = rw (is_utf8-from_IsUtf8 octets text, h) refl

-- the names at either answer of the test
none_either_way : (test : Bool) (found : Option Data) → (test ≡ true → found ≡ None)
    → (if test then option_and_then names_of found else None) ≡ None
none_either_way true found h = ap (option_and_then names_of) (h refl)
none_either_way false found h = refl

-- a header that was not read has none
pub header_names-None : (octets : List ℕ) → (IsUtf8 octets → read octets ≡ None) → header_names octets ≡ None
header_names-None octets h = none_either_way (is_utf8 octets) (read octets)
    (λ text. h (IsUtf8-from_is_utf8 octets text))
