-- The header of a message ('Messaging in Jupyter' 5.3, "General Message Format"): what is read of it, and the one that
-- is written.
use Rattle.std.specs.Prelude.{ℕ, List, [], ◌∷◌, codes, Option, None, option_map, option_and_then, if◌then◌else◌}
use Rattle.std.specs.Str.{is_utf8}
use Rattle.serde_json.specs.Data.{Data, string, object, Members, member, no_members, put}
use Rattle.serde_json.specs.Read.{read}
use Rattle.serde_json.specs.Find.{get, as_str}
use Rattle.serde_json.specs.Written.{compact_text}

-- the text under a key, if the value is an object that has a text there
abbrev pub text_at : List ℕ → Data → Option (List ℕ)
text_at key value = option_and_then as_str (get key value)

-- the message's id and its type, if the value is an object that has both as texts
abbrev pub names_of : Data → Option (List ℕ × List ℕ)
names_of value = option_and_then (λ id. option_map (λ kind. (id, kind)) (text_at (codes "msg_type") value))
    (text_at (codes "msg_id") value)

-- the message's id and its type in a header's octets, if these are JSON in UTF-8 (RFC 8259, section 8.1)
-- that is an object and has both as texts
abbrev pub header_names : List ℕ → Option (List ℕ × List ℕ)
header_names octets = if is_utf8 octets then option_and_then names_of (read octets) else None

-- members to which these texts were added, each under its key; if a key comes twice the last one counts
abbrev pub texts_by_key : List (List ℕ × List ℕ) → Members → Members
texts_by_key [] found = found
texts_by_key (text ∷ texts) found = texts_by_key texts (put text.0 (string text.1) found)

-- a header as an object: the date and id of a message, its type, its session, the kernel's name as its maker, and the
-- protocol's version
abbrev pub header_data : List ℕ → List ℕ → List ℕ → List ℕ → Data
header_data session id date msg_type =
    object (member (codes "date") (string date)
    (member (codes "msg_id") (string id)
    (member (codes "msg_type") (string msg_type)
    (member (codes "session") (string session)
    (member (codes "username") (string (codes "kernel"))
    (member (codes "version") (string (codes "5.3")) no_members))))))

-- the header's octets, with no space between its parts
abbrev pub header_octets : List ℕ → List ℕ → List ℕ → List ℕ → List ℕ
header_octets session id date msg_type = compact_text (header_data session id date msg_type)
