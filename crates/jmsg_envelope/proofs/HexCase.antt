-- Hex digits in lower case stay as they are.
use Rattle.std.proofs.Common.{◌≡◌, ℕ, zero, suc, ◌/◌, ◌%◌, List, [], ◌∷◌, slice_index, refl}
use Rattle.std.specs.Char.{to_ascii_lowercase}
use Rattle.hex.specs.Hex.{encode_with, encode_lower, lower_digits}
use Rattle.jmsg_envelope.specs.Envelope.{lower_case}

-- a table that is in lower case has each of its digits in lower case
lower-digit : (table : List ℕ) → lower_case table ≡ table → (d : ℕ) → to_ascii_lowercase (slice_index table d)
    ≡ slice_index table d
lower-digit [] h d = refl
lower-digit (x ∷ xs) h zero = cc h
lower-digit (x ∷ xs) h (suc d) = let rest : lower_case xs ≡ xs = cc h in lower-digit xs rest d

-- what is written by such a table is in lower case
lower-encode_with : (table octets : List ℕ) → lower_case table ≡ table → lower_case (encode_with table octets)
    ≡ encode_with table octets
unfolding encode_with
lower-encode_with table [] h = refl
lower-encode_with table (octet ∷ rest) h =
    rw (lower-digit table h (octet / 16), lower-digit table h (octet % 16), lower-encode_with table rest h) refl

pub lower-encode_lower : (octets : List ℕ) → lower_case (encode_lower octets) ≡ encode_lower octets
lower-encode_lower octets = lower-encode_with lower_digits octets refl
