-- Texts that their lengths stand before (ZeroMQ RFC 23, rules `command-name` and `property`).
use Rattle.std.specs.Prelude.{ℕ, List, ◌∷◌, ◌++◌, length}
use Rattle.std.specs.Int.{w32, to_be_bytes}

-- a text, and before it its length in one octet: so is the name of a command or of a property
abbrev pub short_text : List ℕ → List ℕ
short_text text = length text ∷ text

-- a text, and before it its length in four octets in network order: so is the value of a property
abbrev pub long_text : List ℕ → List ℕ
long_text text = to_be_bytes w32 (length text) ++ text
