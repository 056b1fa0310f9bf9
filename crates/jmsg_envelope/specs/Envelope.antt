-- The frames of a message on the wire ('Messaging in Jupyter' 5.3, "The Wire Protocol").
use Rattle.std.specs.Prelude.{◌≡◌, ◌≢◌, ◌⊎◌, ◌<◌, ℕ, List, [], ◌∷◌, ◌++◌, length, map, codes, Contains, Some, None}
use Rattle.std.specs.Char.{to_ascii_lowercase}
use Rattle.hex.specs.Hex.{encode_lower}
use Rattle.jmsg_envelope.specs.Hmac.{hmac}
use Rattle.jmsg_envelope.specs.Header.{header_names}
use Rattle.jmsg_envelope.specs.declared.envelope.Envelope.{Envelope}
use Rattle.jmsg_envelope.specs.declared.fault.EnvelopeFault.{EnvelopeFault}
use Rattle.jmsg_envelope.specs.declared.message_parts.MessageParts.{MessageParts}
use Rattle.jmsg_envelope.specs.declared.fault.EnvelopeFault.TheVariants.{NoDelimiter, TooFewParts, BadSignature}
use Rattle.jmsg_envelope.specs.declared.fault.EnvelopeFault.TheVariants.{BadHeader, OutOfMemory}

-- the frame between the identities and the signature
abbrev pub delimiter : List ℕ
delimiter = codes "<IDS|MSG>"

-- the parts of a message, in the order of its frames; the delimiter stands after the identities
pub record Parts : Type 0 where
  pub identities : List (List ℕ)
  pub signature : List ℕ
  pub header : List ℕ
  pub parent : List ℕ
  pub metadata : List ℕ
  pub content : List ℕ
  pub buffers : List (List ℕ)

-- the frames of a message with these parts, in their order
abbrev pub joined : Parts → List (List ℕ)
joined p = p.identities ++ delimiter ∷ p.signature ∷ p.header ∷ p.parent ∷ p.metadata ∷ p.content ∷ p.buffers

-- the octets that the signature is over: the four parts as they stand, and no buffer
abbrev pub signed_octets : Parts → List ℕ
signed_octets p = p.header ++ p.parent ++ p.metadata ++ p.content

-- The signature of octets under a key: their authentication code as hexadecimal digits in lower case. Under an empty
-- key it is empty.
abbrev pub signature : List ℕ → List ℕ → List ℕ
signature [] octets = []
signature (first ∷ rest) octets = encode_lower (hmac (first ∷ rest) octets)

-- the parts of a message that is signed under a key, whose identities are a prefix
abbrev pub sealed_parts : List ℕ → List (List ℕ) → MessageParts → Parts
sealed_parts key prefix parts = record {
  identities = prefix;
  signature = signature key (parts.header ++ parts.parent ++ parts.metadata ++ parts.content);
  header = parts.header;
  parent = parts.parent;
  metadata = parts.metadata;
  content = parts.content;
  buffers = parts.buffers;
}

-- the frames of a message that is signed under a key, whose identities are a prefix
abbrev pub sealed : List ℕ → List (List ℕ) → MessageParts → List (List ℕ)
sealed key prefix parts = joined (sealed_parts key prefix parts)

-- the frames are these parts, cut at the first frame that equals the delimiter
pub record IsSplit (frames : List (List ℕ)) (parts : Parts) : Type 0 where
  pub whole : frames ≡ joined parts
  pub first : ¬ Contains parts.identities delimiter

-- hex digits in lower case
abbrev pub lower_case : List ℕ → List ℕ
lower_case digits = map to_ascii_lowercase digits

-- The signature is right under the key, whatever the case of its hexadecimal digits. If the key is empty any signature
-- is right.
abbrev pub IsSigned : List ℕ → Parts → Type 0
IsSigned key parts = (key ≡ []) ⊎ (lower_case parts.signature ≡ encode_lower (hmac key (signed_octets parts)))

-- the signature is wrong under the key, which isn't empty
pub record IsMissigned (key : List ℕ) (parts : Parts) : Type 0 where
  pub keyed : key ≢ []
  pub differs : lower_case parts.signature ≢ encode_lower (hmac key (signed_octets parts))

-- the parts of a message that has this envelope and these digits as its signature, which an envelope doesn't keep
abbrev pub parts_with : List ℕ → Envelope → Parts
parts_with digits e = record {
  identities = e.identities;
  signature = digits;
  header = e.header;
  parent = e.parent;
  metadata = e.metadata;
  content = e.content;
  buffers = e.buffers;
}

-- The frames are a message that is rightly signed under the key. The envelope has its parts, and the id and the type
-- that its header names.
pub record Opened (key : List ℕ) (frames : List (List ℕ)) (e : Envelope) : Type 0 where
  pub digits : List ℕ
  pub split : IsSplit frames (parts_with digits e)
  pub signed : IsSigned key (parts_with digits e)
  pub named : header_names e.header ≡ Some (e.msg_id, e.msg_type)

-- fewer than five frames follow the first delimiter
pub record IsTooShort (frames : List (List ℕ)) : Type 0 where
  pub identities : List (List ℕ)
  pub after : List (List ℕ)
  pub whole : frames ≡ identities ++ delimiter ∷ after
  pub first : ¬ Contains identities delimiter
  pub few : length after < 5

-- the frames are a message with a wrong signature
pub record HasBadSignature (key : List ℕ) (frames : List (List ℕ)) : Type 0 where
  pub parts : Parts
  pub split : IsSplit frames parts
  pub missigned : IsMissigned key parts

-- the frames are a message with a right signature, whose header names no id or no type
pub record HasBadHeader (key : List ℕ) (frames : List (List ℕ)) : Type 0 where
  pub parts : Parts
  pub split : IsSplit frames parts
  pub signed : IsSigned key parts
  pub nameless : header_names parts.header ≡ None

-- what each fault says of the frames; want of memory isn't a fault of theirs
abbrev pub IsNoEnvelope : List ℕ → List (List ℕ) → EnvelopeFault → Type 0
IsNoEnvelope key frames NoDelimiter = ¬ Contains frames delimiter
IsNoEnvelope key frames TooFewParts = IsTooShort frames
IsNoEnvelope key frames BadSignature = HasBadSignature key frames
IsNoEnvelope key frames BadHeader = HasBadHeader key frames
IsNoEnvelope key frames OutOfMemory = ⊥

-- the frames are a message that is rightly signed under a key
abbrev pub IsSignedMessage : List ℕ → List (List ℕ) → Type 0
IsSignedMessage key frames = (parts : Parts) × IsSplit frames parts × IsSigned key parts

-- why frames can't be cut into a signature and four parts after a delimiter
abbrev pub IsUncut : List (List ℕ) → EnvelopeFault → Type 0
IsUncut frames NoDelimiter = ¬ Contains frames delimiter
IsUncut frames TooFewParts = IsTooShort frames
IsUncut frames BadSignature = ⊥
IsUncut frames BadHeader = ⊥
IsUncut frames OutOfMemory = ⊥

-- why frames are no message that is rightly signed under a key: what is refused of an envelope before its header is
-- read
abbrev pub IsUnsigned : List ℕ → List (List ℕ) → EnvelopeFault → Type 0
IsUnsigned key frames NoDelimiter = IsNoEnvelope key frames NoDelimiter
IsUnsigned key frames TooFewParts = IsNoEnvelope key frames TooFewParts
IsUnsigned key frames BadSignature = IsNoEnvelope key frames BadSignature
IsUnsigned key frames BadHeader = ⊥
IsUnsigned key frames OutOfMemory = ⊥
