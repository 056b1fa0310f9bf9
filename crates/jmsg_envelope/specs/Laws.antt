-- What follows from the definitions of opening and sealing.
use Rattle.std.specs.Prelude.{◌≡◌, ℕ, List, Contains, Some}
use Rattle.jmsg_envelope.specs.Envelope.{Opened, IsNoEnvelope, delimiter, sealed}
use Rattle.jmsg_envelope.specs.Header.{header_names}
use Rattle.jmsg_envelope.specs.declared.envelope.Envelope.{Envelope}
use Rattle.jmsg_envelope.specs.declared.fault.EnvelopeFault.{EnvelopeFault}
use Rattle.jmsg_envelope.specs.declared.message_parts.MessageParts.{MessageParts}

-- no frames are refused under a key and opened under it
abbrev pub RefusedIsNotOpened : Type 0
RefusedIsNotOpened =
    (key : List ℕ) (frames : List (List ℕ)) (e : Envelope) (fault : EnvelopeFault)
    → IsNoEnvelope key frames fault → Opened key frames e → ⊥

-- frames are refused for one reason
abbrev pub RefusedOnce : Type 0
RefusedOnce =
    (key : List ℕ) (frames : List (List ℕ)) (fault other : EnvelopeFault)
    → IsNoEnvelope key frames fault → IsNoEnvelope key frames other → fault ≡ other

-- frames are opened as one envelope
abbrev pub OpenedOnce : Type 0
OpenedOnce =
    (key : List ℕ) (frames : List (List ℕ)) (e other : Envelope)
    → Opened key frames e → Opened key frames other → e ≡ other

-- Say that a message is sealed after identities, with a header that names an id and a type. Then it is opened under the
-- same key as what it was made of.
abbrev pub SealedIsOpened : Type 0
SealedIsOpened =
    (key : List ℕ) (prefix : List (List ℕ)) (parts : MessageParts) (id kind : List ℕ)
    → ¬ Contains prefix delimiter → (named : header_names parts.header ≡ Some (id, kind))
    → Opened key (sealed key prefix parts) record {
      identities = prefix;
      header = parts.header;
      msg_id = id;
      msg_type = kind;
      parent = parts.parent;
      metadata = parts.metadata;
      content = parts.content;
      buffers = parts.buffers;
      named = named;
    }
