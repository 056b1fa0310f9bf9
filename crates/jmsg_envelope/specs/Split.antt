-- What the code's own steps say of the frames, for private clauses.
use Rattle.std.specs.Prelude.{ℕ, ◌+◌, List, [], Bool, bytes_eq, take, drop, get_or}
use Rattle.listed.specs.Bodies.{bodies}
use Rattle.jmsg_envelope.specs.Envelope.{Parts, delimiter}
use Rattle.jmsg_envelope.specs.declared.split.Signed.{Signed}
use Rattle.jmsg_envelope.specs.declared.split.Split.{Split}

-- whether a frame equals the delimiter
abbrev pub is_delimiter : List ℕ → Bool
is_delimiter frame = bytes_eq frame delimiter

-- the parts that a split message holds, as lists of octets that say nothing of memory
abbrev pub parts_of : Split → Parts
parts_of split = record {
  identities = bodies split.identities.items;
  signature = split.signature.items;
  header = split.header.items;
  parent = split.parent.items;
  metadata = split.metadata.items;
  content = split.content.items;
  buffers = bodies split.buffers.items;
}

-- the parts of frames whose first delimiter stands at a place, with at least five frames after it
abbrev pub parts_at : List (List ℕ) → ℕ → Parts
parts_at frames at = record {
  identities = take at frames;
  signature = get_or frames (at + 1) [];
  header = get_or frames (at + 2) [];
  parent = get_or frames (at + 3) [];
  metadata = get_or frames (at + 4) [];
  content = get_or frames (at + 5) [];
  buffers = drop (at + 6) frames;
}

-- the signature of parts and what it is over, without identities and buffers
abbrev pub signed_parts : Parts → Parts
signed_parts parts = record parts { identities = []; buffers = [] }

-- the signature of parts and what it is over, as they lie among frames
abbrev pub signed_parts_of : Signed → Parts
signed_parts_of signed = record {
  identities = [];
  signature = signed.signature.now;
  header = signed.header.now;
  parent = signed.parent.now;
  metadata = signed.metadata.now;
  content = signed.content.now;
  buffers = [];
}
