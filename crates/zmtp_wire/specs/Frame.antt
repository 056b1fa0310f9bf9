-- A frame of ZMTP: a flags octet, a size, a body (RFC 23, "Framing").
use Rattle.std.specs.Prelude.{ℕ, ◌+◌, ◌^◌, ◌<◌, nat_lt, Bool, true}
use Rattle.std.specs.Prelude.{false, if◌then◌else◌, List, [], ◌∷◌, ◌++◌, length, map}
use Rattle.std.specs.Int.{w64, to_be_bytes}
use Rattle.std.specs.List.{flat_map}
use Rattle.zmtp_wire.specs.declared.traffic.frame.Frame.{Frame}

-- the flags octet: bit 0 is MORE, bit 1 LONG, bit 2 COMMAND, the others are zero
abbrev pub flags_octet : Bool → Bool → Bool → ℕ
flags_octet more long command = (if more then 1 else 0) + (if long then 2 else 0) + (if command then 4 else 0)

-- the size: one octet, or eight in network order under LONG
abbrev pub size_octets : Bool → ℕ → List ℕ
size_octets false size = size ∷ []
size_octets true size = to_be_bytes w64 size

-- the sizes that one octet, or eight, can say
abbrev pub size_bound : Bool → ℕ
size_bound false = 2 ^ 8
size_bound true = 2 ^ 64

-- a frame's head: flags and size
abbrev pub head_octets : Bool → Bool → Bool → ℕ → List ℕ
head_octets more long command size = flags_octet more long command ∷ size_octets long size

-- a frame, with MORE or COMMAND as said
abbrev pub frame_octets : Bool → Bool → Frame → List ℕ
frame_octets more command frame = head_octets more frame.long command (length frame.body) ++ frame.body

-- a body that its size can say
abbrev pub HasSize : Frame → Type 0
HasSize frame = length frame.body < size_bound frame.long

-- the frames of a message that goes on: each with MORE
abbrev pub front_octets : List Frame → List ℕ
front_octets frames = flat_map (frame_octets true false) frames

-- the bodies of spelled frames
abbrev pub bodies_of : List Frame → List (List ℕ)
bodies_of frames = map (λ frame. frame.body) frames

-- a frame as it is written: a long size only if one octet can't say it
abbrev pub shortest : List ℕ → Frame
shortest body = record { long = nat_lt 255 (length body); body = body }

-- the text of a message: its frames one after the other, MORE on all but the last
abbrev pub text : List (List ℕ) → List ℕ
text [] = []
text (body ∷ []) = frame_octets false false (shortest body)
text (body ∷ next ∷ bodies) = frame_octets true false (shortest body) ++ text (next ∷ bodies)
