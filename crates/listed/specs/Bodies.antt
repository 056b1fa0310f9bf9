-- The bodies of frames, as lists of octets that say nothing of memory.
use Rattle.std.specs.Prelude.{ℕ, List, map}
use Rattle.std.specs.Global.{Vec}

-- the octets of each frame, in order
abbrev pub bodies : List (Vec ℕ) → List (List ℕ)
bodies frames = map (λ frame. frame.items) frames
