-- What is kept for a subscriber, as one list of octets.
use Rattle.std.specs.Prelude.{◌≡◌, ◌<◌, ℕ, List, ◌++◌, length, All}
use Rattle.std.specs.Global.{Vec}
use Rattle.std.specs.List.{flat_map}
use Rattle.kernel_limits.specs.declared.chunk.Chunk.{Chunk}
use Rattle.kernel_limits.specs.declared.chunk.Chunk.TheVariants.{Short, Long}

-- the octets of a chunk that is taken
abbrev pub chunk_octets : Chunk → List ℕ
chunk_octets (Short short) = short.items
chunk_octets (Long long) = long.items

-- the octets of full chunks, and those of the one that is being filled
abbrev pub joined_chunks : List (Vec ℕ) → List ℕ → List ℕ
joined_chunks full last = flat_map (λ (chunk : Vec ℕ). chunk.items) full ++ last

-- all octets that are kept: those that take no memory, and then those of the chunks
abbrev pub kept_octets : List ℕ → List (Vec ℕ) → List ℕ → List ℕ
kept_octets short full last = short ++ joined_chunks full last

-- no chunk of these is empty
abbrev pub AreSome : List (Vec ℕ) → Type 0
AreSome full = All (λ (chunk : Vec ℕ). 0 < length chunk.items) full

-- So many octets are kept: some that take no memory, in full chunks, and in the one that is being filled. No full chunk
-- is empty.
pub record IsKept (len : ℕ) (short : List ℕ) (full : List (Vec ℕ)) (last : List ℕ) : Type 0 where
  pub counted : len ≡ length (kept_octets short full last)
  pub some : AreSome full
