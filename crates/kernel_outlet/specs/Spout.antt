-- What a spout lets out.
use Rattle.std.specs.Prelude.{◌≡◌, ◌≤◌, ℕ, List, ◌++◌, length, take}
use Rattle.kernel_outlet.specs.declared.spout.Sent.{Sent}
use Rattle.kernel_outlet.specs.declared.spout.Sent.TheVariants.{Took, Full, Broken}

-- what left before and after a spout was handed a piece: the first octets of that, as many as it
-- says, after all others
abbrev pub Sends : List ℕ → List ℕ → Sent → List ℕ → Type 0
Sends old new (Took count) piece = (count ≤ length piece) × (new ≡ old ++ take count piece)
Sends old new Full piece = new ≡ old
Sends old new Broken piece = new ≡ old
