-- A piece is put after a while in which others were accepted.
use Rattle.std.proofs.Common.{◌≡◌, ℕ, zero, suc, ◌<◌, List, ◌++◌, length, take, refl, ap, ◌∙◌, arith}
use Rattle.std.specs.Prelude.{Ok}
use Rattle.zmtp_wire.specs.Device.{WriteAdds, idle_writes}
use Rattle.kernel_outlet.specs.Pipe.{Piping, Flows, piping_outflow}
use Rattle.kernel_sockets.specs.Outgoing.{PutsFirst}

-- a put that puts some octets, if there are some, is no idle write
never_idle : (count len : ℕ) → (0 < len → 0 < count) → idle_writes count len ≡ 0
never_idle zero zero some = refl
never_idle zero (suc len) some = let no : 0 < 0 = some (omega arith) in absurd (omega arith)
never_idle (suc count) len some = refl

-- what was put before and the first octets of a piece are what a write adds
pub put_adds : (old middle new : Piping) (piece : List ℕ) (count : ℕ) → Flows old middle → PutsFirst middle new piece count
    → WriteAdds (piping_outflow old) (piping_outflow new) (Ok count) piece
put_adds old middle new piece count flows puts = (
  puts.put ∙ ap (λ (xs : List ℕ). xs ++ take count piece) flows.put,
  rw (never_idle count (length piece) puts.some) (puts.failures ∙ flows.failures),
)
