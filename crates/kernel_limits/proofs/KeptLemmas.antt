-- What is kept, without its first chunk.
use Rattle.std.proofs.Common.{◌≡◌, ◌-◌, ◌∷◌, ℕ, List, length, subst, arith, append_assoc, length-append}
use Rattle.std.specs.Prelude.{suc}
use Rattle.std.specs.Global.{Vec}
use Rattle.kernel_limits.specs.Kept.{kept_octets, IsKept}

-- of what is kept, its first full chunk is taken, which has so many octets
pub kept_without_first : (len taken : ℕ) (short : List ℕ) (chunk : Vec ℕ) (full rest : List (Vec ℕ)) (last : List ℕ)
    → full ≡ chunk ∷ rest → taken ≡ length chunk.items → IsKept len short full last
    → IsKept (len - taken) short rest last
kept_without_first len taken short chunk full rest last split is kept =
    let before : IsKept len short (chunk ∷ rest) last =
    subst (λ (its : List (Vec ℕ)). IsKept len short its last) split kept in
    let counted : len ≡ length (kept_octets short (chunk ∷ rest) last) = before.counted in
    record {
      counted = grind (arith, append_assoc, length-append);
      some = λ k d below. before.some (suc k) d (grind (arith));
    }
