-- The flags octet by its bits.
use Rattle.std.proofs.Common.{◌≡◌, ℕ, zero, suc, ◌*◌, ◌/◌, ◌^◌, ◌<◌, not, nat_eq, bit_and, refl, arith, lit≤, sym, ◌∙◌}
use Rattle.std.proofs.lemmas.Nat.Bits.{and_high_mask}
use Rattle.zmtp_wire.specs.Frame.{flags_octet}

-- an octet with no reserved bit is below 8
pub no_reserved : (octet : ℕ) → octet < 2 ^ 8 → bit_and octet 248 ≡ 0 → octet < 8
no_reserved octet fits none =
    let high : octet / 8 * 8 ≡ 0 = sym (and_high_mask 8 3 (lit≤ tt) octet fits) ∙ none in
    omega arith

-- an octet below 8 is the flags that its three bits say
pub bits_are_flags : (octet : ℕ) → octet < 8
    → octet ≡ flags_octet (not (nat_eq (bit_and octet 1) 0)) (not (nat_eq (bit_and octet 2) 0))
    (not (nat_eq (bit_and octet 4) 0))
bits_are_flags zero below = refl
bits_are_flags (suc zero) below = refl
bits_are_flags (suc (suc zero)) below = refl
bits_are_flags (suc (suc (suc zero))) below = refl
bits_are_flags (suc (suc (suc (suc zero)))) below = refl
bits_are_flags (suc (suc (suc (suc (suc zero))))) below = refl
bits_are_flags (suc (suc (suc (suc (suc (suc zero)))))) below = refl
bits_are_flags (suc (suc (suc (suc (suc (suc (suc zero))))))) below = refl
bits_are_flags (suc (suc (suc (suc (suc (suc (suc (suc more)))))))) below = absurd (omega arith)
