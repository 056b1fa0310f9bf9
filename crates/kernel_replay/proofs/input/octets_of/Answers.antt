use Rattle.std.proofs.Common.{◌∙◌, refl}
use Rattle.kernel_replay.proofs.HexText.{hex_octets-none, hex_octets-found}
use Rattle.kernel_replay.proofs.input.octets_of.Goals as goal

pub returns-in-Err-clause-not_hex : goal.returns-in-Err-clause-not_hex
returns-in-Err-clause-not_hex c =
    let parts = c.is_hex_text.ensures.0 c.if-is_hex_text.true in (
      (λ wrong. cc wrong),
      (λ none. absurd (hex_octets-found c.args.text.items c.deref.result.now
          (c.deref.ensures.value ∙ c.remove_white_space.ensures) (record { even = parts.0; digits = parts.1 }) none)),
    )

pub returns-clause-not_hex : goal.returns-clause-not_hex
returns-clause-not_hex c =
    let none = hex_octets-none c.args.text.items c.deref.result.now
    (c.deref.ensures.value ∙ c.remove_white_space.ensures)
    (λ is_hex. cc (c.is_hex_text.ensures.1 (is_hex.even, is_hex.digits), c.if-is_hex_text.false)) in
    ((λ is. none), (λ is. refl))
