-- Which texts spell octets.
use Rattle.std.proofs.Common.{◌≡◌, ℕ, ◌%◌, List, length, Some, None, Ok, Err, Result, refl, ap, ◌∙◌, sym}
use Rattle.std.specs.List.{AllPass}
use Rattle.std.specs.Result.{result_ok}
use Rattle.hex.specs.Hex.{decode_of, is_hex_digit}
use Rattle.hex.specs.declared.error.FromHexError.{FromHexError}
use Rattle.hex.proofs.HexLemmas.{decode_of-digits, decode_of-ok}
use Rattle.kernel_replay.specs.Lines.{hex_octets, without_white_space}

-- an even number of hexadecimal digits
pub record IsHexText (text : List ℕ) : Type 0 where
  pub even : length text % 2 ≡ 0
  pub digits : AllPass is_hex_digit text

-- what decodes is what the text spells
pub hex_octets-some : (text digits octets : List ℕ) → digits ≡ without_white_space text → decode_of digits ≡ Ok octets
    → hex_octets text ≡ Some octets
hex_octets-some text digits octets same decoded = ap (λ (d : List ℕ). result_ok (decode_of d)) (sym same)
    ∙ ap result_ok decoded

none_from_refused : (r : Result (List ℕ) FromHexError) → ((octets : List ℕ) → r ≡ Ok octets → ⊥) → result_ok r ≡ None
none_from_refused (Ok octets) refused = absurd (refused octets refl)
none_from_refused (Err e) refused = refl

-- what is no hexadecimal text spells nothing
pub hex_octets-none : (text digits : List ℕ) → digits ≡ without_white_space text → (IsHexText digits → ⊥)
    → hex_octets text ≡ None
hex_octets-none text digits same refused =
    ap (λ (d : List ℕ). result_ok (decode_of d)) (sym same)
    ∙ none_from_refused (decode_of digits) (λ octets decoded.
    let ok = decode_of-ok digits octets decoded in refused (record { even = ok.0; digits = ok.1 }))

-- a hexadecimal text spells something
pub hex_octets-found : (text digits : List ℕ) → digits ≡ without_white_space text → IsHexText digits → hex_octets text
    ≡ None → ⊥
hex_octets-found text digits same is_hex none =
    let found = decode_of-digits digits is_hex.even is_hex.digits in
    let some = hex_octets-some text digits found.0 same found.1 in
    cc
