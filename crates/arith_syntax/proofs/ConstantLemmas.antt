-- A constant behind `0`, and what digits are worth.
use Rattle.std.proofs.Common.{◌≡◌, ℕ, ◌<◌, ◌≤◌, ◌-◌, inl, inr, List, [], ◌∷◌, get_or, drop, refl, sym, ◌∙◌, ap, subst}
use Rattle.std.proofs.Common.{arith, Option, Some, None}
use Rattle.std.specs.List.{All}
use Rattle.std.proofs.lemmas.Bool.{le-leb, lt-leb}
use Rattle.std.proofs.lemmas.List.Elements.{All-weaker}
use Rattle.arith_syntax.specs.Tokens.{IsOctalDigit, digit_value, in_base}
use Rattle.arith_syntax.specs.Lexed.{IsDigitOf, ReadsNumber, ReadsConstant}

-- what a decimal digit is worth
value_of_digit : (c : ℕ) → c ≤ 57 → digit_value c ≡ c - 48
value_of_digit c low = rw (le-leb c 57 low) refl

-- what a digit of upper case is worth
value_of_upper : (c : ℕ) → 57 < c → c ≤ 70 → digit_value c ≡ c - 55
value_of_upper c above low = rw (lt-leb c 57 above, le-leb c 70 low) refl

-- what a digit of lower case is worth
value_of_lower : (c : ℕ) → 70 < c → digit_value c ≡ c - 87
value_of_lower c above = let far : 57 < c = omega arith in rw (lt-leb c 57 far, lt-leb c 70 above) refl

-- a digit of base 8 is an octal digit
pub octal_digit : (c : ℕ) → IsDigitOf 8 c → IsOctalDigit c
octal_digit c (inl digit, small) =
    let worth : digit_value c ≡ c - 48 = value_of_digit c (omega arith) in (digit.0, omega arith)
octal_digit c (inr (inl upper), small) =
    let worth : digit_value c ≡ c - 55 = value_of_upper c (omega arith) (omega arith) in absurd (omega arith)
octal_digit c (inr (inr lower), small) =
    let worth : digit_value c ≡ c - 87 = value_of_lower c (omega arith) in absurd (omega arith)

-- an octal digit is a digit of base 8
pub digit_of_octal : (c : ℕ) → IsOctalDigit c → IsDigitOf 8 c
digit_of_octal c digit =
    let worth : digit_value c ≡ c - 48 = value_of_digit c (omega arith) in (inl (digit.0, omega arith), omega arith)

-- a word behind `0` that isn't marked is read to base 8
pub octal_read : (word : List ℕ) (result : Option ℕ) → get_or word 0 0 ≡ 48 → (get_or word 1 0 ≡ 120 → ⊥)
    → (get_or word 1 0 ≡ 88 → ⊥)
    → ReadsNumber 8 (drop 1 word) result → ReadsConstant word result
octal_read [] result zero lower upper reads = absurd (omega arith)
octal_read (c ∷ cs) (Some n) zero lower upper reads = (
  reads.fits,
  inr (inl (record {
    digits = cs;
    spelled = rw zero refl;
    octal = All-weaker (IsDigitOf 8) IsOctalDigit octal_digit cs reads.proper;
    value = reads.value;
  })),
)
octal_read (c ∷ cs) None zero lower upper reads = λ n constant. elim constant.1 [
  | inl decimal ↦ absurd (omega (arith, decimal.first.0))
  | inr (inl octal) ↦
      let same : octal.digits ≡ cs = sym (ap (λ (w : List ℕ). drop 1 w) octal.spelled) in
      reads n (record {
        proper = subst (λ (w : List ℕ). All (IsDigitOf 8) w) same
            (All-weaker IsOctalDigit (IsDigitOf 8) digit_of_octal octal.digits octal.octal);
        value = octal.value ∙ ap (λ (w : List ℕ). in_base 8 w) same;
        fits = constant.0;
      })
  | inr (inr hexadecimal) ↦
      let mark : get_or cs 0 0 ≡ hexadecimal.sign = ap (λ (w : List ℕ). get_or w 1 0) hexadecimal.spelled in
      elim hexadecimal.marked [ inl is ↦ absurd (lower (mark ∙ is)) | inr is ↦ absurd (upper (mark ∙ is)) ]
]
