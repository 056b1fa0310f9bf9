-- What digits are worth, one digit after the other.
use Rattle.std.proofs.Common.{◌≡◌, ℕ, ◌+◌, ◌*◌, ◌^◌, ◌<◌, ◌≤◌, List, [], ◌∷◌, ◌++◌, length, get_or, take, drop, refl}
use Rattle.std.proofs.Common.{◌∙◌, subst, arith, length-append}
use Rattle.std.proofs.lemmas.List.{take_more, take-append-drop}
use Rattle.std.proofs.lemmas.List.Elements.{All-more}
use Rattle.std.proofs.lemmas.Nat.{pow-add}
use Rattle.std.proofs.Math.Nat.{pow-suc, pow-zero, one-le-pow, mul-le-mul_left}
use Rattle.arith_syntax.specs.Tokens.{digit_value, in_base}
use Rattle.arith_syntax.specs.Lexed.{IsDigitOf, IsNumber}

-- digits behind digits count by their positions
pub in_base-append : (base : ℕ) (xs ys : List ℕ) → in_base base (xs ++ ys)
    ≡ in_base base xs * base ^ length ys + in_base base ys
in_base-append base [] ys = omega arith
in_base-append base (x ∷ xs) ys =
    let rest : in_base base (xs ++ ys) ≡ in_base base xs * base ^ length ys + in_base base ys =
    in_base-append base xs ys in
    let split : base ^ length (xs ++ ys) ≡ base ^ length xs * base ^ length ys =
    rw length-append (pow-add base (length xs) (length ys)) in
    rw (split, rest) (omega arith)

-- one more digit
pub in_base-push : (base : ℕ) (xs : List ℕ) (d : ℕ) → in_base base (xs ++ d ∷ [])
    ≡ in_base base xs * base + digit_value d
in_base-push base xs d =
    let one : base ^ 1 ≡ base = pow-suc base 0 ∙ (rw pow-zero (omega arith)) in
    let none : base ^ 0 ≡ 1 = pow-zero base in
    rw (in_base-append base xs (d ∷ []), one, none) (omega arith)

-- what more digits are worth is at least what the first ones are
pub in_base_grows : (base : ℕ) (xs ys : List ℕ) → 1 ≤ base → in_base base xs ≤ in_base base (xs ++ ys)
in_base_grows base xs ys least =
    let power : 1 ≤ base ^ length ys = one-le-pow (length ys) base (omega arith) in
    let more : in_base base xs * 1 ≤ in_base base xs * base ^ length ys = mul-le-mul_left (in_base base xs) power in
    rw (in_base-append base xs ys) (omega arith)

-- a number goes on by one digit
pub number_more : (base : ℕ) (digits : List ℕ) (i value worth : ℕ) → i < length digits
    → IsNumber base (take i digits) value
    → (worth ≡ digit_value (get_or digits i 0)) × IsDigitOf base (get_or digits i 0) → value * base + worth < 2 ^ 63
    → IsNumber base (take (i + 1) digits) (value * base + worth)
number_more base digits i value worth inside so_far digit small = record {
  proper = All-more (IsDigitOf base) digits i 0 inside so_far.proper digit.1;
  value = rw (
    take_more digits i 0 inside,
    in_base-push base (take i digits) (get_or digits i 0),
    ← so_far.value,
    ← digit.0,
  ) refl;
  fits = small;
}

-- digits that are too great stay so
pub number_too_great : (base : ℕ) (digits : List ℕ) (i value worth : ℕ) → 1 ≤ base → i < length digits
    → IsNumber base (take i digits) value
    → (worth ≡ digit_value (get_or digits i 0)) × IsDigitOf base (get_or digits i 0)
    → (value * base + worth < 2 ^ 63 → ⊥)
    → (n : ℕ) → IsNumber base digits n → ⊥
number_too_great base digits i value worth least inside so_far digit great n is =
    let front : in_base base (take (i + 1) digits) ≡ value * base + worth =
    rw (take_more digits i 0 inside, in_base-push base (take i digits) (get_or digits i 0), ← so_far.value, ← digit.0)
    refl in
    let grows : in_base base (take (i + 1) digits) ≤ in_base base digits =
    subst (λ (all : List ℕ). in_base base (take (i + 1) digits) ≤ in_base base all) (take-append-drop (i + 1) digits)
    (in_base_grows base (take (i + 1) digits) (drop (i + 1) digits) least) in
    let small : n < 2 ^ 63 = is.fits in
    let value_is : n ≡ in_base base digits = is.value in
    great (omega arith)
