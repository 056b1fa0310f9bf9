-- The beginnings of octets, by their lengths.
use Rattle.std.proofs.Common.{◌≡◌, ℕ, zero, suc, ◌<◌, ◌≤◌, Bool, true, false, ◌||◌, List, [], ◌∷◌, length, take, map}
use Rattle.std.proofs.Common.{refl, sym, ap, ◌∙◌, arith}
use Rattle.std.proofs.Common.{inl, inr, subst}
use Rattle.std.proofs.Math.Nat.{eq-or-lt_of_le}
use Rattle.std.proofs.Common.{◌⊎◌, ◌+◌, ◌++◌, length-append}
use Rattle.std.proofs.lemmas.Bool.{false≢true}
use Rattle.std.specs.List.{list_any}
use Rattle.iopub_relay.specs.Topics.{beginnings}
use Rattle.iopub_relay.proofs.LifeLemmas.{or_true}

-- a test of each beginning, behind an octet
any_behind : (test : List ℕ → Bool) (octet : ℕ) (lists : List (List ℕ))
    → list_any test (map (λ list. octet ∷ list) lists) ≡ list_any (λ list. test (octet ∷ list)) lists
any_behind test octet [] = refl
any_behind test octet (list ∷ lists) = ap (λ (b : Bool). test (octet ∷ list) || b) (any_behind test octet lists)

-- one that passes makes the answer
pub one_passes : (test : List ℕ → Bool) (octets : List ℕ) (len : ℕ) → len ≤ length octets
    → test (take len octets) ≡ true → list_any test (beginnings octets) ≡ true
one_passes test [] zero short passes = rw passes refl
one_passes test [] (suc len) short passes = absurd (omega (arith, short))
one_passes test (octet ∷ octets) zero short passes = rw passes refl
one_passes test (octet ∷ octets) (suc len) short passes =
    ap (λ (b : Bool). test [] || b) (any_behind test octet (beginnings octets)
    ∙ one_passes (λ list. test (octet ∷ list)) octets len (omega (arith, short)) passes) ∙ or_true (test [])

-- none passes where none does up to the whole
pub none_passes : (test : List ℕ → Bool) (octets : List ℕ)
    → ((len : ℕ) → len ≤ length octets → test (take len octets) ≡ false) → list_any test (beginnings octets) ≡ false
none_passes test [] none = rw (none 0 (omega arith)) refl
none_passes test (octet ∷ octets) none = rw (none 0 (omega arith)) (any_behind test octet (beginnings octets)
    ∙ none_passes (λ list. test (octet ∷ list)) octets (λ len short. none (suc len) (omega (arith, short))))

-- what holds below a number and at it holds up to it
pub up_to_here : (Holds : ℕ → Type 0) (most here len : ℕ) → len ≤ here → len ≤ most
    → ((n : ℕ) → n < here → n ≤ most → Holds n) → Holds here → Holds len
up_to_here Holds most here len up_to short below at = elim (eq-or-lt_of_le up_to) [
  | inl same ↦ subst Holds (sym same) at
  | inr less ↦ below len less short
]

found_by : (here rest : Bool) → (here || rest) ≡ true → (here ≡ true) ⊎ (rest ≡ true)
found_by true rest found = inl refl
found_by false rest found = inr found

-- where one beginning passes there is one
pub passes_one : (test : List ℕ → Bool) (octets : List ℕ) → list_any test (beginnings octets) ≡ true
    → (topic : List ℕ) × (rest : List ℕ) × (octets ≡ topic ++ rest) × (test topic ≡ true)
passes_one test [] found = elim (found_by (test []) false found) [
  | inl passes ↦ ([], [], refl, passes)
  | inr never ↦ absurd (false≢true never)
]
passes_one test (octet ∷ octets) found =
    elim (found_by (test []) (list_any test (map (λ list. octet ∷ list) (beginnings octets))) found) [
      | inl passes ↦ ([], octet ∷ octets, refl, passes)
      | inr later ↦
          let (topic, rest, split, passes) = passes_one (λ list. test (octet ∷ list)) octets
          (sym (any_behind test octet (beginnings octets)) ∙ later) in
          (octet ∷ topic, rest, ap (λ (all : List ℕ). octet ∷ all) split, passes)
    ]

front_of : (topic rest : List ℕ) → take (length topic) (topic ++ rest) ≡ topic
front_of [] rest = refl
front_of (octet ∷ topic) rest = ap (λ (all : List ℕ). octet ∷ all) (front_of topic rest)

fails_by : (test : List ℕ → Bool) (octets topic rest : List ℕ) (passes : Bool) → octets ≡ topic ++ rest
    → test topic ≡ passes → list_any test (beginnings octets) ≡ false → passes ≡ false
fails_by test octets topic rest false split is none = refl
fails_by test octets topic rest true split is none =
    let long : length octets ≡ length topic + length rest =
    ap (λ (all : List ℕ). length all) split ∙ length-append topic rest in
    let front : take (length topic) octets ≡ topic =
    ap (λ (all : List ℕ). take (length topic) all) split ∙ front_of topic rest in
    absurd (false≢true (sym none
    ∙ one_passes test octets (length topic) (omega (arith, long)) (ap test front ∙ is)))

-- where none passes no beginning does
pub fails_each : (test : List ℕ → Bool) (octets topic rest : List ℕ) → octets ≡ topic ++ rest
    → list_any test (beginnings octets) ≡ false → test topic ≡ false
fails_each test octets topic rest split none = fails_by test octets topic rest (test topic) split refl none
