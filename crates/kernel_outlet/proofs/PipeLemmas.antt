-- What a send leaves of a pipe, over plain lists.
use Rattle.std.proofs.Common.{◌≡◌, ℕ, ◌+◌, ◌<◌, ◌≤◌, Bool, List, ◌++◌, length, take, drop, refl, ap, arith, append_assoc, length-append}
use Rattle.std.specs.Prelude.{true, false}
use Rattle.std.proofs.lemmas.List.{take-append-drop, drop-drop}
use Rattle.kernel_outlet.specs.Pipe.{AddsUp}

-- the first octets of what is left of a chunk, and then the others of what is kept, are what is
-- kept
pub cut_once : (front kept : List ℕ) (gone count : ℕ)
    → take count (drop gone front) ++ (drop (gone + count) front ++ kept) ≡ drop gone front ++ kept
cut_once front kept gone count =
    rw (
      ← append_assoc (take count (drop gone front)) (drop (gone + count) front) kept,
      ← drop-drop count gone front,
      take-append-drop count (drop gone front),
    ) refl

-- there are octets to be taken
pub some_first : (count : ℕ) (octets : List ℕ) → count ≤ length octets → 0 < count → 0 < length (take count octets)
some_first count octets within some = grind (arith, length-append)

-- a pipe adds up after the first octets of what was left of a chunk were accepted
pub sent_adds_up : (put accepted front kept : List ℕ) (gone count : ℕ) (has_failed : Bool)
    → count ≤ length (drop gone front) → 0 < count
    → AddsUp put accepted (drop gone front ++ kept) has_failed
    → AddsUp put (accepted ++ take count (drop gone front)) (drop (gone + count) front ++ kept) has_failed
sent_adds_up put accepted front kept gone count true within some adds =
    let empty : length (drop gone front ++ kept) ≡ 0 = ap length (adds.none refl) in
    let parts : length (drop gone front ++ kept) ≡ length (drop gone front) + length kept =
    length-append (drop gone front) kept in absurd (omega arith)
sent_adds_up put accepted front kept gone count false within some adds =
    let whole : put ≡ (accepted ++ take count (drop gone front)) ++ (drop (gone + count) front ++ kept) =
    rw (
      append_assoc accepted (take count (drop gone front)) (drop (gone + count) front ++ kept),
      cut_once front kept gone count,
    ) (adds.whole refl) in
    record {
      beginning = record { rest = drop (gone + count) front ++ kept; split = whole };
      whole = λ _. whole;
      none = λ no. let not : false ≡ true = no in cc;
    }
