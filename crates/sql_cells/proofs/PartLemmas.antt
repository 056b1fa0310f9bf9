-- Blanks, comments and parts of a text.
use Rattle.std.proofs.Common.{◌≡◌, ℕ, zero, suc, ◌-◌, ◌≤◌, ◌==◌, ◌++◌, false, cond, List, [], ◌∷◌, drop, refl, ap}
use Rattle.std.proofs.Common.{append_assoc, arith}
use Rattle.std.specs.List.{filter}
use Rattle.std.proofs.lemmas.List.Elements.{filter-append}
use Rattle.sql_cells.specs.Parts.{does, gap_len, past_gaps, past_gaps_from}

past_gaps_from-drop : (n : ℕ) (z : List ℕ) → past_gaps_from n z ≡ past_gaps_from 0 (drop n z)
past_gaps_from-drop zero z = refl
past_gaps_from-drop (suc n) [] = refl
past_gaps_from-drop (suc n) (b ∷ z) = past_gaps_from-drop n z

drop-cons : (n b : ℕ) (z : List ℕ) → 1 ≤ n → drop (n - 1) z ≡ drop n (b ∷ z)
drop-cons zero b z h = absurd (omega arith)
drop-cons (suc n) b z h = let e : suc n - 1 ≡ n = omega arith in ap (λ k. drop k z) e

-- a number that isn't zero
not_zero : (n : ℕ) → 1 ≤ n → (n == 0) ≡ false
not_zero n h = grind arith

-- a text that begins with no blank and no comment is what stands after them
pub gaps_stop : (z : List ℕ) → gap_len z ≡ 0 → past_gaps z ≡ z
unfolding past_gaps
gaps_stop [] h = refl
gaps_stop (b ∷ z) h = ap (λ n. cond (n == 0) (b ∷ z) (past_gaps_from (n - 1) z)) h

-- a blank or a comment is left out
pub gaps_go : (z : List ℕ) → 1 ≤ gap_len z → past_gaps (drop (gap_len z) z) ≡ past_gaps z
unfolding past_gaps
gaps_go [] moves = refl
gaps_go (b ∷ z) moves =
    rw (
      not_zero (gap_len (b ∷ z)) moves,
      past_gaps_from-drop (gap_len (b ∷ z) - 1) z,
      drop-cons (gap_len (b ∷ z)) b z moves,
    )

-- a part that was kept, and those that are to come
pub part_kept : (kept new : List (List ℕ)) (part : List ℕ) (tail parts : List (List ℕ))
    → new ≡ kept ++ filter does (part ∷ []) → kept ++ filter does (part ∷ tail) ≡ filter does parts
    → new ++ filter does tail ≡ filter does parts
part_kept kept new part tail parts is all =
    rw (is, append_assoc, ← filter-append does (part ∷ []) tail) all
