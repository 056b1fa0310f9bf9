-- Ids of two channels.
use Rattle.std.proofs.Common.{◌≡◌, ◌++◌, ◌∷◌, [], ℕ, List, decimal, ap, sym, arith, append_assoc, ◌∙◌}
use Rattle.std.proofs.lemmas.List.{append_cancel_left}
use Rattle.kernel_serve.specs.Stamps.{AreApart}

-- the second of a list, or nought
abbrev second : List ℕ → ℕ
second [] = 0
second (one ∷ []) = 0
second (one ∷ other ∷ more) = other

-- labels that end with different letters make different ids
pub letters_apart : (session one other : List ℕ) → one ≡ session ++ 95 ∷ 115 ∷ [] → other ≡ session ++ 95 ∷ 99 ∷ []
    → AreApart one other
letters_apart session one other by_one by_other i j same =
    let plain : session ++ (95 ∷ 115 ∷ decimal i) ≡ session ++ (95 ∷ 99 ∷ decimal j) =
    sym (append_assoc session (95 ∷ 115 ∷ []) (decimal i)) ∙ ap (λ (l : List ℕ). l ++ decimal i) (sym by_one) ∙ same
    ∙ ap (λ (l : List ℕ). l ++ decimal j) by_other ∙ append_assoc session (95 ∷ 99 ∷ []) (decimal j) in
    let letters : 115 ≡ 99 =
    ap second (append_cancel_left session (95 ∷ 115 ∷ decimal i) (95 ∷ 99 ∷ decimal j) plain) in
    absurd (omega (arith, letters))
