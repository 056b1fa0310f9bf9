-- That the ids of two stamps differ.
use Rattle.std.specs.Prelude.{◌≡◌, ◌++◌, ℕ, List, decimal}

-- no id that is made with one label is the same as one that is made with the other
abbrev pub AreApart : List ℕ → List ℕ → Type 0
AreApart one other = (i j : ℕ) → ¬ (one ++ decimal i ≡ other ++ decimal j)
