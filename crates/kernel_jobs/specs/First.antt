-- The first message of a list.
use Rattle.std.specs.Prelude.{ℕ, List, [], ◌∷◌}

-- the first message of a list, or no frames if the list is empty
abbrev pub first_of : List (List (List ℕ)) → List (List ℕ)
first_of [] = []
first_of (message ∷ messages) = message
