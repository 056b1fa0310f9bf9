-- The entries of the queue, and what lists of them tell of one publisher.
use Rattle.std.specs.Prelude.{◌≡◌, ℕ, ◌<◌, ⊤, Option, Some, None, List, [], ◌∷◌, ◌++◌, ◌⊎◌, length, map, filter, ◌==◌}
use Rattle.std.specs.Prelude.{nat_lt, if◌then◌else◌}

-- An entry is a publisher's number and an item, or the number and `None`, which is that publisher's close.
abbrev pub Entry : Type 0 → Type 0
Entry T = ℕ × Option T

module _ {A : Type 0} where
  -- the second list is a beginning of the first, the empty one and the whole among them
  abbrev pub StartsWith : List A → List A → Type 0
  StartsWith all front = (rest : List A) × (all ≡ front ++ rest)

  -- two lists agree: one of them is a beginning of the other
  abbrev pub Agree : List A → List A → Type 0
  Agree one other = StartsWith one other ⊎ StartsWith other one

  -- the longer of two lists, or the first if they are of the same length
  abbrev pub longer : List A → List A → List A
  longer one other = if nat_lt (length one) (length other) then other else one

module _ {T : Type 0} where
  -- the part of a number in a list of entries: what stands in the entries of that number, in their order
  abbrev pub part_of : ℕ → List (Entry T) → List (Option T)
  part_of number entries = map (λ entry. entry.1) (filter (λ entry. entry.0 == number) entries)

  -- no close stands in a part
  abbrev pub HasNoClose : List (Option T) → Type 0
  HasNoClose [] = ⊤
  HasNoClose (None ∷ rest) = ⊥
  HasNoClose (Some item ∷ rest) = HasNoClose rest

  -- a close stands in a part at most once, and last
  abbrev pub CloseIsLast : List (Option T) → Type 0
  CloseIsLast [] = ⊤
  CloseIsLast (None ∷ rest) = rest ≡ []
  CloseIsLast (Some item ∷ rest) = CloseIsLast rest

  -- a part ends with a close
  abbrev pub EndsWithClose : List (Option T) → Type 0
  EndsWithClose part = (front : List (Option T)) × (part ≡ front ++ None ∷ [])

  -- entries are complete if the part of each number below n ends with a close
  abbrev pub IsComplete : ℕ → List (Entry T) → Type 0
  IsComplete n entries = (number : ℕ) → number < n → EndsWithClose (part_of number entries)

  -- an entry is the last of a list, and a front is a beginning of what stands before it
  abbrev pub StandsBehind : List (Entry T) → Entry T → List (Entry T) → Type 0
  StandsBehind entries entry front =
      (before : List (Entry T)) × (entries ≡ before ++ entry ∷ []) × StartsWith before front
