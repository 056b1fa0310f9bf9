-- Parts of lists of entries, and where a close stands in them.
use Rattle.std.proofs.Common.{◌≡◌, ◌≢◌, ℕ, Bool, true, false, List, [], ◌∷◌, ◌++◌, map, refl, ap, ◌∙◌, subst}
use Rattle.std.proofs.Common.{append_assoc}
use Rattle.std.proofs.Common.{eq-eqb, ne_eqb}
use Rattle.std.specs.Prelude.{Option, Some, None, filter, ◌==◌, if◌then◌else◌, cond}
use Rattle.std.proofs.lemmas.List.{append-nil, map-append}
use Rattle.std.proofs.lemmas.List.Elements.{filter-append}
use Rattle.iopub_queue.specs.Entries.{Entry, part_of, HasNoClose, CloseIsLast, EndsWithClose}
use Rattle.iopub_queue.specs.Lawful.{grown}

module _ {T : Type 0} where
  -- the part of two lists, one behind the other
  pub of_append : (number : ℕ) (xs ys : List (Entry T)) → part_of number (xs ++ ys)
      ≡ part_of number xs ++ part_of number ys
  of_append number xs ys =
      ap (map (λ (entry : Entry T). entry.1)) (filter-append (λ (entry : Entry T). entry.0 == number) xs ys)
      ∙ map-append (λ (entry : Entry T). entry.1) (filter (λ (entry : Entry T). entry.0 == number) xs)
      (filter (λ (entry : Entry T). entry.0 == number) ys)

  -- an entry of the number begins its part
  pub of_own : (number : ℕ) (part : Option T) (rest : List (Entry T))
      → part_of number ((number, part) ∷ rest) ≡ part ∷ part_of number rest
  of_own number part rest = rw (eq-eqb number number refl) refl

  -- an entry of another number isn't in the part
  pub of_other : (number other : ℕ) (part : Option T) (rest : List (Entry T)) → other ≢ number
      → part_of number ((other, part) ∷ rest) ≡ part_of number rest
  of_other number other part rest apart = rw (ne_eqb other number apart) refl

  put_last : (is : Bool) (entry : Entry T) (xs : List (Option T))
      → xs ++ map (λ (e : Entry T). e.1) (cond is (entry ∷ []) []) ≡ (if is then xs ++ entry.1 ∷ [] else xs)
  put_last true entry xs = refl
  put_last false entry xs = append-nil xs

  -- with one more entry, the part of its number has one more
  pub of_more : (entries : List (Entry T)) (entry : Entry T) (number : ℕ)
      → part_of number (entries ++ entry ∷ []) ≡ grown (λ other. part_of other entries) entry.0 entry.1 number
  of_more entries entry number =
      of_append number entries (entry ∷ []) ∙ put_last (entry.0 == number) entry (part_of number entries)

  -- one more of a number's own
  pub grown_own : (parts : ℕ → List (Option T)) (number : ℕ) (part : Option T)
      → grown parts number part number ≡ parts number ++ part ∷ []
  grown_own parts number part = rw (eq-eqb number number refl) refl

  -- one more of another number
  pub grown_other : (parts : ℕ → List (Option T)) (number : ℕ) (part : Option T) (other : ℕ) → number ≢ other
      → grown parts number part other ≡ parts other
  grown_other parts number part other apart = rw (ne_eqb number other apart) refl

  -- a part without a close is one in which a close is last
  pub open_is_last : (part : List (Option T)) → HasNoClose part → CloseIsLast part
  open_is_last [] free = tt
  open_is_last (None ∷ rest) free = absurd free
  open_is_last (Some item ∷ rest) free = open_is_last rest free

  -- an item behind a part without a close
  pub item_keeps_open : (part : List (Option T)) (item : T) → HasNoClose part → HasNoClose (part ++ Some item ∷ [])
  item_keeps_open [] item free = tt
  item_keeps_open (None ∷ rest) item free = absurd free
  item_keeps_open (Some first ∷ rest) item free = item_keeps_open rest item free

  -- whatever comes behind a part without a close, a close is last
  pub one_more_is_last : (part : List (Option T)) (last : Option T) → HasNoClose part → CloseIsLast (part ++ last ∷ [])
  one_more_is_last [] None free = refl
  one_more_is_last [] (Some item) free = tt
  one_more_is_last (None ∷ rest) last free = absurd free
  one_more_is_last (Some item ∷ rest) last free = one_more_is_last rest last free

  -- what stands in front of something has no close
  pub front_is_open : (front : List (Option T)) (next : Option T) (behind : List (Option T))
      → CloseIsLast (front ++ next ∷ behind) → HasNoClose front
  front_is_open [] next behind last = tt
  front_is_open (None ∷ front) next behind last = nothing front next behind last where
    nothing : (front : List (Option T)) (next : Option T) (behind : List (Option T)) → front ++ next ∷ behind ≡ [] → ⊥
    nothing [] next behind is = cc
    nothing (x ∷ front) next behind is = cc
  front_is_open (Some item ∷ front) next behind last = front_is_open front next behind last

  -- what is in front of nothing is nothing
  pub empty_front : (front behind : List (Option T)) → front ++ behind ≡ [] → front ≡ []
  empty_front [] behind is = refl
  empty_front (x ∷ front) behind is = cc

  -- in a beginning a close is last, too
  pub front_is_last : (front behind : List (Option T)) → CloseIsLast (front ++ behind) → CloseIsLast front
  front_is_last [] behind last = tt
  front_is_last (None ∷ front) behind last = empty_front front behind last
  front_is_last (Some item ∷ front) behind last = front_is_last front behind last

  -- behind a close comes nothing
  pub nothing_behind : (part behind : List (Option T)) → CloseIsLast (part ++ behind) → EndsWithClose part → behind ≡ []
  nothing_behind part behind last (front, is) =
      behind_close front behind
      (subst CloseIsLast (ap (λ l. l ++ behind) is ∙ append_assoc front (None ∷ []) behind) last) where
        behind_close : (front behind : List (Option T)) → CloseIsLast (front ++ None ∷ behind) → behind ≡ []
        behind_close [] behind last = last
        behind_close (None ∷ front) behind last = absurd (not_empty front behind last) where
          not_empty : (front behind : List (Option T)) → front ++ None ∷ behind ≡ [] → ⊥
          not_empty [] behind is = cc
          not_empty (x ∷ front) behind is = cc
        behind_close (Some item ∷ front) behind last = behind_close front behind last

  -- a part that ends with a close has one
  pub closed_is_not_open : (part : List (Option T)) → EndsWithClose part → HasNoClose part → ⊥
  closed_is_not_open part (front, is) free = has_one front (subst HasNoClose is free) where
    has_one : (front : List (Option T)) → HasNoClose (front ++ None ∷ []) → ⊥
    has_one [] free = free
    has_one (None ∷ front) free = free
    has_one (Some item ∷ front) free = has_one front free
