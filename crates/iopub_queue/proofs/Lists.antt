-- Beginnings of lists.
use Rattle.std.proofs.Common.{◌≡◌, ◌<◌, ◌≤◌, List, [], ◌∷◌, ◌++◌, ◌⊎◌, inl, inr, ⊎_elim, length, refl, sym, ap, ◌∙◌}
use Rattle.std.proofs.Common.{subst, append_assoc}
use Rattle.std.proofs.Common.{arith, length-append}
use Rattle.std.specs.Prelude.{nat_lt}
use Rattle.std.proofs.lemmas.List.{append-nil}
use Rattle.std.proofs.lemmas.Bool.{cond_both, ltb-true, ltb-false}
use Rattle.iopub_queue.specs.Entries.{StartsWith, Agree, longer}

module _ {A : Type 0} where
  -- a list begins with itself
  pub starts_itself : (all : List A) → StartsWith all all
  starts_itself all = ([], sym (append-nil all))

  -- a beginning of a beginning is one
  pub starts_on : (all front head : List A) → StartsWith all front → StartsWith front head → StartsWith all head
  starts_on all front head (rest, is) (more, of_front) =
      (more ++ rest, is ∙ ap (λ l. l ++ rest) of_front ∙ append_assoc head more rest)

  -- what is longer by more begins as before
  pub starts_longer : (all more front : List A) → StartsWith all front → StartsWith (all ++ more) front
  starts_longer all more front (rest, is) = (rest ++ more, ap (λ l. l ++ more) is ∙ append_assoc front rest more)

  -- the same where the more stands behind a second part
  pub starts_more : (one two more front : List A) → StartsWith (one ++ two) front
      → StartsWith (one ++ (two ++ more)) front
  starts_more one two more front starts =
      subst (λ l. StartsWith l front) (append_assoc one two more) (starts_longer (one ++ two) more front starts)

  fronts_agree : (one other rest others : List A) → one ++ rest ≡ other ++ others → Agree one other
  fronts_agree [] other rest others is = inr (other, refl)
  fronts_agree (x ∷ one) [] rest others is = inl (x ∷ one, refl)
  fronts_agree (x ∷ one) (y ∷ other) rest others is =
      let same : x ≡ y = cc in let tails : one ++ rest ≡ other ++ others = cc in
      ⊎_elim (λ (longer_one : StartsWith one other). inl (longer_one.0, λ k. same k ∷ longer_one.1 k))
      (λ (longer_other : StartsWith other one). inr (longer_other.0, λ k. sym same k ∷ longer_other.1 k))
      (fronts_agree one other rest others tails)

  -- of two beginnings of one list, one is a beginning of the other
  pub beginnings_agree : (all one other : List A) → StartsWith all one → StartsWith all other → Agree one other
  beginnings_agree all one other (rest, is) (others, is_too) = fronts_agree one other rest others (sym is ∙ is_too)

  -- what holds of both lists holds of the longer
  pub longer_has : (P : List A → Type 0) (one other : List A) → P one → P other → P (longer one other)
  longer_has P one other of_one of_other =
      cond_both (nat_lt (length one) (length other)) other one P (λ _. of_other) (λ _. of_one)

  too_long : (front rest : List A) → length (front ++ rest) ≤ length front → rest ≡ []
  too_long front [] le = refl
  too_long front (x ∷ rest) le = absurd (omega (arith, length-append front (x ∷ rest)))

  no_longer : (one other : List A) → StartsWith other one → length other ≤ length one → one ≡ other
  no_longer one other (rest, is) le =
      let none : rest ≡ [] = too_long one rest (rw is at le) in sym (is ∙ ap (λ l. one ++ l) none ∙ append-nil one)

  -- the longer of two lists that agree begins with the first
  pub longer_starts : (one other : List A) → Agree one other → StartsWith (longer one other) one
  longer_starts one other agree = cond_both (nat_lt (length one) (length other)) other one (λ l. StartsWith l one)
      (λ is. let below : length one < length other = ltb-true _ _ is in ⊎_elim
      (λ (of_one : StartsWith one other). let is_one : one ≡ other ++ of_one.0 = of_one.1 in
      absurd (omega (arith, ap length is_one, length-append other of_one.0)))
      (λ (of_other : StartsWith other one). of_other) agree)
      (λ _. starts_itself one)

  -- and with the second
  pub longer_starts_too : (one other : List A) → Agree one other → StartsWith (longer one other) other
  longer_starts_too one other agree = cond_both (nat_lt (length one) (length other)) other one (λ l. StartsWith l other)
      (λ _. starts_itself other)
      (λ is. let above : length other ≤ length one = ltb-false _ _ is in ⊎_elim
      (λ (of_one : StartsWith one other). of_one)
      (λ (of_other : StartsWith other one). subst (λ l. StartsWith one l) (no_longer one other of_other above)
      (starts_itself one))
      agree)

  -- agreement goes both ways
  pub agree_back : (one other : List A) → Agree one other → Agree other one
  agree_back one other = ⊎_elim (λ of_one. inr of_one) (λ of_other. inl of_other)

  -- what agrees with a list agrees with a beginning of it
  pub agree_front : (whole told other : List A) → Agree whole other → StartsWith whole told → Agree told other
  agree_front whole told other agree starts = ⊎_elim
      (λ (of_whole : StartsWith whole other). beginnings_agree whole told other starts of_whole)
      (λ (of_other : StartsWith other whole). inr (starts_on other whole told of_other starts))
      agree

  nothing_last : (front rest : List A) → front ++ rest ≡ [] → rest ≡ []
  nothing_last [] rest is = is
  nothing_last (x ∷ front) rest is = cc

  -- the end of a list is empty, or has its last element
  pub last_of : (front rest before : List A) (x : A) → front ++ rest ≡ before ++ x ∷ []
      → (rest ≡ []) ⊎ ((r : List A) × (rest ≡ r ++ x ∷ []))
  last_of [] rest before x is = inr (before, is)
  last_of (y ∷ front) rest [] x is = let none : front ++ rest ≡ [] = cc in inl (nothing_last front rest none)
  last_of (y ∷ front) rest (z ∷ before) x is = let tails : front ++ rest ≡ before ++ x ∷ [] = cc in
      last_of front rest before x tails
