-- What stands before an entry where it was published stands before it where it is taken.
use Rattle.std.proofs.Common.{◌≡◌, ◌+◌, List, [], ◌∷◌, ◌++◌, length, sym, ap, ◌∙◌, ⊎_elim, append_assoc}
use Rattle.std.proofs.Common.{arith, length-append}
use Rattle.std.proofs.lemmas.List.{append-nil}
use Rattle.iopub_queue.specs.Entries.{Entry, StartsWith, part_of}
use Rattle.iopub_queue.specs.Laws.{OrderIsKept}
use Rattle.iopub_queue.proofs.Lists.{agree_front, last_of}
use Rattle.iopub_queue.proofs.Parts.{of_append, of_own}

module _ {T : Type 0} where
  -- an entry has a place in the part of its number
  longer_part : (entries : List (Entry T)) (entry : Entry T)
      → length (part_of entry.0 (entries ++ entry ∷ [])) ≡ length (part_of entry.0 entries) + 1
  longer_part entries entry =
      ap length
      (of_append entry.0 entries (entry ∷ []) ∙ ap (λ l. part_of entry.0 entries ++ l) (of_own entry.0 entry.1 []))
      ∙ length-append (part_of entry.0 entries) (entry.1 ∷ [])

  pub keeps_order : OrderIsKept T
  keeps_order whole told taken front entry agree starts (before, is, fronts) enough = ⊎_elim
      (λ (shorter : StartsWith told taken). ⊎_elim
      (λ (none : shorter.0 ≡ []). record {
        before = before;
        behind = [];
        whole = sym (append-nil taken) ∙ ap (λ l. taken ++ l) (sym none) ∙ sym shorter.1 ∙ is;
        starts = fronts;
      })
      (λ (last : (r : List (Entry T)) × (shorter.0 ≡ r ++ entry ∷ [])).
      let parts : part_of entry.0 told ≡ part_of entry.0 taken ++ part_of entry.0 (last.0 ++ entry ∷ []) =
      ap (part_of entry.0) (shorter.1 ∙ ap (λ l. taken ++ l) last.1) ∙ of_append entry.0 taken (last.0 ++ entry ∷ []) in
      let long : length (part_of entry.0 told)
      ≡ length (part_of entry.0 taken) + length (part_of entry.0 (last.0 ++ entry ∷ [])) =
      ap length parts ∙ length-append (part_of entry.0 taken) (part_of entry.0 (last.0 ++ entry ∷ [])) in
      absurd (omega (arith, longer_part last.0 entry)))
      (last_of taken shorter.0 before entry (sym shorter.1 ∙ is)))
      (λ (further : StartsWith taken told). record {
        before = before;
        behind = further.0;
        whole = further.1 ∙ ap (λ l. l ++ further.0) is ∙ append_assoc before (entry ∷ []) further.0;
        starts = fronts;
      })
      (agree_front whole told taken agree starts)
