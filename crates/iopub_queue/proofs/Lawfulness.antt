-- Events that are allowed keep a state lawful.
use Rattle.std.proofs.Common.{◌≡◌, ◌≢◌, ℕ, ◌<◌, List, [], ◌∷◌, ◌++◌, take, drop, refl, sym, ap, ◌∙◌, subst}
use Rattle.std.proofs.Common.{append_assoc}
use Rattle.std.proofs.Common.{arith}
use Rattle.std.specs.Prelude.{Option, Some, None, ◌==◌}
use Rattle.std.proofs.lemmas.List.{take-append-drop}
use Rattle.std.proofs.lemmas.Bool.{cond_both, eqb-true}
use Rattle.iopub_queue.specs.declared.plain_core.CoreEvent.{CoreEvent}
use Rattle.iopub_queue.specs.declared.plain_core.CoreEvent.TheVariants.{Publish, Close, Take}
use Rattle.iopub_queue.specs.Entries.{Entry, part_of, HasNoClose, CloseIsLast}
use Rattle.iopub_queue.specs.Lawful.{Lists, Lawful, history, start, grown, entered, happened, IsOpen, IsAllowed, after}
use Rattle.iopub_queue.specs.Lawful.{AreAllowed}
use Rattle.iopub_queue.proofs.Parts.{of_more, grown_other, one_more_is_last}

module _ {T : Type 0} where
  -- lists are lawful by what is published and by the history alone
  pub lawful_by : (n : ℕ) (old new : Lists T) → history old ≡ history new → old.published ≡ new.published → Lawful n old
      → Lawful n new
  lawful_by n old new same published lawful = record {
    parts = λ number below. ap (part_of number) (sym same) ∙ lawful.parts number below
        ∙ ap (λ (p : ℕ → List (Option T)). p number) published;
    closes = λ number below. subst (λ (p : ℕ → List (Option T)). CloseIsLast (p number)) published
        (lawful.closes number below);
    others = λ number above. ap (part_of number) (sym same) ∙ lawful.others number above;
  }

  -- an entry of a number that may publish
  pub lawful_entered : (n : ℕ) (state : Lists T) (entry : Entry T) → Lawful n state → IsOpen n state entry.0
      → Lawful n (entered state entry)
  lawful_entered n state entry lawful free =
      let regroup : state.taken ++ (state.waiting ++ entry ∷ []) ≡ history state ++ entry ∷ [] =
      sym (append_assoc state.taken state.waiting (entry ∷ [])) in
      let same_part : (number : ℕ) → part_of number (history (entered state entry))
      ≡ grown (λ other. part_of other (history state)) entry.0 entry.1 number =
      λ number. ap (part_of number) regroup ∙ of_more (history state) entry number in
      record {
        parts = λ number below. same_part number ∙ same_grown entry.0 entry.1 number (lawful.parts number below);
        closes = λ number below. cond_both (entry.0 == number) (state.published number ++ entry.1 ∷ [])
            (state.published number) CloseIsLast
            (λ is. one_more_is_last (state.published number) entry.1
            (subst (λ other. HasNoClose (state.published other)) (eqb-true entry.0 number is) free.open_list))
            (λ _. lawful.closes number below);
        others = λ number above. let known : entry.0 < n = free.known in
            let apart : entry.0 ≢ number = λ is. omega arith in
            same_part number ∙ grown_other (λ other. part_of other (history state)) entry.0 entry.1 number apart
            ∙ lawful.others number above;
      }
    where
      same_grown : (number : ℕ) (part : Option T) (other : ℕ) → part_of other (history state) ≡ state.published other
          → grown (λ at. part_of at (history state)) number part other ≡ grown state.published number part other
      same_grown number part other is = ap (λ (l : List (Option T)). grown (λ at. l) number part other) is

  -- a take
  pub lawful_take : (n : ℕ) (state : Lists T) → Lawful n state → Lawful n (happened state Take)
  lawful_take n state lawful = lawful_by n state (happened state Take)
      (ap (λ l. state.taken ++ l) (sym (take-append-drop 1 state.waiting))
      ∙ sym (append_assoc state.taken (take 1 state.waiting) (drop 1 state.waiting)))
      refl lawful

  -- any event that is allowed
  pub lawful_stays : (n : ℕ) (state : Lists T) (event : CoreEvent T) → Lawful n state → IsAllowed n state event
      → Lawful n (happened state event)
  lawful_stays n state (Publish number item) lawful free = lawful_entered n state (number, Some item) lawful free
  lawful_stays n state (Close number) lawful free = lawful_entered n state (number, None) lawful free
  lawful_stays n state Take lawful free = lawful_take n state lawful

  -- the empty lists are lawful
  pub lawful_start : (n : ℕ) → Lawful {T = T} n start
  lawful_start n = record { parts = λ _ _. refl; closes = λ _ _. tt; others = λ _ _. refl }

  -- one more event
  pub after_more : (state : Lists T) (events : List (CoreEvent T)) (event : CoreEvent T)
      → after state (events ++ event ∷ []) ≡ happened (after state events) event
  after_more state [] event = refl
  after_more state (first ∷ events) event = after_more (happened state first) events event

  -- one more that is allowed
  pub allowed_more : (n : ℕ) (state : Lists T) (events : List (CoreEvent T)) (event : CoreEvent T)
      → AreAllowed n state events → IsAllowed n (after state events) event → AreAllowed n state (events ++ event ∷ [])
  allowed_more n state [] event allowed last = (last, tt)
  allowed_more n state (first ∷ events) event allowed last =
      (allowed.0, allowed_more n (happened state first) events event allowed.1 last)
