-- What is taken in the end, where all publishers have closed.
use Rattle.std.proofs.Common.{◌≡◌, ◌↔◌, inl, inr, ℕ, ◌+◌, ◌<◌, Bool, true, false, ◌&&◌, List, [], ◌∷◌, ◌++◌, IsTrue}
use Rattle.std.proofs.Common.{Option, refl, sym, ap, subst, ◌∙◌, append_assoc, take, length, get_or, true≢false}
use Rattle.std.proofs.lemmas.List.Elements.{All-more, All-from_recursion, recursion_from_All}
use Rattle.std.specs.List.{AllByRecursion}
use Rattle.std.proofs.lemmas.List.{append-nil}
use Rattle.iopub_queue.specs.Entries.{Entry, StartsWith, part_of, CloseIsLast, EndsWithClose, IsComplete}
use Rattle.iopub_queue.specs.Values.{Publishing, Taking}
use Rattle.iopub_queue.proofs.Lists.{starts_on}
use Rattle.iopub_queue.proofs.Parts.{of_append, nothing_behind}
use Rattle.iopub_relay.specs.Relay.{Meets, AreWhole, HasNumber, AreAllClosed, TakesMore, EndsAll, TokenIsTold}

module _ {T : Type 0} where
  -- the part of a publisher that closed is taken whole, once all that it was told of was taken
  told_ends : (taken told : List (Entry T)) (closed : Publishing T) → TokenIsTold told closed
      → EndsWithClose closed.published → StartsWith taken told → CloseIsLast (part_of closed.number taken)
      → EndsWithClose (part_of closed.number taken)
  told_ends taken told closed (starts, own) ends all last =
      let (rest, whole) = starts_on taken told closed.told all starts in
      let parted : part_of closed.number taken ≡ closed.published ++ part_of closed.number rest =
      ap (part_of closed.number) whole ∙ of_append closed.number closed.told rest
      ∙ ap (λ (front : List (Option T)). front ++ part_of closed.number rest) own in
      let nothing = nothing_behind closed.published (part_of closed.number rest) (subst CloseIsLast parted last) ends in
      subst EndsWithClose (sym (parted ∙ ap (λ (behind : List (Option T)). closed.published ++ behind) nothing
      ∙ append-nil closed.published)) ends

  one_ends : (taken told : List (Entry T)) (number : ℕ) (tokens : List (Publishing T)) → HasNumber number tokens
      → AllByRecursion (TokenIsTold told) tokens → AllByRecursion (λ closed. EndsWithClose closed.published) tokens
      → StartsWith taken told → ((number : ℕ) → CloseIsLast (part_of number taken))
      → EndsWithClose (part_of number taken)
  one_ends taken told number [] has toldof ends all last = absurd has
  one_ends taken told number (closed ∷ tokens) (inl is) toldof ends all last =
      subst (λ (n : ℕ). EndsWithClose (part_of n taken)) is
      (told_ends taken told closed toldof.0 ends.0 all (last closed.number))
  one_ends taken told number (closed ∷ tokens) (inr has) toldof ends all last =
      one_ends taken told number tokens has toldof.1 ends.1 all last

  -- all is complete then
  ends_complete : (taker : Taking T) (tokens : List (Publishing T)) → AreAllClosed taker.count tokens
      → AllByRecursion (TokenIsTold taker.told) tokens → StartsWith taker.taken taker.told
      → ((number : ℕ) → CloseIsLast (part_of number taker.taken)) → IsComplete taker.count taker.taken
  ends_complete taker tokens all_closed toldof all last number below =
      one_ends taker.taken taker.told number tokens (all_closed.each number below) toldof all_closed.closed all last

  -- so the drain says so
  pub says_complete : (complete : Bool) (taker : Taking T) (tokens : List (Publishing T)) → EndsAll complete taker
      → AreAllClosed taker.count tokens → AllByRecursion (TokenIsTold taker.told) tokens
      → ((number : ℕ) → CloseIsLast (part_of number taker.taken)) → complete ≡ true
  says_complete true taker tokens ends all_closed toldof last = refl
  says_complete false taker tokens ends all_closed toldof last =
      absurd (ends.1 (ends_complete taker tokens all_closed toldof ends.0 last))

  -- where all is complete, each that was met is whole
  pub complete_whole : (taker : Taking T) (tokens : List (Publishing T)) → IsComplete taker.count taker.taken
      → AllByRecursion (Meets taker) tokens → AreWhole taker tokens
  complete_whole taker [] complete meets = tt
  complete_whole taker (closed ∷ tokens) complete meets =
      (complete closed.number meets.0.1.known, complete_whole taker tokens complete meets.1)

  -- what both marks say together
  pub both_say : (complete whole : Bool) (taker : Taking T) (tokens : List (Publishing T)) → EndsAll complete taker
      → (IsTrue whole ↔ AreWhole taker tokens) → AllByRecursion (Meets taker) tokens
      → IsTrue (complete && whole) ↔ IsComplete taker.count taker.taken
  both_say true whole taker tokens ends decided meets =
      (λ yes. ends, λ complete. decided.1 (complete_whole taker tokens complete meets))
  both_say false whole taker tokens ends decided meets =
      (λ yes. absurd (true≢false (sym yes)), λ complete. absurd (ends.1 complete))

  -- a longer list tells what a shorter one did
  pub tells_still : (told more : List (Entry T)) (tokens : List (Publishing T)) → StartsWith more told
      → AllByRecursion (TokenIsTold told) tokens → AllByRecursion (TokenIsTold more) tokens
  tells_still told more [] starts all = tt
  tells_still told more (closed ∷ tokens) starts all =
      ((starts_on more told closed.told starts all.0.0, all.0.1), tells_still told more tokens starts all.1)

  -- nothing was taken yet
  pub takes_none : (taker : Taking T) → TakesMore taker taker
  takes_none taker = (
    [],
    ap (λ (entries : List (Entry T)). record taker { taken = entries })
        (sym (append-nil taker.taken)),
  )

  -- more was taken twice
  pub takes_on : (old middle new : Taking T) → TakesMore old middle → TakesMore middle new → TakesMore old new
  takes_on old middle new (first, one) (second, other) = (
    first ++ second,
    other
        ∙ ap (λ (taker : Taking T). record taker { taken = taker.taken ++ second }) one
        ∙ ap (λ (entries : List (Entry T)). record old { taken = entries }) (append_assoc old.taken first second),
  )

  -- what all tokens were told of is told of with one more
  pub tells_next : (told : List (Entry T)) (tokens : List (Publishing T)) (place : ℕ) (closed : Publishing T)
      → place < length tokens → closed ≡ get_or tokens place closed → TokenIsTold told closed
      → AllByRecursion (TokenIsTold told) (take place tokens)
      → AllByRecursion (TokenIsTold told) (take (place + 1) tokens)
  tells_next told tokens place closed within is one all =
      recursion_from_All (TokenIsTold told) (take (place + 1) tokens)
      (All-more (TokenIsTold told) tokens place closed within
      (All-from_recursion (TokenIsTold told) (take place tokens) all)
      (subst (TokenIsTold told) is one))

  -- where all have closed, both marks say so
  pub closed_say : (complete whole : Bool) (opened learnt drained : Taking T) (tokens : List (Publishing T))
      → learnt.count ≡ opened.count → TakesMore learnt drained → EndsAll complete drained
      → AllByRecursion (TokenIsTold learnt.told) tokens → ((number : ℕ) → CloseIsLast (part_of number drained.taken))
      → (IsTrue whole ↔ AreWhole drained tokens) → AllByRecursion (Meets drained) tokens
      → AreAllClosed opened.count tokens → IsTrue (complete && whole)
  closed_say complete whole opened learnt drained tokens count (entries, more) ends toldof last decided meets closed =
      let says = says_complete complete drained tokens ends
      (subst (λ (n : ℕ). AreAllClosed n tokens)
      (sym (ap (λ (taker : Taking T). taker.count) more ∙ count)) closed)
      (subst (λ (told : List (Entry T)). AllByRecursion (TokenIsTold told) tokens)
      (sym (ap (λ (taker : Taking T). taker.told) more)) toldof) last in
      (both_say complete whole drained tokens ends decided meets).1
      (subst (λ (b : Bool). EndsAll b drained) says ends)
