-- Words that are handed over in a queue of their own, for the tests: the rule that all are of one queue stays.
use Rattle.std.proofs.Common.{◌≡◌, ℕ, zero, suc, ◌⊎◌, List, [], ◌∷◌, ◌++◌, set, refl, sym, ◌∙◌, subst, ⊎_elim}
use Rattle.std.proofs.Common.{inl, inr, arith}
use Rattle.std.specs.Prelude.{Option, Some, None, All, MatchOption, IfSome, IsSomeAnd}
use Rattle.std.proofs.lemmas.List.Elements.{All-append, All-tail}
use mathlib.Core.Option.{some, some-injective, some-ne-none}
use lib.ListN.{get_elem?}
use Rattle.atomic_table.specs.Seated.{TableId}
use Rattle.crossbeam_queue.specs.Fifo.{Pushes, Pops, Forks}
use Rattle.iopub_queue.specs.Values.{Told}
use Rattle.iopub_queue.proofs.Seats.{Each, each_set, each_more}

module _ {H W Q : Type 0} (of_handed : H → Q) (of_word : W → Q) where
  -- a pass knows a word of the queue
  abbrev pub IsKnown : Q → Option W → Type 0
  IsKnown queue known = IsSomeAnd known (λ word. of_word word ≡ queue)

  -- all that waits is of the queue, and each pass knows that
  abbrev pub AreOf : Q → List H → List (Option W) → Type 0
  AreOf queue handed known = All (λ one. of_handed one ≡ queue) handed × Each (λ pass word. IsKnown queue word) known

  -- at first nothing waits, and the one pass knows no word; then all are of one queue
  abbrev pub AreOfOne : List H → List (Option W) → Type 0
  AreOfOne handed known = ((handed ≡ []) × (known ≡ None ∷ [])) ⊎ ((queue : Q) × AreOf queue handed known)

  -- at first
  pub begins : AreOfOne [] (None ∷ [])
  begins = inl (refl, refl)

  all_one : (P : H → Type 0) (one : H) → P one → All P (one ∷ [])
  all_one P one holds zero d within = holds
  all_one P one holds (suc k) d within = absurd (omega arith)

  -- at first there is one pass, which knows nothing
  only : (known : List (Option W)) → known ≡ None ∷ [] → (pass : ℕ) (word : Option W) → get_elem? known pass ≡ some word
      → (pass ≡ 0) × (word ≡ None)
  only known is zero word at =
      (refl, sym (some-injective None word (subst (λ l. get_elem? l 0 ≡ some word) is at)))
  only known is (suc pass) word at =
      absurd (some-ne-none word (sym (subst (λ l. get_elem? l (suc pass) ≡ some word) is at)))

  -- a pass that knows a word isn't the first alone
  not_at_first : (known : List (Option W)) (pass : ℕ) (word : W) → get_elem? known pass ≡ some (Some word)
      → known ≡ None ∷ [] → ⊥
  not_at_first known pass word at is = let both : Some word ≡ None = (only known is pass (Some word) at).1 in cc

  names_first : (capacity pass : ℕ) (first : H) (word : W) → of_word word ≡ of_handed first
      → Pushes AreOfOne capacity pass None first (λ new. new ≡ Some word)
  names_first capacity pass first word same handed known short kept at = (Some word, named kept, refl)
    where
      named : AreOfOne handed known → AreOfOne (handed ++ first ∷ []) (set known pass (Some word))
      named kept = ⊎_elim
          (λ (none : (handed ≡ []) × (known ≡ None ∷ [])). inr (
            of_handed first,
            (
              subst (λ l. All (λ one. of_handed one ≡ of_handed first) (l ++ first ∷ [])) (sym none.0)
                  (all_one (λ one. of_handed one ≡ of_handed first) first refl),
              each_set (λ at_pass v. IsKnown (of_handed first) v) known pass (Some word) same
                  (λ other v apart there. absurd (apart ((only known none.1 other v there).0
                  ∙ sym (only known none.1 pass None at).0))),
            ),
          ))
          (λ (named : (queue : Q) × AreOf queue handed known). absurd (named.1.1 pass None at))
          kept

  -- the first word names the queue
  pub names : (capacity pass : ℕ) (v : Option W) (first : H) (word : W) → v ≡ None → of_word word ≡ of_handed first
      → Pushes AreOfOne capacity pass v first (λ new. new ≡ Some word)
  names capacity pass v first word is same = subst
      (λ knows. Pushes AreOfOne capacity pass knows first (λ new. new ≡ Some word))
      (sym is) (names_first capacity pass first word same)

  -- then a pass knows it
  pub known_by : (v : Option W) (queue : Q) (word : W) → v ≡ Some word → of_word word ≡ queue → IsKnown queue v
  known_by v queue word is same = subst (IsKnown queue) (sym is) same

  -- a further word
  pub hands : (capacity pass : ℕ) (v : Option W) (one : H) → IsSomeAnd v (λ word. of_handed one ≡ of_word word)
      → Pushes AreOfOne capacity pass v one (λ new. new ≡ v)
  hands capacity pass None one same handed known short kept at = absurd same
  hands capacity pass (Some word) one same handed known short kept at = (Some word, more kept, refl)
    where
      more : AreOfOne handed known → AreOfOne (handed ++ one ∷ []) (set known pass (Some word))
      more kept = ⊎_elim
          (λ (none : (handed ≡ []) × (known ≡ None ∷ [])). absurd (not_at_first known pass word at none.1))
          (λ (named : (queue : Q) × AreOf queue handed known). inr (
            named.0,
            (
              All-append (λ h. of_handed h ≡ named.0) handed (one ∷ []) named.1.0
                  (all_one (λ h. of_handed h ≡ named.0) one (same ∙ named.1.1 pass (Some word) at)),
              each_set (λ at_pass v. IsKnown named.0 v) known pass (Some word) (named.1.1 pass (Some word) at)
                  (λ other v apart there. named.1.1 other v there),
            ),
          ))
          kept

  -- what a pop tells: the word is of the queue that the pass knows
  abbrev pub Heard : Option W → H → Option W → Type 0
  Heard v one new = (new ≡ v) × IsSomeAnd v (λ word. of_handed one ≡ of_word word)

  -- a word is heard
  pub hears : (pass : ℕ) (queue : Q) (v : Option W) → IsKnown queue v → Pops AreOfOne pass v (Heard v)
  hears pass queue None known_word one handed known kept at = absurd known_word
  hears pass queue (Some word) known_word one handed known kept at = ⊎_elim
      (λ (none : (one ∷ handed ≡ []) × (known ≡ None ∷ [])). absurd (not_at_first known pass word at none.1))
      (λ (named : (of_all : Q) × AreOf of_all (one ∷ handed) known). (
        Some word,
        inr (
          named.0,
          (
            All-tail (λ h. of_handed h ≡ named.0) one handed named.1.0,
            each_set (λ at_pass v. IsKnown named.0 v) known pass (Some word) (named.1.1 pass (Some word) at)
                (λ other v apart there. named.1.1 other v there),
          ),
        ),
        (refl, named.1.0 0 one (omega arith) ∙ sym (named.1.1 pass (Some word) at)),
      ))
      kept

  -- one pass becomes two
  pub shares : (pass : ℕ) (queue : Q) (v : Option W) → IsKnown queue v → Forks AreOfOne pass v v v
  shares pass queue None known_word handed known kept at = absurd known_word
  shares pass queue (Some word) known_word handed known kept at = ⊎_elim
      (λ (none : (handed ≡ []) × (known ≡ None ∷ [])). absurd (not_at_first known pass word at none.1))
      (λ (named : (of_all : Q) × AreOf of_all handed known). inr (
        named.0,
        (
          named.1.0,
          each_more (λ at_pass v. IsKnown named.0 v) (set known pass (Some word)) (Some word)
              (each_set (λ at_pass v. IsKnown named.0 v) known pass (Some word) (named.1.1 pass (Some word) at)
              (λ other v apart there. named.1.1 other v there))
              (named.1.1 pass (Some word) at),
        ),
      ))
      kept

  heard_of : (v : Option W) (queue : Q) (one : H) → IsKnown queue v
      → IsSomeAnd v (λ word. of_handed one ≡ of_word word) → of_handed one ≡ queue
  heard_of None queue one known same = absurd known
  heard_of (Some word) queue one known same = same ∙ known

  -- a word that was heard is of the queue that the pass knows
  pub all_heard : (v new : Option W) (queue : Q) (heard : Option H) → IsKnown queue v
      → MatchOption heard (new ≡ v) (λ one. Heard v one new) → IfSome heard (λ one. of_handed one ≡ queue)
  all_heard v new queue None known popped = tt
  all_heard v new queue (Some one) known popped = heard_of v queue one known popped.1

  -- a pop changes nothing of what the pass knows
  pub known_after : (v new : Option W) (queue : Q) (heard : Option H) → IsKnown queue v
      → MatchOption heard (new ≡ v) (λ one. Heard v one new) → IsKnown queue new
  known_after v new queue None known popped = subst (IsKnown queue) (sym popped) known
  known_after v new queue (Some one) known popped = subst (IsKnown queue) (sym popped.0) known

  -- a word of the queue may be handed over
  pub handed_of : (v : Option W) (queue : Q) (one : H) → IsKnown queue v → of_handed one ≡ queue
      → IsSomeAnd v (λ word. of_handed one ≡ of_word word)
  handed_of None queue one known same = known
  handed_of (Some word) queue one known same = same ∙ sym known

-- the queue of a word, and of one that is handed over with something beside it
abbrev pub queue_of : {T : Type 0} → Told T → TableId
queue_of word = word.queue

abbrev pub queue_of_first : {T N : Type 0} → Told T × N → TableId
queue_of_first handed = handed.0.queue
