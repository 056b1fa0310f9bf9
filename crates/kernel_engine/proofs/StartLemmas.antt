-- How an engine begins.
use Rattle.std.proofs.Common.{arith, ◌≡◌, ◌≢◌, ◌⊎◌, inl, inr, ℕ, List, [], ◌∷◌, ◌++◌, length, map, true}
use Rattle.std.proofs.Common.{Option, Some, None, IfSome, Result, Ok, Err, MatchResult, refl, sym, ◌∙◌, ap, subst}
use Rattle.iopub_event.specs.declared.event.Event.{Event}
use Rattle.kernel_engine.specs.declared.fault.EngineFault.{EngineFault}
use Rattle.kernel_engine.specs.declared.parts.Parts.{Parts}
use Rattle.kernel_engine.specs.declared.publishing.Publishing.{Publishing}
use Rattle.kernel_engine.specs.Block.{Sealing, starting}
use Rattle.kernel_engine.specs.Growth.{item_of, sealing_of}
use Rattle.kernel_engine.specs.Starts.{SaysNothing, SaysStarting, StartsFirst, StartsLater, StartsNot, StartsRefused}
use Rattle.kernel_engine.specs.WellBlocked.{Block, KeepsBlocks, Owes, Rise, first_number, front_of, number_past}
use Rattle.kernel_engine.specs.WellBlocked.{said_behind}
use Rattle.kernel_engine.specs.World.{World}
use Rattle.kernel_engine.proofs.HandleLemmas.{sealing_by}

-- a list with something in it isn't empty
something : {A : Type 0} (l : List A) (x : A) (r : List A) → l ++ x ∷ r ≢ []
something [] x r none = let long = ap length none in absurd (omega (arith, long))
something (y ∷ l) x r none = let long = ap length none in absurd (omega (arith, long))

-- what is made of each of no items
made_of_none : {A B : Type 0} (f : A → B) (l : List A) → map f l ≡ [] → l ≡ []
made_of_none f [] none = refl
made_of_none f (x ∷ l) none = let long = ap length none in absurd (omega (arith, long))

-- a history from which no number was given is empty
pub first_said : (sealing : Sealing) (started : Option (List ℕ)) (blocks : List Block) (next : ℕ)
    → Rise (first_number started) blocks next → next ≡ 1
    → said_behind sealing (front_of sealing started) blocks ≡ []
first_said sealing None [] next rise first = refl
first_said sealing (Some date) [] next rise first = absurd (omega (arith, rise, first))
first_said sealing started (block ∷ earlier) next (number_past, rise) first = absurd (omega (arith, number_past, first))

-- a history from which a number was given isn't
pub later_said : (sealing : Sealing) (started : Option (List ℕ)) (blocks : List Block) (next : ℕ)
    → Rise (first_number started) blocks next → next ≢ 1
    → said_behind sealing (front_of sealing started) blocks ≢ []
later_said sealing None [] next rise later none = later rise
later_said sealing (Some date) [] next rise later none = something [] _ [] none
later_said sealing started (block ∷ earlier) next rise later none = something _ _ _ none

-- no block was published from which no number was given
no_blocks : (started : Option (List ℕ)) (blocks : List Block) (next : ℕ) → Rise (first_number started) blocks next
    → next ≡ 1 → blocks ≡ []
no_blocks started [] next rise first = refl
no_blocks started (block ∷ earlier) next (number_past, rise) first = absurd (omega (arith, number_past, first))

-- without a block no idle is owed
none_owed : {W : Type 0} (sealing : Sealing) (owed : Option (Event W)) → Owes sealing owed [] → owed ≡ None
none_owed sealing None owes = refl
none_owed sealing (Some owed) owes = absurd owes

module _ {I P S W Cell : Type 0} (world : World I P S W Cell)
    (on : (a b c : P) → world.sink.is_same a b → world.sink.is_same b c → world.sink.is_same a c) where
  -- an engine that gave no number has published nothing
  first_items : (old : Parts I P S W) → KeepsBlocks world old
      → old.publishing.next ≡ 1 → world.sink.items old.publishing.sink ≡ []
  first_items old keeps first = keeps.blocked.items_are ∙ ap (map item_of)
      (first_said (sealing_of world.stamp old.publishing) keeps.blocked.history.started
      keeps.blocked.history.blocks _ keeps.blocked.rise first)

  -- one that gave a number has
  later_items : (old : Parts I P S W) → KeepsBlocks world old
      → old.publishing.next ≢ 1 → world.sink.items old.publishing.sink ≢ []
  later_items old keeps later none =
      later_said (sealing_of world.stamp old.publishing) keeps.blocked.history.started
      keeps.blocked.history.blocks _ keeps.blocked.rise later
      (made_of_none item_of _ (sym keeps.blocked.items_are ∙ none))

  -- it said that the kernel starts
  keeps_first : (old new : Parts I P S W) → KeepsBlocks world old
      → StartsFirst world.sink world.stamp old new
      → KeepsBlocks world new
  keeps_first old new keeps first =
      let sealing = sealing_of world.stamp old.publishing in
      let starts = first.starts in
      let seals : sealing_of world.stamp new.publishing ≡ sealing =
      sealing_by world on new.publishing old.publishing
      (ap (λ (p : Publishing P S). p.signer) starts.rest) starts.meant in
      let owes : Owes sealing old.owed [] = subst (λ l. Owes sealing old.owed l)
      (no_blocks keeps.blocked.history.started keeps.blocked.history.blocks _ keeps.blocked.rise first.first)
      keeps.blocked.owes in
      let owed : new.owed ≡ None = ap (λ (p : Parts I P S W). p.owed) first.rest ∙ none_owed sealing old.owed owes in
      let next : new.publishing.next ≡ 2 = ap (λ (p : Publishing P S). p.next) starts.rest in
      let count : new.count ≡ old.count = ap (λ (p : Parts I P S W). p.count) first.rest in
      let counted = keeps.counted in
      let one = first.first in
      record {
        blocked = record {
          history = record { started = Some starts.date; blocks = [] };
          items_are = subst (λ s. world.sink.items new.publishing.sink ≡ map item_of (starting s starts.date ∷ []))
              (sym seals)
              (starts.items ∙ ap (λ l. l ++ item_of (starting sealing starts.date) ∷ [])
              (first_items old keeps first.first));
          began = (
            ap (λ (p : Parts I P S W). p.side) first.rest ∙ first.shell,
            subst (λ by. world.stamp.is_date by starts.date ≡ true) (sym starts.meant) starts.dated,
          );
          cuts = tt;
          rise = next;
          owes = subst (λ o. Owes (sealing_of world.stamp new.publishing) o []) (sym owed) tt;
        };
        refused = subst (λ o. IfSome o (λ owed. world.sink.may_refuse new.publishing.sink)) (sym owed) tt;
        counted = omega (arith, counted, next, count, one);
        last = omega (arith, next);
      }

  -- it was refused
  keeps_refused : (old new : Parts I P S W) (fault : EngineFault)
      → KeepsBlocks world old
      → StartsRefused world.sink world.stamp old fault new
      → KeepsBlocks world new
  keeps_refused old new fault keeps refused =
      let sealing = sealing_of world.stamp old.publishing in
      let none = refused.none in
      let seals : sealing_of world.stamp new.publishing ≡ sealing =
      sealing_by world on new.publishing old.publishing
      (ap (λ (p : Publishing P S). p.signer) none.rest) none.meant in
      let owes : Owes sealing old.owed [] = subst (λ l. Owes sealing old.owed l)
      (no_blocks keeps.blocked.history.started keeps.blocked.history.blocks _ keeps.blocked.rise refused.first)
      keeps.blocked.owes in
      let owed : new.owed ≡ None = ap (λ (p : Parts I P S W). p.owed) refused.rest ∙ none_owed sealing old.owed owes in
      let next : new.publishing.next ≡ old.publishing.next = ap (λ (p : Publishing P S). p.next) none.rest in
      let count : new.count ≡ old.count = ap (λ (p : Parts I P S W). p.count) refused.rest in
      let counted = keeps.counted in
      let last = keeps.last in
      record {
        blocked = record {
          history = record { started = None; blocks = [] };
          items_are = none.items ∙ first_items old keeps refused.first;
          began = tt;
          cuts = tt;
          rise = next ∙ refused.first;
          owes = subst (λ o. Owes (sealing_of world.stamp new.publishing) o []) (sym owed) tt;
        };
        refused = subst (λ o. IfSome o (λ owed. world.sink.may_refuse new.publishing.sink)) (sym owed) tt;
        counted = omega (arith, counted, next, count);
        last = omega (arith, last, next);
      }

  -- what it keeps then
  pub keeps_started : {U : Type 0} (old new : Parts I P S W) (result : Result U EngineFault)
      → KeepsBlocks world old
      → MatchResult result
      (λ _. StartsFirst world.sink world.stamp old new
      ⊎ StartsLater world.sink world.stamp old new)
      (λ fault. StartsRefused world.sink world.stamp old fault new)
      → KeepsBlocks world new
  keeps_started old new (Ok done) keeps (inl first) = keeps_first old new keeps first
  keeps_started old new (Ok done) keeps (inr later) =
      subst (λ (p : Parts I P S W). KeepsBlocks world p) (sym later.same)
      keeps
  keeps_started old new (Err fault) keeps refused = keeps_refused old new fault keeps refused

  -- what an engine that gave a number says
  says_nothing : (old new : Parts I P S W) → KeepsBlocks world old
      → StartsLater world.sink world.stamp old new
      → SaysNothing world.sink world.stamp old new
  says_nothing old new keeps later = record {
    other = elim later.other [ inl control ↦ inl control | inr given ↦ inr (later_items old keeps given) ];
    same = later.same;
  }

  -- what it says
  pub says_started : {U : Type 0} (old new : Parts I P S W) (result : Result U EngineFault)
      → KeepsBlocks world old
      → MatchResult result
      (λ _. StartsFirst world.sink world.stamp old new
      ⊎ StartsLater world.sink world.stamp old new)
      (λ fault. StartsRefused world.sink world.stamp old fault new)
      → MatchResult result
      (λ _. SaysStarting world.sink world.stamp old new
      ⊎ SaysNothing world.sink world.stamp old new)
      (λ fault. StartsNot world.sink world.stamp old fault new)
  says_started old new (Ok done) keeps (inl first) = inl (record {
    shell = first.shell;
    first = first_items old keeps first.first;
    starts = first.starts;
    rest = first.rest;
  })
  says_started old new (Ok done) keeps (inr later) = inr (says_nothing old new keeps later)
  says_started old new (Err fault) keeps refused = record {
    memory = refused.memory;
    shell = refused.shell;
    first = first_items old keeps refused.first;
    none = refused.none;
    rest = refused.rest;
  }
