-- A statement that was prepared.
use Rattle.std.proofs.Common.{arith, ◌≡◌, ◌≢◌, ◌⊎◌, inl, inr, ◌∙◌, ℕ, List, [], ◌∷◌, length, IsTrue, refl, ap}
use Rattle.std.specs.Prelude.{◌+◌, ◌-◌, ◌^◌, ◌≤◌, min}
use Rattle.sqlite_trees.specs.declared.store.Store.{Ghosts}
use Rattle.sqlite_trees.specs.Tree.{Trees}
use Rattle.sqlite.specs.Held.{Held, state}
use Rattle.sqlite.specs.State.{HasCleanDisk, Survives}
use Rattle.sql_cells.specs.Statement.{MayCommit, Spares}

-- a list without elements is empty, and one with some is not
pub nothing : {A : Type 0} (xs : List A) → length xs ≡ 0 → xs ≡ []
nothing [] none = refl
nothing (x ∷ xs) none = absurd (omega arith)

pub something : {A : Type 0} (xs : List A) → length xs ≢ 0 → xs ≢ []
something xs some none = some (ap length none)

-- more faults, of which 64 bits count
abbrev MoreFaults : ℕ → ℕ → Type 0
MoreFaults old new = min (old + 1) (2 ^ 64 - 1) ≤ new

-- a case that never comes may be any other
widened : {A B : Type 0} → A ⊎ ⊥ → A ⊎ B
widened (inl a) = inl a
widened (inr never) = absurd never

module _ {S : Type 0} (g : Ghosts S) (sql : List ℕ) (old mid new : Held S) where
  -- a statement that was only prepared commits nothing
  pub only_prepared : Survives (state g old) (state g mid) (λ _. ⊥) → Spares g sql old mid
  only_prepared it = record {
    clean = it.clean;
    shield = it.shield;
    counts = it.counts;
    limit = it.limit;
    closes = it.closes;
    crash = λ clean db left. widened (it.crash clean db left);
  }

  module _ (Commits : Trees → Type 0) (first : Survives (state g old) (state g mid) (λ _. ⊥))
      (then : Survives (state g mid) (state g new) Commits) where
    -- a connection that was open is open, or the disk failed
    open_still : IsTrue (state g mid).is_open ⊎ MoreFaults (state g old).faults (state g mid).faults
        → HasCleanDisk (state g new)
        → IsTrue (state g new).is_open ⊎ MoreFaults (state g old).faults (state g new).faults
    open_still (inl is) clean = more (then.closes clean is)
      where
        more : IsTrue (state g new).is_open ⊎ MoreFaults (state g mid).faults (state g new).faults
            → IsTrue (state g new).is_open ⊎ MoreFaults (state g old).faults (state g new).faults
        more (inl still) = inl still
        more (inr fell) = inr (let kept = first.counts in omega (arith, kept, fell))
    open_still (inr fell) clean = inr (let kept = then.counts in omega (arith, kept, fell))

    -- what a crash leaves was there before, or is what the statement commits
    left_of : (db : Trees) → (HasCleanDisk (state g new) → Commits db → MayCommit g sql old db)
        → HasCleanDisk (state g new) → HasCleanDisk (state g mid)
        → (state g mid).may_leave db ⊎ Commits db → (state g old).may_leave db ⊎ MayCommit g sql old db
    left_of db commits clean early (inl left) = widened (first.crash early db left)
    left_of db commits clean early (inr by) = inr (commits clean by)

    -- a statement that was prepared and ran
    pub prepared_and_ran : ((db : Trees) → HasCleanDisk (state g new) → Commits db → MayCommit g sql old db)
        → Spares g sql old new
    prepared_and_ran commits = record {
      clean = let a = first.clean in let b = then.clean in omega (arith, a, b);
      shield = λ shielded. then.shield (first.shield shielded);
      counts = let a = first.counts in let b = then.counts in omega (arith, a, b);
      limit = then.limit ∙ first.limit;
      closes = λ clean is.
          let early : HasCleanDisk (state g mid) = let b = then.clean in omega (arith, clean, b) in
          open_still (first.closes early is) clean;
      crash = λ clean db left.
          let early : HasCleanDisk (state g mid) = let b = then.clean in omega (arith, clean, b) in
          left_of db (commits db) clean early (then.crash clean db left);
    }
