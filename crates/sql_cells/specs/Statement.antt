-- How one statement of SQL comes out.
use Rattle.std.specs.Prelude.{◌≡◌, ◌≢◌, ◌⊎◌, ℕ, List, [], Result, Ok, Err}
use Rattle.sqlite_trees.specs.Tree.{Trees}
use Rattle.sqlite_trees.specs.declared.store.Store.{Ghosts}
use Rattle.sqlite_value.specs.Order.{Row}
use Rattle.sqlite.specs.declared.error.Error.{Error}
use Rattle.sqlite.specs.Held.{Held, state}
use Rattle.sqlite.specs.Listing.{understood}
use Rattle.sqlite.specs.Outline.{Outline}
use Rattle.sqlite.specs.State.{CommitsBy, CommitsShowing, Executes, FailsToQuery, IsNotRun, IsUnchanged, Shown}
use Rattle.sqlite.specs.State.{Survives}
use Rattle.sqlite.specs.Steps.{Outlines}
use Rattle.sql_cells.specs.declared.statement.Came.{Came}
use Rattle.sql_cells.specs.declared.statement.Came.TheVariants.{Rows, Changed}

module _ {S : Type 0} (g : Ghosts S) where
  -- the text is one statement, which has these columns, and nothing has changed, the limit on steps neither
  pub record IsPrepared (sql : List ℕ) (old mid : Held S) (outline : Outline) : Type 0 where
    pub text : outline.text ≡ sql
    pub outlines : Outlines (understood (state g old).now.schema sql) outline
    pub same : IsUnchanged (state g old) (state g mid)
    pub limit : mid.step_limit ≡ old.step_limit

  -- A statement runs: if it has columns it shows rows, else it changes so many rows. If it fails, it isn't run, or
  -- fails as the definitions of sqlite say.
  abbrev pub Runs : List ℕ → Held S → Held S → Result Came Error → Type 0
  Runs sql old new (Ok (Rows outline shown)) =
      (mid : Held S) × IsPrepared sql old mid outline × (outline.columns ≢ [])
      × Shown sql [] (state g mid) (state g new) shown.items
  Runs sql old new (Ok (Changed count)) =
      (mid : Held S) × (outline : Outline) × IsPrepared sql old mid outline × (outline.columns ≡ [])
      × Executes sql [] (state g mid) (state g new) (Ok count)
  Runs sql old new (Err e) =
      ((params : Row) → IsNotRun (state g old) (state g new) sql params e)
      ⊎ ((mid : Held S) × (outline : Outline) × IsPrepared sql old mid outline
      × (((outline.columns ≢ []) × FailsToQuery sql [] (state g mid) (state g new) e)
      ⊎ ((outline.columns ≡ []) × Executes sql [] (state g mid) (state g new) (Err e))))

  -- the trees that a statement may commit
  abbrev pub MayCommit : List ℕ → Held S → Trees → Type 0
  MayCommit sql old db =
      (mid : Held S) × (outline : Outline) × IsPrepared sql old mid outline
      × (CommitsBy sql [] (state g mid) db ⊎ CommitsShowing sql [] (state g mid) db)

  -- Whatever comes of a statement, the limit on steps stays, and no fault of the disk is forgotten. A crash leaves what
  -- it would have left before, or what the statement commits.
  abbrev pub Spares : List ℕ → Held S → Held S → Type 0
  Spares sql old new = Survives (state g old) (state g new) (MayCommit sql old)
