-- What statements come to, as answers of an interpreter.
use Rattle.std.proofs.Common.{◌≡◌, ◌⊎◌, ◌==◌, inl, inr, ℕ, List, [], ◌∷◌, length, Bool, true, false, Option, Result}
use Rattle.std.proofs.Common.{Ok, Err, refl, sym, ap, subst}
use Rattle.std.specs.Prelude.{⊤}
use Rattle.interp_core.specs.Interpreter.{Answers, ByMemory, IfMemory, OnMemory}
use Rattle.interp_core.specs.declared.answer.Output.{Output}
use Rattle.interp_core.specs.declared.answer.Stepped.{Stepped}
use Rattle.interp_core.specs.declared.fault.InterpFault.{InterpFault}
use Rattle.interp_core.specs.declared.fault.InterpFault.TheVariants as faults
use Rattle.sqlite_trees.specs.declared.store.Store.{Ghosts}
use Rattle.sqlite.specs.declared.error.Error.{Error}
use Rattle.sqlite.specs.Held.{Held, state}
use Rattle.sqlite.specs.State.{HasCleanDisk}
use Rattle.sql_cells.specs.declared.statement.Came.{Came}
use Rattle.sql_cells.specs.Statement.{Runs, Spares}
use Rattle.sql_cells.specs.declared.dots.TheConstants.{HELP, TABLE_NAMES}
use Rattle.sql_cells.specs.Dots.{help_text, names_query}
use Rattle.sql_cells.specs.Faults.{error_name, error_text, fault_if, fault_of, is_memory}
use Rattle.sql_cells.specs.Meaning.{BreaksOff, Comes, MayRun, StepComes, StepMayRun, Steps}
use Rattle.sql_cells.specs.Meaning.{stepped_of}

-- the constants are the texts of the definitions
pub help_is : HELP.now ≡ help_text
help_is = refl

pub names_query_is : TABLE_NAMES.now ≡ names_query
names_query_is = refl

-- what holds where memory is wanting holds where it matters
pub on_memory : (fault : InterpFault) (P : Type 0) → P → IfMemory fault P ⊤
on_memory (faults.Syntax place) P p = tt
on_memory faults.Overflow P p = tt
on_memory faults.ZeroDivision P p = tt
on_memory faults.Shift P p = tt
on_memory faults.TooDeep P p = tt
on_memory faults.Interrupted P p = tt
on_memory faults.OutOfMemory P p = p
on_memory (faults.Raised name value) P p = tt

-- facts of a fault follow from others
memory_maps : (fault : InterpFault) (P Q A B : Type 0) → (P → Q) → (A → B) → IfMemory fault P A → IfMemory fault Q B
memory_maps (faults.Syntax place) P Q A B f h x = h x
memory_maps faults.Overflow P Q A B f h x = h x
memory_maps faults.ZeroDivision P Q A B f h x = h x
memory_maps faults.Shift P Q A B f h x = h x
memory_maps faults.TooDeep P Q A B f h x = h x
memory_maps faults.Interrupted P Q A B f h x = h x
memory_maps faults.OutOfMemory P Q A B f h x = f x
memory_maps (faults.Raised name value) P Q A B f h x = h x

module _ {S T : Type 0} (g : Ghosts S) (show : Came → T) (sql : List ℕ) (old new : Held S) where
  -- an error is told as its fault
  as_told : (b : Bool) (e : Error) → is_memory e ≡ b → (HasCleanDisk (state g new) → Runs g sql old new (Err e))
      → Spares g sql old new → Answers (Comes g show sql old new) (Err (fault_if b (error_name e) (error_text sql e)))
  as_told true e is runs spares = tt
  as_told false e is runs spares = (
    tt,
    λ clean. (Err e, runs clean, ap (λ b. Err (fault_if b (error_name e) (error_text sql e))) (sym is)),
    spares,
  )

  -- a statement that failed answers with its fault
  pub failed : (e : Error) (fault : InterpFault) → (fault ≡ fault_of sql e) ⊎ (fault ≡ faults.OutOfMemory)
      → (HasCleanDisk (state g new) → Runs g sql old new (Err e)) → Spares g sql old new
      → Answers (Comes g show sql old new) (Err fault)
  failed e fault (inl is) runs spares =
      subst (λ f. Answers (Comes g show sql old new) (Err f)) (sym is) (as_told (is_memory e) e refl runs spares)
  failed e fault (inr is) runs spares = subst (λ f. Answers (Comes g show sql old new) (Err f)) (sym is) tt

  -- a statement that failed for memory may have run
  pub failed_memory : (e : Error) (fault : InterpFault)
      → (HasCleanDisk (state g new) → Runs g sql old new (Err e)) → Spares g sql old new
      → IfMemory fault (MayRun g sql old new) ⊤
  failed_memory e fault runs spares =
      on_memory fault (MayRun g sql old new) ((λ clean. (Err e, runs clean)), spares)

-- what is known of a fault where memory is wanting, and where it isn't
join : (fault : InterpFault) (P A : Type 0) → IfMemory fault ⊤ A → IfMemory fault P ⊤ → IfMemory fault P A
join (faults.Syntax place) P A a p = a
join faults.Overflow P A a p = a
join faults.ZeroDivision P A a p = a
join faults.Shift P A a p = a
join faults.TooDeep P A a p = a
join faults.Interrupted P A a p = a
join faults.OutOfMemory P A a p = p
join (faults.Raised name value) P A a p = a

module _ {S : Type 0} (g : Ghosts S) (piece : List ℕ) (pieces : List (List ℕ)) (old new : Option (Held S)) where
  -- what a step is
  abbrev pub StepIs : Stepped → Type 0
  StepIs s = ByMemory s.next ((s.outputs ≡ []) × BreaksOff g old (piece ∷ pieces) new)
      (Steps g old (piece ∷ pieces) s new pieces)

  -- a statement that ran goes on as it is the last or not
  went_on : (outputs : List Output) (last : Bool) → (length pieces == 0) ≡ last
      → StepComes g piece old new (Ok outputs) → StepIs (stepped_of (Ok outputs) last)
  went_on outputs true is comes = (refl, (Ok outputs, comes, ap (stepped_of (Ok outputs)) (sym is)))
  went_on outputs false is comes = (refl, (Ok outputs, comes, ap (stepped_of (Ok outputs)) (sym is)))

  -- what a statement comes to is a step
  pub steps_so : (outcome : Result (List Output) InterpFault) (s : Stepped)
      → s ≡ stepped_of outcome (length pieces == 0)
      → Answers (StepComes g piece old new) outcome → OnMemory outcome (StepMayRun g piece old new) → StepIs s
  steps_so (Ok outputs) s is comes memory =
      subst StepIs (sym is) (went_on outputs (length pieces == 0) refl comes)
  steps_so (Err fault) s is comes memory =
      subst StepIs (sym is) (join fault _ _ (memory_maps fault ⊤ ⊤ _ _ (λ x. x) (λ c. (refl, (Err fault, c, refl)))
      comes)
      (memory_maps fault _ _ ⊤ ⊤ (λ m. (refl, m)) (λ x. x) memory))
