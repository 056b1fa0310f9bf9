use Rattle.std.proofs.Common.{◌≡◌, ◌∷◌, List, [], sym, subst}
use Rattle.std.specs.Prelude.{IfOk}
use Rattle.sqlite_value.specs.Order.{Row}
use Rattle.sql_cells.specs.declared.statement.Came.{Came}
use Rattle.sql_cells.specs.Shown.{shown, table_output}
use Rattle.sql_cells.proofs.shown.shown.Goals as goal

pub returns-in-Rows : goal.returns-in-Rows
returns-in-Rows c =
    subst (λ (came : Came). IfOk c.table_outputs.result (λ outputs. outputs ≡ shown came)) (sym c.in-Rows.is)
    (subst (λ (rows : List Row). IfOk c.table_outputs.result (λ outputs. outputs
    ≡ table_output c.in-Rows.statement.columns rows ∷ []))
    c.deref.ensures.value c.table_outputs.ensures)
