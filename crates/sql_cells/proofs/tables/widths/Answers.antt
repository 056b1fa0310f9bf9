use Rattle.std.proofs.Common.{arith, suc, append-nil}
use Rattle.std.proofs.lemmas.Grind.{common_steps}
use Rattle.sql_cells.proofs.tables.widths.Goals as goal

pub columns-preserved : goal.columns-preserved
columns-preserved c = λ more is.
    let inv = c.columns.invariant (suc more) (omega arith) in grind (arith, common_steps, inv)

pub returns : goal.returns
returns c = rw append-nil at (c.columns.invariant 0 (omega arith))
