use Rattle.std.proofs.Common.{rules, arith}
use Rattle.std.proofs.lemmas.Grind.{common_steps}
use Rattle.sql_cells.specs.Inspections.{column_head}
use Rattle.sql_cells.proofs.inspections.push_column_head.Goals as goal

pub returns : goal.returns
unfolding column_head
returns c = first_of (search rules, grind (arith, common_steps))
