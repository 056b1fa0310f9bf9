use Rattle.std.proofs.Common.{rules, arith}
use Rattle.std.proofs.lemmas.Grind.{common_steps}
use Rattle.sql_cells.specs.Inspections.{table_head}
use Rattle.sql_cells.proofs.inspections.push_table_head.Goals as goal

pub returns : goal.returns
unfolding table_head
returns c = first_of (search rules, grind (arith, common_steps))
