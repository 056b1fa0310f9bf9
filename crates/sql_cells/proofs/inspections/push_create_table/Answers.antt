use Rattle.std.proofs.Common.{rules, arith}
use Rattle.std.proofs.lemmas.Grind.{common_steps}
use Rattle.sql_cells.specs.Inspections.{create_table}
use Rattle.sql_cells.proofs.inspections.push_create_table.Goals as goal

pub returns : goal.returns
unfolding create_table
returns c = first_of (search rules, grind (arith, common_steps))
