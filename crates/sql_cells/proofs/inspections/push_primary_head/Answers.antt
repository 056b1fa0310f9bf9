use Rattle.std.proofs.Common.{rules, arith}
use Rattle.std.proofs.lemmas.Grind.{common_steps}
use Rattle.sql_cells.specs.Inspections.{primary_head}
use Rattle.sql_cells.proofs.inspections.push_primary_head.Goals as goal

pub returns : goal.returns
unfolding primary_head
returns c = first_of (search rules, grind (arith, common_steps))
