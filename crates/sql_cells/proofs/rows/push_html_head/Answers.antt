use Rattle.std.proofs.Common.{rules, arith}
use Rattle.std.proofs.lemmas.Grind.{common_steps}
use Rattle.sql_cells.specs.Tables.{html_head}
use Rattle.sql_cells.proofs.rows.push_html_head.Goals as goal

pub returns : goal.returns
unfolding html_head
returns c = first_of (search rules, grind (arith, common_steps))
