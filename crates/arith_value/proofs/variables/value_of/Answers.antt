use Rattle.std.proofs.Common.{◌∙◌}
use Rattle.arith_value.proofs.VariablesLemmas.{find_shown}
use Rattle.arith_value.proofs.variables.value_of.Goals as goal

pub returns : goal.returns
returns c = c.copied.ensures ∙ c.get.ensures.value ∙ find_shown c.args.name.now c.args.values.now.entries
