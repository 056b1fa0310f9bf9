use Rattle.std.proofs.Common.{◌∙◌}
use Rattle.jmsg_types.proofs.TextLemmas.{no_names_rise}
use Rattle.jmsg_types.proofs.field.take_texts.Goals as goal

pub returns-in_default-clause-ordered : goal.returns-in_default-clause-ordered
returns-in_default-clause-ordered c = no_names_rise c.new-in_default.result
    (c.new-in_default.ensures ∙ c.new.ensures.items)
