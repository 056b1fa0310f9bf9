use Rattle.std.proofs.Common.{rules, ◌∙◌}
use Rattle.clap.specs.Words.{found_of}
use Rattle.clap.proofs.WalkLemmas.{first_value-rows}
use Rattle.kernel_words.proofs.words.value_of.Goals as goal

pub returns-in-Some : goal.returns-in-Some
returns-in-Some c =
    let found = c.get_str.ensures ∙ first_value-rows (found_of c.args.options.now) c.args.id.now in
    search rules

pub returns-in-None : goal.returns-in-None
returns-in-None c =
    let found = c.get_str.ensures ∙ first_value-rows (found_of c.args.options.now) c.args.id.now in
    search rules
