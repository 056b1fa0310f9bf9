use Rattle.std.proofs.Common.{rules, ◌≡◌, ◌∙◌, ap, map}
use Rattle.std.specs.Prelude.{string_bytes}
use Rattle.arith_value.proofs.VariablesLemmas.{names_shown, ascending_found}
use Rattle.arith_value.specs.Variables.{begins, names, shown}
use Rattle.std.specs.List.{filter}
use Rattle.arith_value.proofs.variables.keys_beginning.Goals as goal

pub loop-name-init : goal.loop-name-init
loop-name-init c =
    rw c.new-names.ensures.items
    (ap (filter (begins c.args.beginning.now))
    (ap (map (λ key. string_bytes key)) (c.into_iter-name-iterator.ensures.into_iter_gives
    ∙ c.keys-name-items.ensures.rest)
    ∙ names_shown c.args.values.now.entries))

pub returns-clause-ascending : goal.returns-clause-ascending
returns-clause-ascending c =
    let exact : c.loop-name.names.items ≡ filter (begins c.args.beginning.now) (names (shown c.args.values.now.entries))
    = search rules in
    ascending_found c.args.values.now.entries c.args.beginning.now c.loop-name.names.items
    c.keys-name-items.ensures.ordered exact
