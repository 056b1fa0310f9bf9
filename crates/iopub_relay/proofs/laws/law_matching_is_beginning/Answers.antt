use Rattle.std.proofs.Common.{nat_lt, arith}
use Rattle.std.proofs.lemmas.Bool.{ltb-true, ltb-false}
use Rattle.iopub_relay.proofs.BeginningLemmas.{passes_one, fails_each}
use Rattle.iopub_relay.proofs.laws.law_matching_is_beginning.Goals as goal

pub returns-clause-matches : goal.returns-clause-matches
returns-clause-matches c topics first others found =
    let (topic, rest, split, passes) = passes_one (λ topic. nat_lt 0 (topics topic)) first found in
    (topic, rest, split, ltb-true 0 (topics topic) passes)

pub returns-clause-none : goal.returns-clause-none
returns-clause-none c topics first others none topic rest split =
    let no_more = ltb-false 0 (topics topic)
    (fails_each (λ topic. nat_lt 0 (topics topic)) first topic rest split none) in
    omega (arith, no_more)
