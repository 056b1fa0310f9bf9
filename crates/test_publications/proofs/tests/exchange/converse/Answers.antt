use Rattle.std.proofs.Common.{ℕ, ap, ◌∙◌}
use Rattle.std.specs.Prelude.{Option, Some}
use Rattle.crossbeam_queue.specs.Passes.{view}
use Rattle.iopub_queue.specs.Values.{Told}
use Rattle.test_publications.proofs.Handing.{hears, hands, all_heard, known_after, handed_of, queue_of, queue_of_first}
use Rattle.test_publications.proofs.tests.exchange.converse.Goals as goal

pub try_pop_as-handed-requires-clause-rule : goal.try_pop_as-handed-requires-clause-rule
try_pop_as-handed-requires-clause-rule g c =
    hears queue_of_first queue_of _ _ (view c.loop-round.pass) c.loop-round.invariant.1

pub say-requires : goal.say-requires
say-requires g c = all_heard queue_of_first queue_of (view c.loop-round.pass) (view c.try_pop_as-handed.new.pass) _ _
    c.loop-round.invariant.1 c.try_pop_as-handed.ensures.rule

pub try_push_as-requires-clause-rule : goal.try_push_as-requires-clause-rule
try_push_as-requires-clause-rule g c =
    let known = known_after queue_of_first queue_of (view c.loop-round.pass) (view c.try_pop_as-handed.new.pass) _ _
    c.loop-round.invariant.1 c.try_pop_as-handed.ensures.rule in
    let handed : Told ((ℕ × ℕ) × Option (ℕ × ℕ)) × Option (ℕ × ℕ) =
    (c.tell-word.result, Some (c.number-number.result, c.loop-round.round)) in
    hands queue_of_first queue_of _ _ _ _ (handed_of queue_of_first queue_of _ _ handed known
    (ap (λ (told : _). told.queue) c.tell-word.ensures.word ∙ c.say.ensures))
