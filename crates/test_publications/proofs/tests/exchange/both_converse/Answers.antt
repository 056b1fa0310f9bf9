use Rattle.std.proofs.Common.{ℕ, refl}
use Rattle.std.specs.Prelude.{Option}
use Rattle.crossbeam_queue.specs.Passes.{view}
use Rattle.test_publications.proofs.Handing.{begins, names, shares, known_by, queue_of, queue_of_first}
use Rattle.test_publications.proofs.tests.exchange.both_converse.Goals as goal

pub ruled-requires-clause-rule : goal.ruled-requires-clause-rule
ruled-requires-clause-rule g c = begins queue_of_first queue_of

pub try_push_as-requires-clause-rule : goal.try_push_as-requires-clause-rule
try_push_as-requires-clause-rule g c = names queue_of_first queue_of _ _ _ _ _ c.in_ok-words.ensures.3 refl

pub another-second-requires-clause-rule : goal.another-second-requires-clause-rule
another-second-requires-clause-rule g c = shares queue_of_first queue_of _ _ (view c.try_push_as.new.pass)
    (known_by (queue_of_first {T = (ℕ × ℕ) × Option (ℕ × ℕ)} {N = Option (ℕ × ℕ)}) queue_of _ _ c.begin-word.result
    c.in-Ok.ensures.rule refl)
