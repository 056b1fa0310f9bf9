-- The pass is one of these words, and they are of the publisher's queue.
use Rattle.std.proofs.Common.{◌≡◌}
use Rattle.std.specs.Prelude.{IsSomeAnd}
use Rattle.crossbeam_queue.specs.Passes.{view, IsPassOf}
use Rattle.test_publications.proofs.tests.exchange.converse.Given as goal

abbrev pub invariant-loop-round : goal.invariant-loop-round
invariant-loop-round g l =
    IsPassOf l.words l.pass × IsSomeAnd (view l.pass) (λ word. word.queue ≡ l.publisher.queue)
