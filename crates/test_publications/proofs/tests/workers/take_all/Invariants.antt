-- The taker is of the same queue.
use Rattle.std.proofs.Common.{◌≡◌}
use Rattle.test_publications.proofs.tests.workers.take_all.Given as goal

abbrev pub invariant-loop : goal.invariant-loop
invariant-loop g l = l.taker.queue ≡ l.fn.taker.queue
