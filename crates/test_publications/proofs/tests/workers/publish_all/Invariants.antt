-- The publisher is of the same queue.
use Rattle.std.proofs.Common.{◌≡◌}
use Rattle.test_publications.proofs.tests.workers.publish_all.Given as goal

abbrev pub invariant-loop-item : goal.invariant-loop-item
invariant-loop-item g l = l.publisher.queue ≡ l.fn.publisher.queue
