-- What holds between two events.
use Rattle.iopub_queue.proofs.CoreLemmas.{Ran}
use Rattle.iopub_queue.proofs.plain_core.run_core.Given as goal

abbrev pub invariant-loop-event : goal.invariant-loop-event
invariant-loop-event g l =
    Ran l.fn.n l.fn.events.items l.yielded l.event-iterator.rest.items l.place l.core
