-- What holds between two numbers.
use Rattle.std.specs.Arc.{arc_value}
use Rattle.iopub_queue.proofs.Opening.{Opened}
use Rattle.iopub_queue.proofs.open.split_publishers.Given as goal

abbrev pub invariant-loop-number : goal.invariant-loop-number
invariant-loop-number g l = Opened (arc_value l.line) l.taker l.publishers.items l.number
