use Rattle.iopub_queue.proofs.Moves.{opens}
use Rattle.iopub_queue.proofs.line.split_publisher.Goals as goal

pub another-requires-clause-rule : goal.another-requires-clause-rule
another-requires-clause-rule g c = opens _ _ c.requires.role
