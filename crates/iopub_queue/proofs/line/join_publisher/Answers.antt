use Rattle.iopub_queue.proofs.Moves.{settles}
use Rattle.iopub_queue.proofs.line.join_publisher.Goals as goal

pub absorb-requires-clause-rule : goal.absorb-requires-clause-rule
absorb-requires-clause-rule g c = settles _ _ _ _ c.requires.roles.0 c.requires.roles.1
