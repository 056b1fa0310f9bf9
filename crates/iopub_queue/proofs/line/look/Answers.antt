use Rattle.iopub_queue.proofs.Moves.{sees}
use Rattle.iopub_queue.proofs.line.look.Goals as goal

pub learn_as-requires-clause-rule : goal.learn_as-requires-clause-rule
learn_as-requires-clause-rule g c = sees _ _ c.requires.role
