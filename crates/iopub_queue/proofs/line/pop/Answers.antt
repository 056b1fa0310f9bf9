use Rattle.iopub_queue.proofs.Moves.{takes, sees}
use Rattle.iopub_queue.proofs.line.pop.Goals as goal

pub pop_as-requires-clause-rule : goal.pop_as-requires-clause-rule
pop_as-requires-clause-rule g c = (takes _ _ c.requires.role, sees _ _ c.requires.role)
