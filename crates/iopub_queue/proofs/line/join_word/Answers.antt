use Rattle.iopub_queue.proofs.Moves.{learns}
use Rattle.iopub_queue.proofs.line.join_word.Goals as goal

pub absorb-requires-clause-rule : goal.absorb-requires-clause-rule
absorb-requires-clause-rule g c = learns _ _ _ _ c.requires.role
