use Rattle.iopub_queue.proofs.Moves.{tells}
use Rattle.iopub_queue.proofs.line.split_word.Goals as goal

pub another-requires-clause-rule : goal.another-requires-clause-rule
another-requires-clause-rule g c = tells _ _
