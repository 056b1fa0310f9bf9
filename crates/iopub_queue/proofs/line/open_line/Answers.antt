use Rattle.iopub_queue.proofs.Moves.{begins}
use Rattle.iopub_queue.proofs.line.open_line.Goals as goal

pub ruled-requires-clause-rule : goal.ruled-requires-clause-rule
ruled-requires-clause-rule g c = begins
