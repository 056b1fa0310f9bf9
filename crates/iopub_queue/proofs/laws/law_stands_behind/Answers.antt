use Rattle.iopub_queue.proofs.Order.{keeps_order}
use Rattle.iopub_queue.proofs.laws.law_stands_behind.Goals as goal

pub returns : goal.returns
returns g c = keeps_order
