use Rattle.std.proofs.Common.{arith}
use Rattle.iopub_queue.proofs.open.open_queue.Goals as goal

pub returns-then-n-eq0 : goal.returns-then-n-eq0
returns-then-n-eq0 g c = λ count. omega (arith, c.then-n-eq0.either, count.0, count.1)
