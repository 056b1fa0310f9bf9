use Rattle.std.proofs.Common.{refl, ◌<◌, length, arith}
use Rattle.iopub_queue.proofs.CoreLemmas.{follows_take}
use Rattle.iopub_queue.proofs.plain_core.Core.step.Goals as goal

pub returns-then-self-len : goal.returns-then-self-len
returns-then-self-len g c =
    let below : c.args.self.now.taken < length c.args.self.now.entries.items = omega arith in
    rw c.in-Take.is (λ state follows. (tt, follows_take _ state _ _ follows below refl refl refl))
