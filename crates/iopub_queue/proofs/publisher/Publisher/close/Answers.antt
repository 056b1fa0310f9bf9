use Rattle.std.specs.Prelude.{None}
use Rattle.iopub_queue.proofs.Tokens.{adds_by}
use Rattle.iopub_queue.proofs.publisher.Publisher.close.Goals as goal

pub returns : goal.returns
returns g c = rw (← c.self.view_is)
    (adds_by c.self.inside.seat c.push.new.seat c.self.inside.number None c.self.invariant.holds.named
    c.push.ensures.seat c.push.ensures.published)
