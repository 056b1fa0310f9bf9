use Rattle.iopub_queue.proofs.Tokens.{adds_by, publishes_on}
use Rattle.iopub_queue.proofs.publisher.Publisher.publish.Goals as goal

pub invariant_of-self : goal.invariant_of-self
invariant_of-self g c = let may = c.self.invariant in
    publishes_on _ c.self.inside.seat c.push.new.seat _ _ may.holds.seat_of may.holds.role may.holds.named may.open_list
    c.push.ensures.seat c.push.ensures.published

pub returns-clause-adds : goal.returns-clause-adds
returns-clause-adds g c = rw (← c.self.view_is)
    (adds_by c.self.inside.seat c.push.new.seat _ _ c.self.invariant.holds.named c.push.ensures.seat
    c.push.ensures.published)
