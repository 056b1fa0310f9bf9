use Rattle.std.specs.Arc.{arc_value}
use Rattle.iopub_queue.proofs.Opening.{may_take}
use Rattle.iopub_queue.proofs.open.open_judged.Goals as goal

pub invariant_of-taker : goal.invariant_of-taker
invariant_of-taker g c =
    let split = c.in_ok-publishers.ensures in
    may_take (arc_value c.in-Ok-new.line) c.split_publishers.new.taker c.in_ok-publishers.publishers.items c.args.n
    c.in-Ok.closed.items
    (record { seat_of = split.seat; known = split.known; fresh = split.fresh })
    (c.in-Ok.ensures.items_if_clones_equal (λ y is. is))
