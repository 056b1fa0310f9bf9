use Rattle.std.proofs.Common.{rules}
use Rattle.crossbeam_queue.specs.Passes.{IsPassOf}
use Rattle.std.specs.Arc.{arc_value}
use Rattle.iopub_queue.proofs.Opening.{opened_more}
use Rattle.iopub_queue.proofs.open.split_publishers.Goals as goal

pub loop-number-preserved : goal.loop-number-preserved
loop-number-preserved g c =
    let line = arc_value c.args.line.now in let split = c.split_publisher.ensures in
    let pushed = c.in-Ok-push.ensures in
    let of_line : IsPassOf line c.split_publisher.result = search rules in
    rw pushed.items (opened_more line c.loop-number.taker c.split_publisher.new.taker c.split_publisher.result
    c.loop-number.publishers.items
    c.loop-number.number c.loop-number.invariant split.seat.0 split.taker of_line split.publisher)
