use Rattle.std.proofs.Common.{◌∙◌}
use Rattle.iopub_relay.specs.Counts.{counted, listed}
use Rattle.iopub_relay.proofs.CountLemmas.{held_by}
use Rattle.iopub_relay.proofs.topics.Topics.has.Goals as goal

pub returns-else-count_of-gt0 : goal.returns-else-count_of-gt0
returns-else-count_of-gt0 c =
    let counts = c.self.inside.counts in
    let further = c.self.inside.further.items in
    let topic = c.args.topic.now in
    rw (← c.self.view_is) (c.is_some.ensures ∙ held_by c.place_in.result (counted counts topic) (listed further topic)
    (rw c.count_of.ensures at c.if-count_of-gt0.false) (rw c.deref.ensures.value at c.place_in.ensures.held)
    (rw c.deref.ensures.value at c.place_in.ensures.none))
