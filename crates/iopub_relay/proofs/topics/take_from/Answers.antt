use Rattle.std.proofs.Common.{rules}
use Rattle.iopub_relay.proofs.CountLemmas.{taken_out}
use Rattle.iopub_relay.proofs.topics.take_from.Goals as goal

pub returns : goal.returns
returns c other =
    rw c.swap_remove.ensures.items (taken_out c.args.list.now.items c.in-Some.place c.swap_remove.result
    c.args.topic.now other (search rules) (search rules))
