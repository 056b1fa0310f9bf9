use Rattle.iopub_relay.proofs.ConcludeLemmas.{both_say, closed_say}
use Rattle.iopub_relay.proofs.relay.Relay.conclude.Goals as goal

pub returns-clause-complete : goal.returns-clause-complete
returns-clause-complete g c =
    rw c.settle_all-whole.ensures.same (both_say c.drain_all-complete.result c.settle_all-whole.result
    c.drain_all-complete.new.relay.taker c.learn_all.new.tokens.items c.drain_all-complete.ensures.ends
    c.settle_all-whole.ensures.whole c.settle_all-whole.ensures.meets)

pub returns-clause-closed : goal.returns-clause-closed
returns-clause-closed g c closed =
    closed_say c.drain_all-complete.result c.settle_all-whole.result c.args.self.now.taker
    c.learn_all.new.relay.taker c.drain_all-complete.new.relay.taker c.learn_all.new.tokens.items
    c.learn_all.ensures.count c.drain_all-complete.ensures.takes c.drain_all-complete.ensures.ends
    (rw c.learn_all.ensures.tokens c.learn_all.ensures.told) c.serves_what_it_took.ensures.closes
    c.settle_all-whole.ensures.whole c.settle_all-whole.ensures.meets
    (rw c.learn_all.ensures.tokens closed)
