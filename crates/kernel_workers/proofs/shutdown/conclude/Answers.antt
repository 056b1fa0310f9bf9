use Rattle.std.proofs.Common.{refl}
use Rattle.kernel_workers.proofs.ShutdownLemmas.{both_pushed, concludes, of_one_queue}
use Rattle.kernel_workers.proofs.shutdown.conclude.Goals as goal

pub conclude-complete-requires : goal.conclude-complete-requires
conclude-complete-requires g c =
    of_one_queue c.args.relay.taker c.args.channels.shell c.args.channels.control c.args.tokens.items
    c.push_reserved-2.new.self.items
    (both_pushed c.args.tokens.items c.push_reserved.new.self.items c.push_reserved-2.new.self.items
    c.args.channels.shell c.args.channels.control c.push_reserved.ensures.items c.push_reserved-2.ensures.items)
    c.requires.rest c.requires.queue.0 c.requires.queue.1

pub returns : goal.returns
returns g c =
    let concluded = c.conclude-complete in
    concludes c.args.relay.taker concluded.new.self.taker c.args.channels.shell c.args.channels.control
    c.args.tokens.items c.push_reserved-2.new.self.items c.args.channels.done _ refl
    (both_pushed c.args.tokens.items c.push_reserved.new.self.items c.push_reserved-2.new.self.items
    c.args.channels.shell c.args.channels.control c.push_reserved.ensures.items c.push_reserved-2.ensures.items)
    c.requires.rest c.requires.closed.0 c.requires.closed.1 concluded.ensures.queue concluded.ensures.grows
    concluded.ensures.complete concluded.ensures.last concluded.ensures.numbers
    concluded.ensures.meets concluded.ensures.closed c.said-reply.ensures
