use Rattle.std.proofs.Common.{rules}
use Rattle.kernel_workers.proofs.StartingLemmas.{set_on}
use Rattle.kernel_workers.proofs.running.begin.Goals as goal

pub returns-in-Some-clause-set : goal.returns-in-Some-clause-set
returns-in-Some-clause-set g c =
    let workers = c.in-Ok.workers in
    set_on c.args.parts workers.publishers.shell workers.publishers.control workers.publishers.subscriptions _ _ _
    workers.relay.relay.taker _ c.in-Ok.ensures.set c.in-Some.ensures.shell c.in-Some.ensures.control
    c.in-Some.ensures.subscriptions (search rules)
