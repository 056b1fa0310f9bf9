use Rattle.std.proofs.Common.{subst}
use Rattle.iopub_relay.specs.Relay.{Relaying, TakesMore}
use Rattle.kernel_workers.proofs.ShutdownLemmas.{ends_in_order, rest_on}
use Rattle.kernel_workers.proofs.shutdown.shutdown_order.Goals as goal

pub conclude-requires-clause-rest : goal.conclude-requires-clause-rest
conclude-requires-clause-rest g c =
    let shutdown = c.args.shutdown in
    let channels = c.close_channels-channels in
    rest_on shutdown.relay.taker c.join-relay.result.taker shutdown.shell.publishing.sink.number
    shutdown.control.publishing.sink.number channels.result.shell.number channels.result.control.number
    c.rest-tokens.result.0.items
    (subst (λ (relay : Relaying g.row.W.Denot). TakesMore relay.taker c.join-relay.result.taker)
    c.in-Ok.ensures.begun c.join-relay.ensures)
    channels.ensures.shell_ends.number channels.ensures.control_ends.number
    ((c.requires.rest c.rest-tokens.result.0 (c.rest-tokens.result.1, c.rest-tokens.ensures)).0)

pub conclude-requires-clause-room : goal.conclude-requires-clause-room
conclude-requires-clause-room g c =
    (c.requires.rest c.rest-tokens.result.0 (c.rest-tokens.result.1, c.rest-tokens.ensures)).1

pub returns-in-Ok-clause-ends : goal.returns-in-Ok-clause-ends
returns-in-Ok-clause-ends g c =
    let shutdown = c.args.shutdown in
    let channels = c.close_channels-channels in
    ends_in_order g.I.Interpreter.meaning g.S.Stamp.stamp shutdown.shell shutdown.control shutdown.request
    shutdown.relay c.join-relay.result _ c.rest-tokens.result.0 channels.result.shell channels.result.control
    channels.result.done c.conclude.result
    (subst (λ (relay : Relaying g.row.W.Denot). TakesMore relay.taker c.join-relay.result.taker)
    c.in-Ok.ensures.begun c.join-relay.ensures)
    c.rest-tokens.ensures channels.ensures c.conclude.ensures
