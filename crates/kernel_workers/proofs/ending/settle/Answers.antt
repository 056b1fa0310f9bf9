use Rattle.std.proofs.Common.{◌++◌, ◌∷◌, [], List, ap, ◌∙◌}
use Rattle.iopub_event.specs.declared.event.Event.{Event}
use Rattle.iopub_queue.specs.Values.{Publishing}
use Rattle.kernel_workers.proofs.RunningLemmas.{took_if}
use Rattle.kernel_workers.proofs.ending.settle.Goals as goal

pub returns-clause-took : goal.returns-clause-took
returns-clause-took g c =
    let closes = c.args.closes in
    let concluded = c.conclude-complete in
    took_if g.W.Outlet.outflow c.args.relay.taker concluded.new.self closes.shell closes.control closes.subscriptions
    c.push_reserved-3.new.self.items concluded.result c.args.restart c.left_of.result
    (c.push_reserved-3.ensures.items
    ∙ ap (λ (tokens : List (Publishing (Event g.row.W.Denot))). tokens ++ closes.subscriptions ∷ [])
    (c.push_reserved-2.ensures.items
    ∙ ap (λ (tokens : List (Publishing (Event g.row.W.Denot))). tokens ++ closes.control ∷ [])
    (c.push_reserved.ensures.items
    ∙ ap (λ (tokens : List (Publishing (Event g.row.W.Denot))). tokens ++ closes.shell ∷ []) c.requires.tokens)))
    c.requires.one c.requires.closed concluded.ensures.queue concluded.ensures.meets concluded.ensures.complete
    concluded.ensures.whole concluded.ensures.closed concluded.ensures.last concluded.ensures.numbers
    c.left_of.ensures.left
