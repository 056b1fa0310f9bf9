use Rattle.std.proofs.Common.{rules, refl, arith}
use Rattle.iopub_relay.proofs.FlushLemmas.{flushed_none, flushed_more, flushed_all}
use Rattle.iopub_relay.proofs.table.flush_all.Goals as goal

pub loop-place-init : goal.loop-place-init
loop-place-init g c = flushed_none g.W.Outlet.outflow c.args.subscribers.now.items

pub loop-place-preserved : goal.loop-place-preserved
loop-place-preserved g c =
    flushed_more g.W.Outlet.outflow c.args.subscribers.now.items c.loop-place.subscribers.items _ c.loop-place.place
    c.index_mut-row.result.now c.flush-its.new.self c.loop-place.invariant (search rules) (search rules) c.flush-its.ensures
    refl

pub returns : goal.returns
returns g c =
    flushed_all g.W.Outlet.outflow c.args.subscribers.now.items c.loop-place.subscribers.items
    c.loop-place.place c.loop-place.invariant (let long = c.loop-place.invariant.long in grind (arith, long))
