use Rattle.std.proofs.Common.{rules, refl, arith}
use Rattle.listed.specs.Bodies.{bodies}
use Rattle.iopub_relay.proofs.ReceiveLemmas.{received_none, received_more, received_all}
use Rattle.iopub_relay.proofs.table.receive_all.Goals as goal

pub loop-place-init : goal.loop-place-init
loop-place-init g c = received_none g.W.Outlet.outflow (bodies c.args.frames.now) c.args.rows.now.items

pub loop-place-preserved : goal.loop-place-preserved
loop-place-preserved g c =
    received_more g.W.Outlet.outflow (bodies c.args.frames.now) c.args.rows.now.items c.loop-place.rows.items _
    c.loop-place.place c.index_mut-row.result.now c.receive.new.self c.loop-place.invariant (search rules)
    (search rules)
    c.receive.ensures refl

pub returns : goal.returns
returns g c =
    received_all g.W.Outlet.outflow (bodies c.args.frames.now) c.args.rows.now.items c.loop-place.rows.items
    c.loop-place.place c.loop-place.invariant (let long = c.loop-place.invariant.long in grind (arith, long))
