use Rattle.std.proofs.Common.{arith, List, [], ◌≡◌, subst, sym}
use Rattle.std.proofs.lemmas.Grind.{common_steps}
use Rattle.iopub_event.specs.declared.event.Event.{Event}
use Rattle.iopub_relay.specs.declared.subscriber.Subscriber.{Subscriber}
use Rattle.iopub_relay.proofs.FeedLemmas.{Served, served_none, served_more, fed_ok, rising_ok}
use Rattle.iopub_relay.proofs.feed.feed_core.Goals as goal

pub loop-event-init : goal.loop-event-init
loop-event-init g c = record {
  served = subst (λ (rows : List (Subscriber g.row.W.Denot)). Served g.W.Outlet.outflow [] rows)
      (sym c.new-table.ensures)
      (served_none g.W.Outlet.outflow);
  rest = grind (arith, common_steps);
}

pub loop-event-preserved : goal.loop-event-preserved
loop-event-preserved g c = record {
  served = served_more g.W.Outlet.outflow c.loop-event.yielded c.in-Some.event c.loop-event.table
      c.serve_or_fail.new.table
      c.loop-event.invariant.served c.in_ok-serve_or_fail.ensures.fits c.in_ok-serve_or_fail.ensures.starves;
  rest = grind (arith, common_steps);
}

pub returns-clause-rising : goal.returns-clause-rising
returns-clause-rising g c =
    rising_ok g.W.Outlet.outflow c.writers_of.result c.into_rows.result.items c.into_rows.ensures.rising
    c.writers_of.ensures

pub returns-clause-fed : goal.returns-clause-fed
returns-clause-fed g c =
    let all : c.args.events.items ≡ c.loop-event.yielded = grind (arith, common_steps) in
    fed_ok g.W.Outlet.outflow c.writers_of.result c.args.events.items c.into_rows.result.items
    (subst (λ (events : List (Event g.row.W.Denot)). Served g.W.Outlet.outflow events c.into_rows.result.items)
    (sym all)
    (subst (λ (rows : List (Subscriber g.row.W.Denot)). Served g.W.Outlet.outflow c.loop-event.yielded rows)
    (sym c.into_rows.ensures.rows) c.loop-event.invariant.served)) c.writers_of.ensures
