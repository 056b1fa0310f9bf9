use Rattle.std.proofs.Common.{refl, ap}
use Rattle.iopub_event.specs.declared.event.Event.{Event}
use Rattle.iopub_queue.specs.Values.{Taking}
use Rattle.iopub_relay.specs.Within.{relaying}
use Rattle.iopub_relay.proofs.TakenLemmas.{serves_more, serves_close, serves_lacking, lacks_room}
use Rattle.iopub_relay.proofs.ChangeLemmas.{serves_one, serves_topic}
use Rattle.iopub_relay.proofs.relay.Relay.pump.Goals as goal

pub invariant_of-self-in-Closed : goal.invariant_of-self-in-Closed
invariant_of-self-in-Closed g c =
    serves_close g.W.Outlet.outflow (relaying c.self.inside) _ c.in-Closed.number c.in-Closed.ensures.given refl
    c.self.invariant

pub invariant_of-self-in-Done : goal.invariant_of-self-in-Done
invariant_of-self-in-Done g c =
    serves_more g.W.Outlet.outflow (relaying c.self.inside) _ c.in-Item.field-0 c.in-Item.event
    c.in-Item.ensures.given c.in-Done.ensures.fits c.is_rising.ensures refl c.self.invariant

pub invariant_of-self-in-NoTopic : goal.invariant_of-self-in-NoTopic
invariant_of-self-in-NoTopic g c =
    serves_more g.W.Outlet.outflow (relaying c.self.inside) _ c.in-Item.field-0 c.in-Item.event
    c.in-Item.ensures.given c.in-NoTopic.ensures.1.0.fits c.is_rising.ensures refl c.self.invariant

pub invariant_of-self-in-NoRoom : goal.invariant_of-self-in-NoRoom
invariant_of-self-in-NoRoom g c =
    serves_lacking g.W.Outlet.outflow c.in-NoRoom.id (relaying c.self.inside) _
    (lacks_room c.in-NoRoom.id c.in-Item.field-0 c.in-Item.event (relaying c.self.inside) _ c.in-Item.ensures.given
    c.in-NoRoom.ensures.0 c.in-NoRoom.ensures.1.0 c.in-NoRoom.ensures.1.1 c.saturating_add-self-inside.ensures)
    c.self.invariant

pub returns-in-Complete : goal.returns-in-Complete
returns-in-Complete g c =
    rw (← c.self.view_is) (
      ap (λ (taker : Taking (Event g.row.W.Denot)). record (relaying c.self.inside) {
        taker = taker;
      }) c.in-Complete.ensures.given.0,
      c.in-Complete.ensures.given.1,
    )

pub returns-in-Done : goal.returns-in-Done
returns-in-Done g c =
    rw (← c.self.view_is) (
      serves_one g.W.Outlet.outflow (relaying c.self.inside) _ c.in-Item.field-0 c.in-Item.event
          _ c.in-Item.ensures.given c.in-Done.ensures (λ id never. absurd never) refl c.self.invariant,
      c.in-Done.ensures.starves,
    )

pub returns-in-NoTopic : goal.returns-in-NoTopic
returns-in-NoTopic g c =
    let (serves, asks) = serves_topic g.W.Outlet.outflow (relaying c.self.inside) _ c.in-Item.field-0 c.in-NoTopic.id
    c.in-Item.event c.in-Item.ensures.given c.in-NoTopic.ensures.1.0 c.in-NoTopic.ensures.0 refl c.self.invariant in
    rw (← c.self.view_is) (serves, asks, c.in-NoTopic.ensures.1.0.starves, c.in-NoTopic.ensures.1.1)
