-- What is published grows: the messages that a publishing part adds to its sink, with rising numbers.
use Rattle.std.specs.Prelude.{◌≡◌, ◌+◌, ◌≤◌, ◌^◌, List, [], ◌++◌, length, map, Bool, true, false, Option, Some}
use Rattle.iopub_event.specs.declared.event.Event.{Event}
use Rattle.iopub_event.specs.declared.event.Event.TheVariants as events
use Rattle.jmsg_envelope.specs.Stamp.{Stamping}
use Rattle.iopub_queue.specs.Sink.{Sink}
use Rattle.jmsg_types.specs.declared.publication.Publication.{Publication}
use Rattle.kernel_engine.specs.declared.heading.Heading.{Heading}
use Rattle.kernel_engine.specs.declared.publishing.Publishing.{Publishing}
use Rattle.kernel_engine.specs.Block.{Message, Sealing, published_all}

-- a message as an item of a sink
abbrev pub item_of : {W : Type 0} → Message → Option (Event W)
item_of message = Some (events.Message message)

-- what all messages of an engine share
abbrev pub sealing_of : {P S : Type 0} → Stamping S → Publishing P S → Sealing
sealing_of stamp publishing = record {
  key = publishing.signer;
  session = (stamp.meaning publishing.stamp).session;
  id = stamp.id_text (stamp.meaning publishing.stamp);
}

-- These publications were published under a heading, with the next numbers. Nothing else changed, and the sink is the
-- same one. If no number past 2^63 was given before, none is given now.
pub record PutsUnder {P S W : Type 0} (sink : Sink P (Event W))
    (stamp : Stamping S) (heading : Heading)
    (old new : Publishing P S) (publications : List Publication) : Type 0 where
  pub items : sink.items new.sink ≡ sink.items old.sink
      ++ map item_of (published_all (sealing_of stamp old) heading old.next publications)
  pub rest : new ≡ record old { sink = new.sink; next = old.next + length publications }
  pub same : sink.is_same old.sink new.sink
  pub few : old.next ≤ 2 ^ 63 + 1 → new.next ≤ 2 ^ 63 + 1

-- the publications of a request that are published: none if it is silent, and else all
abbrev pub unless_silent : Bool → List Publication → List Publication
unless_silent true publications = []
unless_silent false publications = publications

-- a beginning of publications was published
pub record InFront (Grew : List Publication → Type 0) (silent : Bool) (publications : List Publication) : Type 0 where
  pub front : List Publication
  pub rest : List Publication
  pub whole : publications ≡ front ++ rest
  pub grew : Grew (unless_silent silent front)
