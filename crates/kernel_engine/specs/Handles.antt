-- What an engine does with one request. This tells what is published of it, what is owed, what is replied, and what the
-- engine is then.
use Rattle.std.specs.Prelude.{◌≡◌, ◌≢◌, ◌⊎◌, ℕ, ◌+◌, ◌<◌, ◌≤◌, ◌^◌, List, [], ◌∷◌, ◌++◌, map, true, false}
use Rattle.std.specs.Prelude.{Option, Some, None}
use Rattle.iopub_event.specs.declared.event.Event.{Event}
use Rattle.iopub_event.specs.declared.event.Event.TheVariants as events
use Rattle.jmsg_envelope.specs.declared.envelope.Envelope.{Envelope}
use Rattle.iopub_queue.specs.Sink.{Sink}
use Rattle.jmsg_types.specs.declared.publication.Publication.{Publication}
use Rattle.jmsg_types.specs.declared.reply.Reply.{Reply}
use Rattle.kernel_engine.specs.declared.does.Does.{Does}
use Rattle.kernel_engine.specs.declared.fault.EngineFault.{EngineFault}
use Rattle.kernel_engine.specs.declared.fault.EngineFault.TheVariants.{OwedIdle, Memory, Worn}
use Rattle.kernel_engine.specs.declared.response.Response.{Response}
use Rattle.kernel_engine.specs.declared.heading.Heading.{Heading}
use Rattle.kernel_engine.specs.declared.parts.Parts.{Parts}
use Rattle.kernel_engine.specs.declared.publishing.Publishing.{Publishing}
use Rattle.kernel_engine.specs.Answer.{Answer, AnswersRequest, Leaves}
use Rattle.kernel_engine.specs.Block.{Message, reply_message}
use Rattle.kernel_engine.specs.Comes.{message_comes}
use Rattle.kernel_engine.specs.Course.{Course, MayEnd}
use Rattle.kernel_engine.specs.Growth.{PutsUnder, item_of, sealing_of}
use Rattle.kernel_engine.specs.Opens.{ids_of_reply}
use Rattle.kernel_engine.specs.Publications.{Publishes}
use Rattle.kernel_engine.specs.Runs.{MayBeCut}
use Rattle.kernel_engine.specs.WellBlocked.{Block, heading_of, idle_of, messages_of_block, number_past}
use Rattle.kernel_engine.specs.World.{World}

-- what is published of an idle that may be owed: the idle if one is, and else nothing
abbrev pub owed_items : {W : Type 0} → Option (Event W) → List (Option (Event W))
owed_items None = []
owed_items (Some owed) = Some owed ∷ []

-- what was answered with a reply, and what the engine is then
abbrev pub answer_with : {I P S W : Type 0} → Response → Option Reply → Parts I P S W → Answer I
answer_with handled reply parts = record {
  reply = reply;
  state = parts.interp;
  count = parts.count;
  order = handled.order;
}

module _ {I P S W : Type 0} (sink : Sink P (Event W)) where
  -- nothing changed but the sink, which was asked and refused: its list is as it was
  pub record AsksInVain (old new : Parts I P S W) : Type 0 where
    pub items : sink.items new.publishing.sink ≡ sink.items old.publishing.sink
    pub rest : new ≡ record old { publishing = record old.publishing { sink = new.publishing.sink } }
    pub same : sink.is_same old.publishing.sink new.publishing.sink

  -- If an idle was owed it is published, and none is owed then. If none was owed nothing changes.
  pub record Pays (old new : Parts I P S W) : Type 0 where
    pub items : sink.items new.publishing.sink ≡ sink.items old.publishing.sink ++ owed_items old.owed
    pub rest : new ≡ record old { publishing = record old.publishing { sink = new.publishing.sink }; owed = None }
    pub same : sink.is_same old.publishing.sink new.publishing.sink
    pub settled : old.owed ≡ None → new ≡ old

  -- the idle that is owed stays owed, since the sink refused it
  pub record PaysNot (old new : Parts I P S W) : Type 0 where
    pub owes : old.owed ≢ None
    pub refused : sink.may_refuse old.publishing.sink
    pub asked : AsksInVain old new

  -- the idle of a block is published
  pub record Closes (idle : Message) (old new : Parts I P S W) : Type 0 where
    pub items : sink.items new.publishing.sink ≡ sink.items old.publishing.sink ++ item_of idle ∷ []
    pub rest : new ≡ record old { publishing = record old.publishing { sink = new.publishing.sink } }
    pub same : sink.is_same old.publishing.sink new.publishing.sink

  -- the idle of a block is owed, since the sink refused it
  pub record LeavesOpen (idle : Message) (old new : Parts I P S W) : Type 0 where
    pub refused : sink.may_refuse old.publishing.sink
    pub items : sink.items new.publishing.sink ≡ sink.items old.publishing.sink
    pub rest : new ≡ record old {
      publishing = record old.publishing { sink = new.publishing.sink };
      owed = Some (events.Message idle);
    }
    pub same : sink.is_same old.publishing.sink new.publishing.sink

module _ {I P S W Cell : Type 0} (world : World I P S W Cell) where
  -- What a request left of an engine for which memory was refused. Either nothing of the request was done. Or some of
  -- it was, by a course, and these publications are a beginning of what is published of that.
  abbrev pub RequestLeaves : Type 0 → Does → Parts I P S W → Parts I P S W → List Publication → Type 0
  RequestLeaves may does old new publications =
      ((new.interp ≡ old.interp) × (new.count ≡ old.count) × (publications ≡ []))
      ⊎ ((course : Course I) × (whole : List Publication) × (behind : List Publication)
      × Publishes world.language does old.interp old.count course whole
      × (whole ≡ publications ++ behind)
      × Leaves world.language does old.interp old.count course new.interp
      new.count × MayBeCut may course.ending whole behind)

  -- A request was answered by a course. All that is published of it was, and its reply was made with the number that
  -- followed.
  pub record AnswersInBlock (may : Type 0) (heading : Heading) (identities : List (List ℕ)) (msg_type : List ℕ)
      (does : Does) (old : Parts I P S W) (handled : Response) (new : Parts I P S W) : Type 0 where
    pub course : Course I
    pub publications : List Publication
    pub reply : Option Reply
    pub publishes : Publishes world.language does old.interp old.count course
        publications
    pub answers : AnswersRequest world.language does old.interp old.count course
        (answer_with handled reply new)
    pub ending : MayEnd may course.ending
    pub at : Publishing P S
    pub grew : PutsUnder world.sink world.stamp heading old.publishing at publications
    pub replied : handled.reply
        ≡ reply_message (sealing_of world.stamp old.publishing) heading identities at.next msg_type reply
    pub rest : new ≡ record old {
      interp = new.interp;
      count = new.count;
      publishing = record at { next = at.next + ids_of_reply reply };
    }
    pub few : old.publishing.next ≤ 2 ^ 63 + 1 → new.publishing.next ≤ 2 ^ 63 + 1

  -- Memory was refused. A beginning of what is published of a request was published, and the rest of the engine is as
  -- `RequestLeaves` says.
  pub record AnswersNot (may : Type 0) (heading : Heading) (does : Does) (old new : Parts I P S W)
      : Type 0 where
    pub publications : List Publication
    pub grew : PutsUnder world.sink world.stamp heading old.publishing new.publishing publications
    pub rest : new ≡ record old { interp = new.interp; count = new.count; publishing = new.publishing }
    pub left : RequestLeaves may does old new publications

  -- What an engine adds to its sink by a block: the idle that was owed, and the block. If the block isn't closed, its
  -- own idle is owed.
  pub record AddsBlock (block : Block) (old new : Parts I P S W) : Type 0 where
    pub number : block.number ≡ old.publishing.next
    pub dated : world.stamp.is_date (world.stamp.meaning old.publishing.stamp) block.date ≡ true
    pub items : world.sink.items new.publishing.sink ≡ world.sink.items old.publishing.sink
        ++ (owed_items old.owed ++ map item_of (messages_of_block (sealing_of world.stamp old.publishing) block))
    pub owed : ((block.closed ≡ true) × (new.owed ≡ None))
        ⊎ ((block.closed ≡ false)
        × (new.owed ≡ Some (events.Message (idle_of (sealing_of world.stamp old.publishing) block)))
        × world.sink.may_refuse old.publishing.sink)
    pub side : new.side ≡ old.side
    pub signer : new.publishing.signer ≡ old.publishing.signer
    pub meant : world.stamp.meaning new.publishing.stamp ≡ world.stamp.meaning old.publishing.stamp
    pub same : world.sink.is_same old.publishing.sink new.publishing.sink

  -- A request was handled by a course. Its block was added and it has its reply. What the engine is then follows from
  -- the request, the course and what the engine was. No number past 2^63 was given.
  pub record HandlesOk (may : Type 0) (request : Envelope) (old : Parts I P S W) (handled : Response)
      (new : Parts I P S W) : Type 0 where
    pub few : old.publishing.next ≤ 2 ^ 62
    pub course : Course I
    pub block : Block
    pub reply : Option Reply
    pub parent : block.parent ≡ request.header
    pub publishes : Publishes world.language (message_comes old.side request) old.interp old.count course
        block.publications
    pub answers : AnswersRequest world.language (message_comes old.side request) old.interp old.count course
        (answer_with handled reply new)
    pub ending : MayEnd may course.ending
    pub replied : handled.reply ≡ reply_message (sealing_of world.stamp old.publishing) (heading_of block)
        request.identities (number_past block) request.msg_type reply
    pub adds : AddsBlock block old new
    pub next : new.publishing.next ≡ number_past block + ids_of_reply reply
    pub last : new.publishing.next ≤ 2 ^ 63 + 1

  -- Memory was refused, or the sink refused, before anything of a request was published. If an idle was owed it is
  -- published.
  pub record HandlesNot (old new : Parts I P S W) : Type 0 where
    pub few : old.publishing.next ≤ 2 ^ 62
    pub items : world.sink.items new.publishing.sink ≡ world.sink.items old.publishing.sink ++ owed_items old.owed
    pub rest : new ≡ record old {
      publishing = record old.publishing { sink = new.publishing.sink; stamp = new.publishing.stamp };
      owed = None;
    }
    pub meant : world.stamp.meaning new.publishing.stamp ≡ world.stamp.meaning old.publishing.stamp
    pub same : world.sink.is_same old.publishing.sink new.publishing.sink

  -- Memory was refused, or the sink refused, while a request was done. A cut block was added, and the engine is as
  -- `RequestLeaves` says. No number past 2^63 was given.
  pub record HandlesCut (may : Type 0) (request : Envelope) (old new : Parts I P S W) : Type 0 where
    pub few : old.publishing.next ≤ 2 ^ 62
    pub block : Block
    pub parent : block.parent ≡ request.header
    pub left : RequestLeaves may (message_comes old.side request) old new block.publications
    pub adds : AddsBlock block old new
    pub next : new.publishing.next ≡ number_past block
    pub last : new.publishing.next ≤ 2 ^ 63 + 1

  -- An idle is owed, and the sink refused it again. The request comes back, and nothing else changed.
  pub record HandsBack (request back : Envelope) (old new : Parts I P S W) : Type 0 where
    pub few : old.publishing.next ≤ 2 ^ 62
    pub back_is : back ≡ request
    pub owes : PaysNot world.sink old new

  -- what each fault says of a request that was refused
  abbrev pub HandlesErr : Type 0 → Envelope → Parts I P S W → EngineFault → Parts I P S W → Type 0
  HandlesErr may request old (OwedIdle back) new = HandsBack request back old new
  HandlesErr may request old Memory new = HandlesNot old new ⊎ HandlesCut may request old new
  HandlesErr may request old Worn new = (2 ^ 62 < old.publishing.next) × (new ≡ old)
