-- The ends of a block: it is opened by busy, with a new date, and its reply is made after what it published.
use Rattle.std.specs.Prelude.{◌≡◌, ℕ, ◌+◌, List, [], ◌∷◌, ◌++◌, true, Option, Some, None}
use Rattle.iopub_event.specs.declared.event.Event.{Event}
use Rattle.iopub_queue.specs.Sink.{Sink}
use Rattle.jmsg_envelope.specs.Stamp.{Stamping}
use Rattle.jmsg_types.specs.declared.reply.Reply.{Reply}
use Rattle.kernel_engine.specs.declared.heading.Heading.{Heading}
use Rattle.kernel_engine.specs.declared.publishing.Publishing.{Publishing}
use Rattle.kernel_engine.specs.Block.{Message, busy, idle, starting}
use Rattle.kernel_engine.specs.Growth.{item_of, sealing_of}

module _ {P S W : Type 0} (sink : Sink P (Event W)) (stamp : Stamping S) where
  -- Nothing was published. The stamp may have been asked for a date, which changes nothing of what it means.
  pub record PublishesNone (old new : Publishing P S) : Type 0 where
    pub items : sink.items new.sink ≡ sink.items old.sink
    pub rest : new ≡ record old { sink = new.sink; stamp = new.stamp }
    pub meant : stamp.meaning new.stamp ≡ stamp.meaning old.stamp
    pub same : sink.is_same old.sink new.sink

  -- A block was opened. Busy was published with a date of the stamp and this parent header, and idle was made ready.
  pub record OpensBlock (parent : List ℕ) (heading : Heading) (idling : Message) (old new : Publishing P S)
      : Type 0 where
    pub dated : stamp.is_date (stamp.meaning old.stamp) heading.date ≡ true
    pub parent_is : heading.parent ≡ parent
    pub idle_is : idling ≡ idle (sealing_of stamp old) heading old.next
    pub items : sink.items new.sink
        ≡ sink.items old.sink ++ item_of (busy (sealing_of stamp old) heading old.next) ∷ []
    pub rest : new ≡ record old { sink = new.sink; stamp = new.stamp; next = old.next + 2 }
    pub meant : stamp.meaning new.stamp ≡ stamp.meaning old.stamp
    pub same : sink.is_same old.sink new.sink

  -- It was published that the kernel starts, with a date of the stamp.
  pub record PublishesStarting (old new : Publishing P S) : Type 0 where
    pub date : List ℕ
    pub dated : stamp.is_date (stamp.meaning old.stamp) date ≡ true
    pub items : sink.items new.sink
        ≡ sink.items old.sink ++ item_of (starting (sealing_of stamp old) date) ∷ []
    pub rest : new ≡ record old { sink = new.sink; stamp = new.stamp; next = 2 }
    pub meant : stamp.meaning new.stamp ≡ stamp.meaning old.stamp
    pub same : sink.is_same old.sink new.sink

-- how many ids a reply takes
abbrev pub ids_of_reply : Option Reply → ℕ
ids_of_reply None = 0
ids_of_reply (Some reply) = 1
