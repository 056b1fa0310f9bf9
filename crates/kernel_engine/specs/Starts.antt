-- How an engine begins ('Messaging in Jupyter' 5.3, "Kernel status": the state `starting`).
use Rattle.std.specs.Prelude.{◌≡◌, ◌≢◌, ◌⊎◌, []}
use Rattle.iopub_event.specs.declared.event.Event.{Event}
use Rattle.iopub_queue.specs.Sink.{Sink}
use Rattle.jmsg_envelope.specs.Stamp.{Stamping}
use Rattle.kernel_engine.specs.declared.fault.EngineFault.{EngineFault}
use Rattle.kernel_engine.specs.declared.fault.EngineFault.TheVariants.{Memory}
use Rattle.kernel_engine.specs.declared.parts.Parts.{Parts}
use Rattle.kernel_engine.specs.declared.side.Side.TheVariants.{Shell, Control}
use Rattle.kernel_engine.specs.Opens.{PublishesNone, PublishesStarting}

module _ {I P S W : Type 0} (sink : Sink P (Event W))
    (stamp : Stamping S) where
  -- an engine of shell that has given no id says that the kernel starts; these are its parts
  pub record StartsFirst (old new : Parts I P S W) : Type 0 where
    pub shell : old.side ≡ Shell
    pub first : old.publishing.next ≡ 1
    pub starts : PublishesStarting sink stamp old.publishing new.publishing
    pub rest : new ≡ record old { publishing = new.publishing }

  -- any other engine does nothing
  pub record StartsLater (old new : Parts I P S W) : Type 0 where
    pub other : (old.side ≡ Control) ⊎ (old.publishing.next ≢ 1)
    pub same : new ≡ old

  -- memory was refused, or the sink refused, and nothing was published
  pub record StartsRefused (old : Parts I P S W) (fault : EngineFault) (new : Parts I P S W) : Type 0 where
    pub memory : fault ≡ Memory
    pub shell : old.side ≡ Shell
    pub first : old.publishing.next ≡ 1
    pub none : PublishesNone sink stamp old.publishing new.publishing
    pub rest : new ≡ record old { publishing = new.publishing }

  -- an engine of shell that has published nothing says that the kernel starts
  pub record SaysStarting (old new : Parts I P S W) : Type 0 where
    pub shell : old.side ≡ Shell
    pub first : sink.items old.publishing.sink ≡ []
    pub starts : PublishesStarting sink stamp old.publishing new.publishing
    pub rest : new ≡ record old { publishing = new.publishing }

  -- any other engine does nothing
  pub record SaysNothing (old new : Parts I P S W) : Type 0 where
    pub other : (old.side ≡ Control) ⊎ (sink.items old.publishing.sink ≢ [])
    pub same : new ≡ old

  -- memory was refused, or the sink refused, and nothing was published
  pub record StartsNot (old : Parts I P S W) (fault : EngineFault) (new : Parts I P S W) : Type 0 where
    pub memory : fault ≡ Memory
    pub shell : old.side ≡ Shell
    pub first : sink.items old.publishing.sink ≡ []
    pub none : PublishesNone sink stamp old.publishing new.publishing
    pub rest : new ≡ record old { publishing = new.publishing }
