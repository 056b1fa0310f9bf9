-- What an engine stands on: its interpreter's language, its sink and its stamp.
use Rattle.interp_core.specs.Interpreter.{Meaning}
use Rattle.iopub_event.specs.declared.event.Event.{Event}
use Rattle.iopub_queue.specs.Sink.{Sink}
use Rattle.jmsg_envelope.specs.Stamp.{Stamping}

-- what is known of an interpreter, of a sink and of a stamp
pub record World (I P S W Cell : Type 0) : Type 1 where
  pub language : Meaning I Cell
  pub sink : Sink P (Event W)
  pub stamp : Stamping S

-- the world of these three
abbrev pub world_of : {I P S W Cell : Type 0} → Meaning I Cell → Sink P (Event W) → Stamping S → World I P S W Cell
world_of language sink stamp = record { language = language; sink = sink; stamp = stamp }
