-- What an engine does with a request whose idle has to come after all that a word tells.
use Rattle.std.specs.Prelude.{◌≡◌, ◌⊎◌, ◌<◌, ◌^◌, List, true}
use Rattle.iopub_event.specs.declared.event.Event.{Event}
use Rattle.iopub_queue.specs.Entries.{Entry, StandsBehind}
use Rattle.iopub_queue.specs.Sink.{Sink}
use Rattle.iopub_queue.specs.Values as queue
use Rattle.jmsg_envelope.specs.declared.envelope.Envelope.{Envelope}
use Rattle.kernel_engine.specs.declared.fault.EngineFault.{EngineFault}
use Rattle.kernel_engine.specs.declared.fault.EngineFault.TheVariants.{OwedIdle, Memory, Worn}
use Rattle.kernel_engine.specs.declared.parts.Parts.{Parts}
use Rattle.kernel_engine.specs.declared.response.Response.{Response}
use Rattle.kernel_engine.specs.Block.{Message}
use Rattle.kernel_engine.specs.Growth.{item_of, sealing_of}
use Rattle.kernel_engine.specs.Handles.{Closes, HandlesCut, HandlesNot, HandlesOk, HandsBack}
use Rattle.kernel_engine.specs.WellBlocked.{Block, idle_of}
use Rattle.kernel_engine.specs.World.{World}

module _ {I P S W : Type 0} (publisher : P → queue.Publishing (Event W)) where
  -- The engine's publisher was told of a list of entries that ends with the message. All that the word tells stands
  -- before that.
  abbrev pub IsBehind : Message → List (Entry (Event W)) → Parts I P S W → Parts I P S W → Type 0
  IsBehind message word old new = StandsBehind (publisher new.publishing.sink).told
      ((publisher old.publishing.sink).number, item_of message) word

  -- the idle of a block is published after all that a word tells
  pub record ClosesBehind (sink : Sink P (Event W)) (idle : Message) (word : List (Entry (Event W)))
      (old new : Parts I P S W) : Type 0 where
    pub closes : Closes sink idle old new
    pub behind : IsBehind idle word old new

module _ {I P S W Cell : Type 0} (world : World I P S W Cell) (publisher : P → queue.Publishing (Event W)) where
  -- if a block was closed, its idle was published after all that a word tells
  abbrev pub IdleIsBehind : List (Entry (Event W)) → Block → Parts I P S W → Parts I P S W → Type 0
  IdleIsBehind word block old new = block.closed ≡ true
      → IsBehind publisher (idle_of (sealing_of world.stamp old.publishing) block) word old new

  -- a request was handled, and its idle was published after all that a word tells, if it was
  pub record HandlesLast (may : Type 0) (request : Envelope) (word : List (Entry (Event W))) (old : Parts I P S W)
      (handled : Response) (new : Parts I P S W) : Type 0 where
    pub handles : HandlesOk world may request old handled new
    pub behind : IdleIsBehind word handles.block old new

  -- Memory was refused, or the sink refused, while a request was done. If the idle of its cut block was published, then
  -- after all that a word tells.
  pub record CutLast (may : Type 0) (request : Envelope) (word : List (Entry (Event W))) (old new : Parts I P S W)
      : Type 0 where
    pub cut : HandlesCut world may request old new
    pub behind : IdleIsBehind word cut.block old new

  -- what each fault says of such a request that was refused
  abbrev pub HandlesLastErr : Type 0 → Envelope → List (Entry (Event W)) → Parts I P S W → EngineFault → Parts I P S W
      → Type 0
  HandlesLastErr may request word old (OwedIdle back) new = HandsBack world request back old new
  HandlesLastErr may request word old Memory new = HandlesNot world old new ⊎ CutLast may request word old new
  HandlesLastErr may request word old Worn new = (2 ^ 62 < old.publishing.next) × (new ≡ old)
