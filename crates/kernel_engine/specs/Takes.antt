-- What an engine makes of the frames of one message ('Messaging in Jupyter' 5.3, "The Wire Protocol"). They are opened
-- as a request under its key, and the request is read and handled.
use Rattle.std.specs.Prelude.{◌≡◌, ◌⊎◌, ◌<◌, ◌≤◌, ◌^◌, ⊤, ℕ, List}
use Rattle.jmsg_envelope.specs.Envelope.{IsNoEnvelope, Opened}
use Rattle.jmsg_envelope.specs.declared.envelope.Envelope.{Envelope}
use Rattle.jmsg_envelope.specs.declared.fault.EnvelopeFault.{EnvelopeFault}
use Rattle.kernel_engine.specs.declared.asked.Asked.{Asked}
use Rattle.kernel_engine.specs.declared.asked.Done.{Done}
use Rattle.kernel_engine.specs.declared.asked.Done.TheVariants.{Ignored, Lost, Handled, Refused}
use Rattle.kernel_engine.specs.declared.asked.Unread.{Unread}
use Rattle.kernel_engine.specs.declared.asked.Unread.TheVariants.{NoRequest, NoMemory}
use Rattle.kernel_engine.specs.declared.fault.EngineFault.{EngineFault}
use Rattle.kernel_engine.specs.declared.fault.EngineFault.TheVariants.{Worn}
use Rattle.kernel_engine.specs.declared.parts.Parts.{Parts}
use Rattle.kernel_engine.specs.declared.side.Side.{Side}
use Rattle.kernel_engine.specs.Block.{Message}
use Rattle.kernel_engine.specs.Comes.{IsRead, message_comes}
use Rattle.kernel_engine.specs.Handles.{HandlesErr, HandlesOk}
use Rattle.kernel_engine.specs.World.{World}

-- the frames are no envelope under a key
abbrev pub IsNoRequest : List ℕ → Message → Type 0
IsNoRequest key frames = (fault : EnvelopeFault) × IsNoEnvelope key frames fault

-- the frames are a request under a key, and this is what it comes to on a channel
pub record Asks (key : List ℕ) (side : Side) (frames : Message) (asked : Asked) : Type 0 where
  pub opened : Opened key frames asked.request
  pub does : IsRead asked.does (message_comes side asked.request)

-- why the frames aren't read
abbrev pub AreUnread : List ℕ → Message → Unread → Type 0
AreUnread key frames NoRequest = IsNoRequest key frames
AreUnread key frames NoMemory = ⊤

-- All ids were given. If a message isn't read for want of memory that is its fault then, and nothing changes.
pub record IsWornOut {I P S W : Type 0} (old : Parts I P S W) (fault : EngineFault) (new : Parts I P S W) : Type 0 where
  pub many : 2 ^ 62 < old.publishing.next
  pub fault_is : fault ≡ Worn
  pub same : new ≡ old

-- What comes of a message that isn't read. If it is no request it is ignored. If memory was wanting it is lost, or it
-- is refused if all ids were given.
abbrev pub GoesUnread : {I P S W : Type 0} → Parts I P S W → Unread → Done → Type 0
GoesUnread engine NoRequest done = done ≡ Ignored
GoesUnread engine NoMemory done = ((engine.publishing.next ≤ 2 ^ 62) × (done ≡ Lost))
    ⊎ ((2 ^ 62 < engine.publishing.next) × (done ≡ Refused Worn))

module _ {I P S W Cell : Type 0} (world : World I P S W Cell) (may : Type 0) where
  -- A request that was opened was handled or refused. If it was handled, it was read, and what was done is what it
  -- comes to.
  abbrev pub Finishes : Asked → Parts I P S W → Done → Parts I P S W → Type 0
  Finishes asked old Ignored new = ⊥
  Finishes asked old Lost new = ⊥
  Finishes asked old (Handled handled) new =
      (asked.does ≡ message_comes old.side asked.request) × HandlesOk world may asked.request old handled new
  Finishes asked old (Refused fault) new = HandlesErr world may asked.request old fault new

  -- What an engine makes of a message. If it is no request, or isn't read for want of memory, nothing changes. Any
  -- other is handled or refused. A message that isn't read for want of memory is refused, too, if all ids were given.
  abbrev pub Takes : Message → Parts I P S W → Done → Parts I P S W → Type 0
  Takes frames old Ignored new = IsNoRequest old.publishing.signer frames × (new ≡ old)
  Takes frames old Lost new = (old.publishing.next ≤ 2 ^ 62) × (new ≡ old)
  Takes frames old (Handled handled) new =
      (request : Envelope) × Opened old.publishing.signer frames request × HandlesOk world may request old handled new
  Takes frames old (Refused fault) new =
      ((request : Envelope) × Opened old.publishing.signer frames request × HandlesErr world may request old fault new)
      ⊎ IsWornOut old fault new
