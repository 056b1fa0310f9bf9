-- All that an engine published ('Messaging in Jupyter' 5.3, "Kernel status"): that the kernel starts, and then one
-- block after the other.
use Rattle.std.specs.Prelude.{◌≡◌, ⊤, ℕ, ◌+◌, ◌≤◌, ◌^◌, List, [], ◌∷◌, ◌++◌, length, map, Bool, true, false}
use Rattle.std.specs.Prelude.{Option, Some, None, IfSome}
use Rattle.interp_core.specs.Interpreter.{Meaning}
use Rattle.iopub_event.specs.declared.event.Event.{Event}
use Rattle.iopub_event.specs.declared.event.Event.TheVariants as events
use Rattle.jmsg_envelope.specs.declared.envelope.Envelope.{Envelope}
use Rattle.jmsg_types.specs.declared.publication.Publication.{Publication}
use Rattle.kernel_engine.specs.declared.heading.Heading.{Heading}
use Rattle.kernel_engine.specs.declared.parts.Parts.{Parts}
use Rattle.kernel_engine.specs.declared.side.Side.{Side}
use Rattle.kernel_engine.specs.declared.side.Side.TheVariants.{Shell}
use Rattle.kernel_engine.specs.Comes.{message_comes}
use Rattle.kernel_engine.specs.Block.{Message, Sealing, idle, opened_block, starting}
use Rattle.kernel_engine.specs.Course.{Course}
use Rattle.kernel_engine.specs.Growth.{item_of, sealing_of}
use Rattle.kernel_engine.specs.Publications.{Publishes}
use Rattle.kernel_engine.specs.World.{World}

-- A block that was published. It has the date and the parent header of its messages, and its first number. It also has
-- what was published between busy and idle, and whether idle was.
pub record Block : Type 0 where
  pub date : List ℕ
  pub parent : List ℕ
  pub number : ℕ
  pub publications : List Publication
  pub closed : Bool

-- what the messages of a block share
abbrev pub heading_of : Block → Heading
heading_of block = record { date = block.date; parent = block.parent }

-- the number that follows those of a block: busy and idle have one each, and so has each publication
abbrev pub number_past : Block → ℕ
number_past block = block.number + 2 + length block.publications

-- the idle of a block
abbrev pub idle_of : Sealing → Block → Message
idle_of sealing block = idle sealing (heading_of block) block.number

-- a message if it was published, and else nothing
abbrev pub where_published : Bool → Message → List Message
where_published true message = message ∷ []
where_published false message = []

-- the messages of a block that were published
abbrev pub messages_of_block : Sealing → Block → List Message
messages_of_block sealing block = opened_block sealing (heading_of block) block.number block.publications
    ++ where_published block.closed (idle_of sealing block)

-- What was published: the date under which the kernel said that it starts, if it said so, and the blocks, the latest
-- first.
pub record History : Type 0 where
  pub started : Option (List ℕ)
  pub blocks : List Block

-- the message that the kernel starts, if it was published
abbrev pub front_of : Sealing → Option (List ℕ) → List Message
front_of sealing None = []
front_of sealing (Some date) = starting sealing date ∷ []

-- some messages, and after them those of blocks, the latest of which is listed first
abbrev pub said_behind : Sealing → List Message → List Block → List Message
said_behind sealing front [] = front
said_behind sealing front (block ∷ earlier) = said_behind sealing front earlier ++ messages_of_block sealing block

-- all messages that were published
abbrev pub messages_said : Sealing → History → List Message
messages_said sealing history = said_behind sealing (front_of sealing history.started) history.blocks

-- the first number of the blocks: 1, or 2 if the message that the kernel starts has the first
abbrev pub first_number : Option (List ℕ) → ℕ
first_number None = 1
first_number (Some date) = 2

-- the numbers rise from block to block, up to the next one
abbrev pub Rise : ℕ → List Block → ℕ → Type 0
Rise first [] next = next ≡ first
Rise first (block ∷ earlier) next = (number_past block ≤ next) × Rise first earlier block.number

-- the idle of each block was published
abbrev pub AreClosed : List Block → Type 0
AreClosed [] = ⊤
AreClosed (block ∷ earlier) = (block.closed ≡ true) × AreClosed earlier

-- If an idle is owed it is that of the latest block, which is open. All other blocks are closed.
abbrev pub Owes : {W : Type 0} → Sealing → Option (Event W) → List Block → Type 0
Owes sealing None blocks = AreClosed blocks
Owes sealing (Some owed) [] = ⊥
Owes sealing (Some owed) (block ∷ earlier) =
    (block.closed ≡ false) × (owed ≡ events.Message (idle_of sealing block)) × AreClosed earlier

-- only the engine of shell says that the kernel starts, and with a date of the stamp
abbrev pub Began : (List ℕ → Bool) → Side → Option (List ℕ) → Type 0
Began is_date side None = ⊤
Began is_date side (Some date) = (side ≡ Shell) × (is_date date ≡ true)

-- A block holds a beginning of what is published of a message on a channel, in some state and by some course. The
-- block's parent is the header of that message, and its date is one of the stamp.
pub record BlockIsCut {State Cell : Type 0} (m : Meaning State Cell) (is_date : List ℕ → Bool) (side : Side)
    (block : Block)
    : Type 0 where
  pub request : Envelope
  pub parent : block.parent ≡ request.header
  pub dated : is_date block.date ≡ true
  pub state : State
  pub count : ℕ
  pub course : Course State
  pub whole : List Publication
  pub rest : List Publication
  pub publishes : Publishes m (message_comes side request) state count course whole
  pub front : whole ≡ block.publications ++ rest

-- each of the blocks holds such a beginning
abbrev pub AreCuts : {State Cell : Type 0} → Meaning State Cell → (List ℕ → Bool) → Side → List Block → Type 0
AreCuts m is_date side [] = ⊤
AreCuts m is_date side (block ∷ earlier) = BlockIsCut m is_date side block × AreCuts m is_date side earlier

-- All that was published on a channel is well blocked ('Messaging in Jupyter' 5.3, "Kernel status"). First comes that
-- the kernel starts, if it said so, and then one block after the other. Each goes from busy to idle, and holds a
-- beginning of what is published of a message with its parent header. The numbers rise, up to the next one. The last
-- block is open exactly if its idle is owed.
pub record IsWellBlocked {State Cell W : Type 0} (m : Meaning State Cell) (is_date : List ℕ → Bool) (side : Side)
    (sealing : Sealing) (next : ℕ) (owed : Option (Event W)) (items : List (Option (Event W))) : Type 0 where
  pub history : History
  pub items_are : items ≡ map item_of (messages_said sealing history)
  pub began : Began is_date side history.started
  pub cuts : AreCuts m is_date side history.blocks
  pub rise : Rise (first_number history.started) history.blocks next
  pub owes : Owes sealing owed history.blocks

-- What an engine keeps. What it published is well blocked. An idle is owed only if the sink may refuse. The engine
-- counted no more cells than the number of its next id, and it gave no number past 2^63.
pub record KeepsBlocks {I P S W Cell : Type 0} (world : World I P S W Cell) (parts : Parts I P S W) : Type 0 where
  pub blocked : IsWellBlocked world.language (world.stamp.is_date (world.stamp.meaning parts.publishing.stamp))
      parts.side
      (sealing_of world.stamp parts.publishing) parts.publishing.next parts.owed
      (world.sink.items parts.publishing.sink)
  pub refused : IfSome parts.owed (λ owed. world.sink.may_refuse parts.publishing.sink)
  pub counted : parts.count ≤ parts.publishing.next
  pub last : parts.publishing.next ≤ 2 ^ 63 + 1
