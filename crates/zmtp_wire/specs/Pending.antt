-- What a decoder holds of traffic that isn't whole, and the octets that it stands for.
use Rattle.std.specs.Prelude.{◌≡◌, ℕ, ◌+◌, ◌^◌, ◌<◌, ◌≤◌, Bool, true, false, List, [], ◌∷◌, ◌++◌, length, sum_by}
use Rattle.std.specs.Prelude.{⊤, ◌⊎◌, Option, MatchOption}
use Rattle.std.specs.List.{AllByRecursion}
use Rattle.zmtp_wire.specs.declared.traffic.limits.Limits.{Limits}
use Rattle.zmtp_wire.specs.declared.traffic.Traffic.{Traffic}
use Rattle.zmtp_wire.specs.declared.traffic.Traffic.TheVariants as traffic
use Rattle.zmtp_wire.specs.declared.fault.WireFault.{WireFault}
use Rattle.zmtp_wire.specs.declared.fault.WireFault.TheVariants.{OutOfMemory}
use Rattle.zmtp_wire.specs.declared.traffic.flags.Flags.{Flags}
use Rattle.zmtp_wire.specs.declared.traffic.pending.Stage.{Stage}
use Rattle.zmtp_wire.specs.declared.traffic.pending.Stage.TheVariants as stages
use Rattle.zmtp_wire.specs.declared.traffic.pending.Pending.{Pending}
use Rattle.zmtp_wire.specs.Frame.{flags_octet, head_octets, size_bound, HasSize, front_octets, bodies_of}
use Rattle.zmtp_wire.specs.Grammar.{command_body, IsWithin, Spells, AcceptsFlags, IsFaulty}

-- how many octets a size has
abbrev pub size_len : Bool → ℕ
size_len false = 1
size_len true = 8

-- the head of a frame with these flags and this size
abbrev pub head_of : Flags → ℕ → List ℕ
head_of flags size = head_octets flags.more flags.long flags.command size

-- the octets of a frame that have come so far
abbrev pub stage_octets : Stage → List ℕ
stage_octets stages.Flags = []
stage_octets (stages.Size flags octets) = flags_octet flags.more flags.long flags.command ∷ octets
stage_octets (stages.Body flags size body) = head_of flags size ++ body.items

-- the octets that have come of a message or of a command: its whole frames, and what its next one has so far
abbrev pub pending_octets : Pending → List ℕ
pending_octets pending = front_octets pending.frames.items ++ stage_octets pending.stage

-- the bodies of the whole frames of a message that goes on
abbrev pub bodies_before : Pending → List (List ℕ)
bodies_before pending = bodies_of pending.frames.items

-- a frame may have this size after the frames of a message that goes on
pub record AcceptsSize (limits : Limits) (before : List (List ℕ)) (flags : Flags) (size : ℕ) : Type 0 where
  pub allowed : AcceptsFlags limits before flags.more flags.command
  pub said : size < size_bound flags.long
  pub frame : size ≤ limits.frame
  pub message : flags.command ≡ false → sum_by length before + size ≤ limits.message

-- nothing of what has come of a frame is refused, and the frame isn't whole
abbrev pub IsStage : Limits → List (List ℕ) → Stage → Type 0
IsStage limits before stages.Flags = ⊤
IsStage limits before (stages.Size flags octets) = AcceptsFlags limits before flags.more flags.command
    × (length octets < size_len flags.long)
IsStage limits before (stages.Body flags size body) = AcceptsSize limits before flags size × (length body.items < size)

-- the whole frames are those of a message that goes on, within the limits
pub record IsFront (pending : Pending) : Type 0 where
  pub sizes : AllByRecursion HasSize pending.frames.items
  pub left : sum_by length (bodies_before pending) + pending.left ≡ pending.limits.message
  pub within : IsWithin pending.limits (bodies_before pending)

-- traffic that isn't whole and isn't refused
pub record IsPending (pending : Pending) : Type 0 where
  pub front : IsFront pending
  pub stage : IsStage pending.limits (bodies_before pending) pending.stage

-- The octets are kept now. Or they spell traffic, which was given, and nothing is kept.
pub record Keeps (limits : Limits) (octets : List ℕ) (new : Pending) (traffic : Option Traffic) : Type 0 where
  pub same : new.limits ≡ limits
  pub pending : IsPending new
  pub kept : MatchOption traffic (pending_octets new ≡ octets)
      (λ whole. Spells limits octets whole × (pending_octets new ≡ []))

-- memory was refused, or the octets are refused, however they go on
abbrev pub Refuses : Limits → List ℕ → WireFault → Type 0
Refuses limits octets fault = (fault ≡ OutOfMemory) ⊎ ((after : List ℕ) → IsFaulty limits (octets ++ after) fault)

-- the traffic is the command whose body these octets are
abbrev pub IsCommandOf : List ℕ → Traffic → Type 0
IsCommandOf body (traffic.Message bodies) = ⊥
IsCommandOf body (traffic.Command name rest) = (0 < length name) × (length name < 2 ^ 8)
    × (body ≡ command_body name rest)
