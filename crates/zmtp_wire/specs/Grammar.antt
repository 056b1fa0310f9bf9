-- Which octets spell a message or a command, and which are refused (RFC 23, "Traffic").
use Rattle.std.specs.Prelude.{◌≡◌, ◌≢◌, ℕ, ◌+◌, ◌^◌, ◌<◌, ◌≤◌, Bool, true, false, List, [], ◌∷◌, ◌++◌, length, sum_by}
use Rattle.std.specs.Prelude.{⊤, ◌⊎◌}
use Rattle.std.specs.List.{AllByRecursion}
use Rattle.zmtp_wire.specs.declared.traffic.frame.Frame.{Frame}
use Rattle.zmtp_wire.specs.declared.traffic.limits.Limits.{Limits}
use Rattle.zmtp_wire.specs.declared.traffic.Traffic.{Traffic}
use Rattle.zmtp_wire.specs.declared.traffic.Traffic.TheVariants.{Message, Command}
use Rattle.zmtp_wire.specs.declared.fault.WireFault.{WireFault}
use Rattle.zmtp_wire.specs.declared.fault.WireFault.TheVariants as faults
use Rattle.zmtp_wire.specs.Lengths.{short_text}
use Rattle.zmtp_wire.specs.Frame.{flags_octet, head_octets, size_bound, frame_octets, HasSize, front_octets, bodies_of}

-- the bodies of a message, or of its front, are within the limits
pub record IsWithin (limits : Limits) (bodies : List (List ℕ)) : Type 0 where
  pub count : length bodies ≤ limits.frames
  pub each : AllByRecursion (λ body. length body ≤ limits.frame) bodies
  pub whole : sum_by length bodies ≤ limits.message

-- The octets spell the message of these bodies, within the limits: frames with MORE, and one last without.
pub record SpellsMessage (limits : Limits) (octets : List ℕ) (bodies : List (List ℕ)) : Type 0 where
  pub front : List Frame
  pub last : Frame
  pub sizes : AllByRecursion HasSize (front ++ last ∷ [])
  pub bodies_are : bodies ≡ bodies_of (front ++ last ∷ [])
  pub within : IsWithin limits bodies
  pub spelled : octets ≡ front_octets front ++ frame_octets false false last

-- a command's body: the name after its length in one octet, and the rest
abbrev pub command_body : List ℕ → List ℕ → List ℕ
command_body name rest = short_text name ++ rest

-- The octets spell the command of this name and rest, within the limit of a frame: one frame with COMMAND.
pub record SpellsCommand (limits : Limits) (octets name rest : List ℕ) : Type 0 where
  pub long : Bool
  pub named : 0 < length name
  pub short : length name < 2 ^ 8
  pub size : length (command_body name rest) < size_bound long
  pub within : length (command_body name rest) ≤ limits.frame
  pub spelled : octets ≡ frame_octets false true (record { long = long; body = command_body name rest })

-- the octets are one spelling of this traffic
abbrev pub Spells : Limits → List ℕ → Traffic → Type 0
Spells limits octets (Message bodies) = SpellsMessage limits octets bodies
Spells limits octets (Command name rest) = SpellsCommand limits octets name rest

-- the octets are spellings of these, one after the other
abbrev pub Reads : Limits → List ℕ → List Traffic → Type 0
Reads limits octets [] = octets ≡ []
Reads limits octets (first ∷ others) =
    (front : List ℕ) × (rest : List ℕ) × (octets ≡ front ++ rest) × Spells limits front first × Reads limits rest others

-- the octets begin with spellings of these, and the rest follows them
abbrev pub ReadsUpTo : Limits → List ℕ → List Traffic → List ℕ → Type 0
ReadsUpTo limits octets traffic rest = (read : List ℕ) × (octets ≡ read ++ rest) × Reads limits read traffic

-- A flags octet that no frame may have after the frames of a message that goes on. It has a reserved bit, or COMMAND
-- with MORE, or COMMAND inside a message.
pub data IsBadFlags (before : List (List ℕ)) : ℕ → Type 0 where
  reserved : (flags : ℕ) → 8 ≤ flags → IsBadFlags before flags
  command_with_more : (long : Bool) → IsBadFlags before (flags_octet true long true)
  command_inside : (more long : Bool) → before ≢ [] → IsBadFlags before (flags_octet more long true)

-- a frame may have these flags after the frames of a message that goes on
abbrev pub AcceptsFlags : Limits → List (List ℕ) → Bool → Bool → Type 0
AcceptsFlags limits before more true = (more ≡ false) × (before ≡ [])
AcceptsFlags limits before more false = length before < limits.frames

-- a command's body that has no name, or ends inside it
abbrev pub IsBadCommand : List ℕ → Type 0
IsBadCommand [] = ⊤
IsBadCommand (size ∷ rest) = (size ≡ 0) ⊎ (length rest < size)

-- The octets that follow the frames of a message that goes on are refused. They are refused as early as they tell the
-- fault: by the flags octet alone, then by the head, and for a command by its body.
abbrev pub IsRefused : Limits → List (List ℕ) → List ℕ → WireFault → Type 0
IsRefused limits before octets faults.Flags =
    (flags : ℕ) × (after : List ℕ) × (octets ≡ flags ∷ after) × IsBadFlags before flags
IsRefused limits before octets faults.TooManyFrames =
    (more : Bool) × (long : Bool) × (after : List ℕ) × (octets ≡ flags_octet more long false ∷ after)
    × (limits.frames ≤ length before)
IsRefused limits before octets faults.FrameTooLong =
    (more : Bool) × (long : Bool) × (command : Bool) × (size : ℕ) × (after : List ℕ)
    × (octets ≡ head_octets more long command size ++ after) × (size < size_bound long)
    × AcceptsFlags limits before more command × (limits.frame < size)
IsRefused limits before octets faults.MessageTooLong =
    (more : Bool) × (long : Bool) × (size : ℕ) × (after : List ℕ)
    × (octets ≡ head_octets more long false size ++ after) × (size < size_bound long)
    × AcceptsFlags limits before more false × (size ≤ limits.frame) × (limits.message < sum_by length before + size)
IsRefused limits before octets faults.Command =
    (frame : Frame) × (after : List ℕ) × (octets ≡ frame_octets false true frame ++ after) × HasSize frame
    × (before ≡ []) × (length frame.body ≤ limits.frame) × IsBadCommand frame.body
IsRefused limits before octets faults.Signature = ⊥
IsRefused limits before octets faults.Version = ⊥
IsRefused limits before octets faults.Mechanism = ⊥
IsRefused limits before octets faults.Pairing = ⊥
IsRefused limits before octets faults.PeerError = ⊥
IsRefused limits before octets faults.Spent = ⊥
IsRefused limits before octets faults.OutOfMemory = ⊥

-- the octets begin with frames of a message that goes on, which are fine, and what follows them is refused
pub record IsFaulty (limits : Limits) (octets : List ℕ) (fault : WireFault) : Type 0 where
  pub front : List Frame
  pub rest : List ℕ
  pub sizes : AllByRecursion HasSize front
  pub within : IsWithin limits (bodies_of front)
  pub spelled : octets ≡ front_octets front ++ rest
  pub refused : IsRefused limits (bodies_of front) rest fault

-- no whole traffic stands at the beginning of the octets
abbrev pub HasNoTraffic : Limits → List ℕ → Type 0
HasNoTraffic limits octets = (traffic : Traffic) (front rest : List ℕ) → octets ≡ front ++ rest
    → Spells limits front traffic → ⊥

-- no whole traffic stands at the beginning of the octets, and nothing in them is refused yet
pub record IsUnfinished (limits : Limits) (octets : List ℕ) : Type 0 where
  pub no_traffic : HasNoTraffic limits octets
  pub no_fault : (fault : WireFault) → IsFaulty limits octets fault → ⊥
