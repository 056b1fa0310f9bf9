-- The command READY of the mechanism NULL (ZeroMQ RFC 23, section "The NULL Security Mechanism"). It is a list of
-- properties. They say the peer's socket type, and its identity if it has one.
use Rattle.std.specs.Prelude.{◌≡◌, ◌≢◌, ◌⊎◌, ℕ, ◌<◌, ◌≤◌, ◌^◌, Bool, true, false, List, [], ◌++◌, length, codes}
use Rattle.std.specs.Prelude.{find, Option, Some, None, Result, Ok, Err}
use Rattle.std.specs.List.{AllByRecursion, flat_map}
use Rattle.std.specs.Option.{option_map}
use Rattle.std.specs.Str.{str_eq_ignore_ascii_case}
use Rattle.zmtp_wire.specs.declared.fault.WireFault.{WireFault}
use Rattle.zmtp_wire.specs.declared.fault.WireFault.TheVariants as fault
use Rattle.zmtp_wire.specs.declared.handshake.ready.Ready.{Ready}
use Rattle.zmtp_wire.specs.declared.handshake.socket_type.SocketType.{SocketType}
use Rattle.zmtp_wire.specs.declared.traffic.Traffic.{Traffic}
use Rattle.zmtp_wire.specs.declared.traffic.Traffic.TheVariants.{Message, Command}
use Rattle.zmtp_wire.specs.SocketType.{type_name, NamesType, Pairs}
use Rattle.zmtp_wire.specs.Frame.{frame_octets, shortest}
use Rattle.zmtp_wire.specs.Grammar.{command_body}
use Rattle.zmtp_wire.specs.Traffic.{is_error}
use Rattle.zmtp_wire.specs.Lengths.{short_text, long_text}

-- a property: a name and a value
pub record Property : Type 0 where
  pub name : List ℕ
  pub value : List ℕ

-- property = name value: the name after one octet of length, the value after four
abbrev pub property_octets : Property → List ℕ
property_octets p = short_text p.name ++ long_text p.value

-- the name has an octet at least, and each length fits its octets
pub record IsProperty (p : Property) : Type 0 where
  pub has_name : 1 ≤ length p.name
  pub name_fits : length p.name < 256
  pub value_fits : length p.value < 2 ^ 32

-- the octets are these properties, one after another, and nothing else
abbrev pub Properties : List ℕ → List Property → Type 0
Properties octets ps = (octets ≡ flat_map property_octets ps) × AllByRecursion IsProperty ps

-- the octets begin with this property, and the rest follows it
abbrev pub BeginsWithProperty : List ℕ → Property → List ℕ → Type 0
BeginsWithProperty octets p rest = IsProperty p × (octets ≡ property_octets p ++ rest)

-- the property has this name, without regard to ASCII case
abbrev pub is_named : List ℕ → Property → Bool
is_named name p = str_eq_ignore_ascii_case p.name name

-- the value of the first property of this name
abbrev pub announced : List ℕ → List Property → Option (List ℕ)
announced name ps = option_map (λ p. p.value) (find (is_named name) ps)

-- the property Socket-Type of a socket of ours
abbrev pub type_property : SocketType → Property
type_property socket = record { name = codes "Socket-Type"; value = type_name socket }

-- our READY, a whole command frame: its one property is our Socket-Type
abbrev pub ready_octets : SocketType → List ℕ
ready_octets socket = frame_octets false true (shortest
    (command_body (codes "READY") (property_octets (type_property socket))))

-- the octets after READY are properties, and the first of this name among them has this value
abbrev pub AnnouncesIn : List ℕ → List ℕ → List ℕ → Type 0
AnnouncesIn name rest value = (ps : List Property) × Properties rest ps × (announced name ps ≡ Some value)

-- the octets after READY are no list of properties
abbrev pub HasNoProperties : List ℕ → Type 0
HasNoProperties rest = (ps : List Property) → ¬ (Properties rest ps)

-- the octets after READY are properties, and none of them has this name
abbrev pub AnnouncesNoneIn : List ℕ → List ℕ → Type 0
AnnouncesNoneIn name rest = (ps : List Property) × Properties rest ps × (announced name ps ≡ None)

-- the command is READY, and the first property of this name in it has this value
abbrev pub Gives : List ℕ → Traffic → List ℕ → Type 0
Gives property (Message _) value = ⊥
Gives property (Command name rest) value = (name ≡ codes "READY") × AnnouncesIn property rest value

-- the command is READY, and its first Socket-Type has this value
abbrev pub Announces : Traffic → List ℕ → Type 0
Announces first value = Gives (codes "Socket-Type") first value

-- The peer gives this identity: the command is READY, and its first Identity has this value, which isn't empty.
pub record GivesIdentity (first : Traffic) (identity : List ℕ) : Type 0 where
  pub announced : Gives (codes "Identity") first identity
  pub some : identity ≢ []

-- the peer gives no identity
abbrev pub GivesNoIdentity : Traffic → Type 0
GivesNoIdentity first = (identity : List ℕ) → ¬ (GivesIdentity first identity)

-- the identity of a peer, by its READY: the one that it gives, or no octet if it gives none
abbrev pub IsIdentity : Traffic → List ℕ → Type 0
IsIdentity first identity = GivesIdentity first identity ⊎ (GivesNoIdentity first × (identity ≡ []))

-- the command ERROR, whatever it says
abbrev pub IsError : Traffic → Type 0
IsError first = is_error first ≡ true

-- a message, a command of another name, or a READY that announces no socket type
abbrev pub IsNoReady : Traffic → Type 0
IsNoReady (Message _) = Unit {0}
IsNoReady (Command name rest) =
    ((name ≢ codes "READY") × (name ≢ codes "ERROR"))
    ⊎ ((name ≡ codes "READY") × (HasNoProperties rest ⊎ AnnouncesNoneIn (codes "Socket-Type") rest))

-- the value names the peer's type, which ours accepts
abbrev pub Accepts : SocketType → List ℕ → SocketType → Type 0
Accepts ours value peer = NamesType value peer × Pairs ours peer

-- the value names no type that ours accepts
abbrev pub AcceptsNone : SocketType → List ℕ → Type 0
AcceptsNone ours value = (peer : SocketType) → ¬ (Accepts ours value peer)

-- what a socket of ours makes of the first traffic after the greeting, outcome by outcome
abbrev pub IsReady : Traffic → SocketType → Result Ready WireFault → Type 0
IsReady first ours (Ok ready) = (value : List ℕ) × Announces first value × Accepts ours value ready.peer
IsReady first ours (Err fault.Pairing) = (value : List ℕ) × Announces first value × AcceptsNone ours value
IsReady first ours (Err fault.Command) = IsNoReady first
IsReady first ours (Err fault.PeerError) = IsError first
IsReady first ours (Err fault.Signature) = ⊥
IsReady first ours (Err fault.Version) = ⊥
IsReady first ours (Err fault.Mechanism) = ⊥
IsReady first ours (Err fault.Flags) = ⊥
IsReady first ours (Err fault.FrameTooLong) = ⊥
IsReady first ours (Err fault.TooManyFrames) = ⊥
IsReady first ours (Err fault.MessageTooLong) = ⊥
IsReady first ours (Err fault.Spent) = ⊥
IsReady first ours (Err fault.OutOfMemory) = ⊥

-- octets are those of one list of properties at most
abbrev pub PropertiesHaveOneReading : Type 0
PropertiesHaveOneReading =
    (octets : List ℕ) (ps qs : List Property) → Properties octets ps → Properties octets qs → ps ≡ qs

-- a peer has one identity at most
abbrev pub OneIdentity : Type 0
OneIdentity =
    (first : Traffic) (one other : List ℕ) → IsIdentity first one → IsIdentity first other → one ≡ other

-- what comes after the greeting has one outcome at most
abbrev pub ReadyHasOneOutcome : Type 0
ReadyHasOneOutcome =
    (first : Traffic) (ours : SocketType) (one other : Result Ready WireFault)
    → IsReady first ours one → IsReady first ours other → one ≡ other

-- our READY tells our type to a peer that accepts it
abbrev pub OurReadyIsRead : Type 0
OurReadyIsRead =
    (ours peer : SocketType) → Pairs peer ours
    → IsReady (Command (codes "READY") (property_octets (type_property ours))) peer (Ok (record { peer = ours }))
