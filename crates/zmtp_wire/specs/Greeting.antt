-- The greeting (ZeroMQ RFC 37, rule `greeting` of its grammar; RFC 23, rules `signature`, `version`, `mechanism` and
-- "Version Negotiation"): 64 octets, which each peer sends before any frame.
use Rattle.std.specs.Prelude.{◌≡◌, ℕ, ◌<◌, ◌≤◌, List, [], ◌∷◌, ◌++◌, codes, replicate, slice_index, slice_range}
use Rattle.zmtp_wire.specs.declared.fault.WireFault.{WireFault}
use Rattle.zmtp_wire.specs.declared.fault.WireFault.TheVariants as faults
use Rattle.zmtp_wire.specs.declared.handshake.greeting.Peer.{Peer}

-- mechanism = "NULL", padded with zeros to 20 octets
abbrev pub null_mechanism : List ℕ
null_mechanism = codes "NULL" ++ replicate 16 0

-- the greeting that we send: signature, version 3.1, the mechanism NULL, as-server 0, filler
abbrev pub greeting_octets : List ℕ
greeting_octets =
    0xFF ∷ replicate 8 0 ++ 0x7F ∷ []
    ++ 3 ∷ 1 ∷ []
    ++ null_mechanism
    ++ 0 ∷ []
    ++ replicate 31 0

-- signature = %xFF padding %x7F: the octets of the padding are free
pub record HasSignature (octets : List ℕ) : Type 0 where
  pub opens : slice_index octets 0 ≡ 0xFF
  pub closes : slice_index octets 9 ≡ 0x7F

-- the major version, octet 10
abbrev pub major_version : List ℕ → ℕ
major_version octets = slice_index octets 10

-- the minor version, octet 11
abbrev pub minor_version : List ℕ → ℕ
minor_version octets = slice_index octets 11

-- the peer speaks ZMTP 3.0 or later
abbrev pub HasVersion : List ℕ → Type 0
HasVersion octets = 3 ≤ major_version octets

-- the peer's security mechanism, octets 12 to 31, is NULL
abbrev pub HasNullMechanism : List ℕ → Type 0
HasNullMechanism octets = slice_range octets 12 32 ≡ null_mechanism

-- a greeting that we accept: padding, minor version, as-server and filler are free
pub record IsGreeting (octets : List ℕ) : Type 0 where
  pub signature : HasSignature octets
  pub version : HasVersion octets
  pub mechanism : HasNullMechanism octets

-- what a greeting tells of the peer
abbrev pub peer_of : List ℕ → Peer
peer_of octets = record { major = major_version octets; minor = minor_version octets }

-- why a greeting is refused: signature, version and mechanism are judged in this order, and the first that is wrong is
-- told
abbrev pub IsRefusedGreeting : List ℕ → WireFault → Type 0
IsRefusedGreeting octets faults.Signature = ¬ (HasSignature octets)
IsRefusedGreeting octets faults.Version = HasSignature octets × (major_version octets < 3)
IsRefusedGreeting octets faults.Mechanism = HasSignature octets × HasVersion octets × ¬ (HasNullMechanism octets)
IsRefusedGreeting octets faults.Flags = ⊥
IsRefusedGreeting octets faults.FrameTooLong = ⊥
IsRefusedGreeting octets faults.TooManyFrames = ⊥
IsRefusedGreeting octets faults.MessageTooLong = ⊥
IsRefusedGreeting octets faults.Command = ⊥
IsRefusedGreeting octets faults.Pairing = ⊥
IsRefusedGreeting octets faults.PeerError = ⊥
IsRefusedGreeting octets faults.Spent = ⊥
IsRefusedGreeting octets faults.OutOfMemory = ⊥
