-- Laws of the grammar of frames (RFC 23, "Traffic").
use Rattle.std.specs.Prelude.{◌≡◌, ◌≢◌, ◌⊎◌, ℕ, ◌<◌, ◌^◌, List, [], ◌∷◌, ◌++◌}
use Rattle.zmtp_wire.specs.declared.traffic.limits.Limits.{Limits}
use Rattle.zmtp_wire.specs.declared.traffic.Traffic.{Traffic}
use Rattle.zmtp_wire.specs.declared.traffic.Traffic.TheVariants.{Message}
use Rattle.zmtp_wire.specs.declared.fault.WireFault.{WireFault}
use Rattle.zmtp_wire.specs.Frame.{text}
use Rattle.zmtp_wire.specs.Grammar.{IsWithin, Spells, ReadsUpTo, HasNoTraffic, IsFaulty}
use Rattle.zmtp_wire.specs.Decoding.{FeedsInTurn, pieces_of, traffic_of}

-- Octets begin with one traffic at most, in one spelling, and so what follows it is the same, too.
abbrev pub FrontHasOneReading : Type 0
FrontHasOneReading =
    (limits : Limits) (octets front others : List ℕ) (one other : Traffic) (rest after : List ℕ)
    → octets ≡ front ++ rest → Spells limits front one → octets ≡ others ++ after → Spells limits others other
    → (one ≡ other) × (rest ≡ after)

-- if octets are read in two ways, one reading begins with the other and goes on from its end
abbrev pub ReadingGoesOn : Type 0
ReadingGoesOn =
    (limits : Limits) (octets : List ℕ) (one other : List Traffic) (rest others : List ℕ)
    → ReadsUpTo limits octets one rest → ReadsUpTo limits octets other others
    → ((more : List Traffic) × (other ≡ one ++ more) × ReadsUpTo limits rest more others)
    ⊎ ((more : List Traffic) × (one ≡ other ++ more) × ReadsUpTo limits others more rest)

-- If octets are read until no whole traffic is left, the traffic and the rest are these and no others.
abbrev pub WholeHasOneReading : Type 0
WholeHasOneReading =
    (limits : Limits) (octets : List ℕ) (one other : List Traffic) (rest others : List ℕ)
    → ReadsUpTo limits octets one rest → HasNoTraffic limits rest
    → ReadsUpTo limits octets other others → HasNoTraffic limits others
    → (one ≡ other) × (rest ≡ others)

-- what feeds in turn read of their pieces is what is read of the pieces joined
abbrev pub FeedsReadJoined : Type 0
FeedsReadJoined =
    (limits : Limits) (kept last : List ℕ) (feeds : List (List ℕ × List Traffic))
    → FeedsInTurn limits kept feeds last
    → ReadsUpTo limits (kept ++ pieces_of feeds) (traffic_of feeds) last

-- two cuttings of one stream give the same traffic and leave the same rest
abbrev pub CuttingsAgree : Type 0
CuttingsAgree =
    (limits : Limits) (last others : List ℕ) (feeds other : List (List ℕ × List Traffic))
    → pieces_of feeds ≡ pieces_of other
    → FeedsInTurn limits [] feeds last → HasNoTraffic limits last
    → FeedsInTurn limits [] other others → HasNoTraffic limits others
    → (traffic_of feeds ≡ traffic_of other) × (last ≡ others)

-- octets are refused for one fault only
abbrev pub HasOneFault : Type 0
HasOneFault =
    (limits : Limits) (octets : List ℕ) (one other : WireFault)
    → IsFaulty limits octets one → IsFaulty limits octets other → one ≡ other

-- octets that are refused begin with no whole traffic
abbrev pub FaultyHasNoTraffic : Type 0
FaultyHasNoTraffic =
    (limits : Limits) (octets : List ℕ) (fault : WireFault) → IsFaulty limits octets fault → HasNoTraffic limits octets

-- octets that are refused stay refused, however they go on
abbrev pub FaultStays : Type 0
FaultStays =
    (limits : Limits) (octets after : List ℕ) (fault : WireFault)
    → IsFaulty limits octets fault → IsFaulty limits (octets ++ after) fault

-- a message within the limits is read from its text first, whatever follows
abbrev pub TextIsReadFirst : Type 0
TextIsReadFirst =
    (limits : Limits) (bodies : List (List ℕ)) (after : List ℕ) (traffic : List Traffic) (rest : List ℕ)
    → bodies ≢ [] → IsWithin limits bodies → limits.frame < 2 ^ 64
    → ReadsUpTo limits (text bodies ++ after) traffic rest → HasNoTraffic limits rest
    → (others : List Traffic) × (traffic ≡ Message bodies ∷ others) × ReadsUpTo limits after others rest
