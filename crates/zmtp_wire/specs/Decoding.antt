-- What a decoder holds, and what a feed makes of it (the octets that it reads are those of RFC 23, "Traffic").
use Rattle.std.specs.Prelude.{◌≡◌, ℕ, Bool, true, false, List, [], ◌∷◌, ◌++◌, ◌⊎◌, Option, MatchOption}
use Rattle.std.specs.List.{flat_map}
use Rattle.zmtp_wire.specs.declared.traffic.limits.Limits.{Limits}
use Rattle.zmtp_wire.specs.declared.traffic.Traffic.{Traffic}
use Rattle.zmtp_wire.specs.declared.fault.WireFault.{WireFault}
use Rattle.zmtp_wire.specs.declared.fault.WireFault.TheVariants.{OutOfMemory}
use Rattle.zmtp_wire.specs.Grammar.{ReadsUpTo, IsFaulty, IsUnfinished}

-- a decoder: its limits, the octets that it keeps, and whether it has answered a fault
pub record Decoding : Type 0 where
  pub limits : Limits
  pub kept : List ℕ
  pub spent : Bool

-- Memory was refused, or these octets have this fault.
abbrev pub IsFaultOf : Limits → List ℕ → WireFault → Type 0
IsFaultOf limits octets fault = (fault ≡ OutOfMemory) ⊎ IsFaulty limits octets fault

-- What was kept and the piece are spellings of the traffic, and a rest. The rest is kept and isn't finished. Or it has
-- a fault, which is answered, and nothing is read from then on.
abbrev pub Feeds : Decoding → List ℕ → List Traffic → Option WireFault → Decoding → Type 0
Feeds old piece traffic fault new = MatchOption fault
    (ReadsUpTo old.limits (old.kept ++ piece) traffic new.kept × IsUnfinished old.limits new.kept × (new.spent ≡ false))
    (λ found. ((rest : List ℕ) × ReadsUpTo old.limits (old.kept ++ piece) traffic rest
    × IsFaultOf old.limits rest found) × (new.spent ≡ true))

-- Feeds follow each other, each with its piece and its traffic. They lead from what was kept at first to what is left
-- at last. A feed without a fault leaves what it keeps, and another what follows its traffic.
abbrev pub FeedsInTurn : Limits → List ℕ → List (List ℕ × List Traffic) → List ℕ → Type 0
FeedsInTurn limits kept [] last = kept ≡ last
FeedsInTurn limits kept (feed ∷ feeds) last =
    (next : List ℕ) × ReadsUpTo limits (kept ++ feed.0) feed.1 next × FeedsInTurn limits next feeds last

-- the pieces of feeds, joined
abbrev pub pieces_of : List (List ℕ × List Traffic) → List ℕ
pieces_of feeds = flat_map (λ feed. feed.0) feeds

-- the traffic of feeds, joined
abbrev pub traffic_of : List (List ℕ × List Traffic) → List Traffic
traffic_of feeds = flat_map (λ feed. feed.1) feeds
