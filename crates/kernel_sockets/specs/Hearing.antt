-- What a connection looks at as it hears its peer.
use Rattle.std.specs.Prelude.{ℕ, List, Bool, length, nat_le, Option, option_map}
use Rattle.zmtp_wire.specs.declared.traffic.Traffic.{Traffic}
use Rattle.zmtp_wire.specs.Ping.{ping_context, pong_octets}

-- a peer with such an identity is heard: it has at most 255 octets
abbrev pub is_named_well : List ℕ → Bool
is_named_well identity = nat_le (length identity) 255

-- the PONG that answers traffic, if it is a PING that has one (ZeroMQ RFC 37, rule `pong`)
abbrev pub pong_of : Traffic → Option (List ℕ)
pong_of traffic = option_map pong_octets (ping_context traffic)
