-- The commands PING, by which a peer asks for a sign of life, and PONG, which is one (ZeroMQ RFC 37, rules `ping` and
-- `pong`).
use Rattle.std.specs.Prelude.{ℕ, nat_lt, true, false, if◌then◌else◌, List, [], ◌∷◌, length, Option, Some, None}
use Rattle.std.specs.Prelude.{bytes_eq, codes, unwrap_or, option_map}
use Rattle.zmtp_wire.specs.declared.traffic.Traffic.{Traffic}
use Rattle.zmtp_wire.specs.declared.traffic.Traffic.TheVariants.{Message, Command}
use Rattle.zmtp_wire.specs.Frame.{frame_octets, shortest}
use Rattle.zmtp_wire.specs.Grammar.{command_body}

-- the context that follows two octets of time to live, if it has 16 octets at most
abbrev pub context_in : List ℕ → Option (List ℕ)
context_in [] = None
context_in (high ∷ []) = None
context_in (high ∷ low ∷ context) = if nat_lt 16 (length context) then None else Some context

-- the context of a PING: ping = command-size %d4 "PING" ping-ttl ping-context
abbrev pub ping_context : Traffic → Option (List ℕ)
ping_context (Message bodies) = None
ping_context (Command name rest) = if bytes_eq name (codes "PING") then context_in rest else None

-- the PONG of a context, a whole command frame: pong = command-size %d4 "PONG" ping-context
abbrev pub pong_octets : List ℕ → List ℕ
pong_octets context = frame_octets false true (shortest (command_body (codes "PONG") context))

-- the PONG of a context, or nothing if the context is longer than 16 octets
abbrev pub pong_if_short : List ℕ → List ℕ
pong_if_short context = if nat_lt 16 (length context) then [] else pong_octets context

-- the PONG that answers traffic: nothing but a PING has one
abbrev pub pong_to : Traffic → List ℕ
pong_to traffic = unwrap_or (option_map pong_octets (ping_context traffic)) []
