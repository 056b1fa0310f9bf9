-- The command by which a peer ends a connection (RFC 23, "Traffic", rule `error`).
use Rattle.std.specs.Prelude.{Bool, false, codes, bytes_eq}
use Rattle.zmtp_wire.specs.declared.traffic.Traffic.{Traffic}
use Rattle.zmtp_wire.specs.declared.traffic.Traffic.TheVariants.{Message, Command}

-- whether traffic is the command ERROR, whatever it says
abbrev pub is_error : Traffic → Bool
is_error (Message bodies) = false
is_error (Command name rest) = bytes_eq name (codes "ERROR")
