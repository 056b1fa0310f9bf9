-- How hearing or serving a peer ended.
use Rattle.std.specs.Prelude.{Option, Some, None}
use Rattle.zmtp_connection.specs.declared.end.ConnectionEnd.{ConnectionEnd}
use Rattle.zmtp_connection.specs.declared.end.Ending.{Ending}
use Rattle.zmtp_connection.specs.declared.end.Ending.TheVariants.{Connection, Host}

-- how the connection ended it, or none if the host, which hears or serves the peer, ended it
abbrev pub of_connection : {End : Type 0} → Ending End → Option ConnectionEnd
of_connection (Connection end) = Some end
of_connection (Host end) = None
