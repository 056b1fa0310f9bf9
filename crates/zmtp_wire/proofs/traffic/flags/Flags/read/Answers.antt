use Rattle.zmtp_wire.proofs.FlagsLemmas.{no_reserved, bits_are_flags}
use Rattle.zmtp_wire.proofs.traffic.flags.Flags.read.Goals as goal

pub returns-clause-known : goal.returns-clause-known
returns-clause-known c =
    bits_are_flags c.args.octet (no_reserved c.args.octet c.ranges.octet.fits c.if-octet-ne0.false)
