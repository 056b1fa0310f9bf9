use Rattle.zmtp_wire.proofs.PropertyLemmas.{no_value}
use Rattle.zmtp_wire.proofs.handshake.ready.property_at.Goals as goal

pub returns-in_err-value-clause-none : goal.returns-in_err-value-clause-none
returns-in_err-value-clause-none c =
    rw c.from_residual-in_err-value.ensures (no_value c.args.octets.now c.in_ok-name.name.now c.in_ok-name.behind.now
    c.in_ok-name.ensures.found.2 c.in_err-value.ensures.none)
