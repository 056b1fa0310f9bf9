use Rattle.zmtp_wire.proofs.PropertyLemmas.{one_reading}
use Rattle.zmtp_wire.proofs.handshake.ready.law_properties_have_one_reading.Goals as goal

pub returns : goal.returns
returns c = one_reading
