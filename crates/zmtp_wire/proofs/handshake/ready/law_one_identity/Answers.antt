use Rattle.zmtp_wire.proofs.ReadyLemmas.{one_identity}
use Rattle.zmtp_wire.proofs.handshake.ready.law_one_identity.Goals as goal

pub returns : goal.returns
returns c = one_identity
