use Rattle.zmtp_wire.proofs.ReadyLemmas.{same_outcome}
use Rattle.zmtp_wire.proofs.handshake.ready.law_ready_has_one_outcome.Goals as goal

pub returns : goal.returns
returns c = same_outcome
