use Rattle.zmtp_wire.proofs.ReadyLemmas.{our_ready}
use Rattle.zmtp_wire.proofs.handshake.ready.law_our_ready_is_read.Goals as goal

pub returns : goal.returns
returns c = our_ready
