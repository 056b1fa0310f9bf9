use Rattle.jmsg_envelope.proofs.Uniqueness.{opened_once_law}
use Rattle.jmsg_envelope.proofs.laws.law_opened_once.Goals as goal

pub returns : goal.returns
returns c = record { opened_once = opened_once_law }
