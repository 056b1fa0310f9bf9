use Rattle.jmsg_envelope.proofs.Uniqueness.{sealed_is_opened_law}
use Rattle.jmsg_envelope.proofs.laws.law_sealed_is_opened.Goals as goal

pub returns : goal.returns
returns c = record { sealed_is_opened = sealed_is_opened_law }
