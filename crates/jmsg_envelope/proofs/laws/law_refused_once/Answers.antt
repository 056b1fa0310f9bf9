use Rattle.jmsg_envelope.proofs.Uniqueness.{refused_once_law}
use Rattle.jmsg_envelope.proofs.laws.law_refused_once.Goals as goal

pub returns : goal.returns
returns c = record { refused_once = refused_once_law }
