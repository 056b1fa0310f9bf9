use Rattle.jmsg_envelope.proofs.Uniqueness.{refused_is_not_opened_law}
use Rattle.jmsg_envelope.proofs.laws.law_refused_is_not_opened.Goals as goal

pub returns : goal.returns
returns c = record { refused_is_not_opened = refused_is_not_opened_law }
