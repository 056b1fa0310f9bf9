use Rattle.jmsg_types.proofs.TypeLemmas.{replied}
use Rattle.jmsg_types.proofs.laws.law_replies_are_named_for_requests.Goals as goal

pub returns : goal.returns
returns c = record { replies_are_named_for_requests = replied }
