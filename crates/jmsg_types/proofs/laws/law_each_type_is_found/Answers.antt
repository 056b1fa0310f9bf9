use Rattle.jmsg_types.proofs.TypeLemmas.{found}
use Rattle.jmsg_types.proofs.laws.law_each_type_is_found.Goals as goal

pub returns : goal.returns
returns c = record { each_type_is_found = found }
