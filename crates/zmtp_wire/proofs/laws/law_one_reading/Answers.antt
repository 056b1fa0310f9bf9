use Rattle.zmtp_wire.proofs.LawLemmas.{one_front, one_goes_on, one_reading}
use Rattle.zmtp_wire.proofs.laws.law_one_reading.Goals as goal

pub returns-clause-front : goal.returns-clause-front
returns-clause-front c = one_front

pub returns-clause-goes_on : goal.returns-clause-goes_on
returns-clause-goes_on c = one_goes_on

pub returns-clause-whole : goal.returns-clause-whole
returns-clause-whole c = one_reading
