use Rattle.zmtp_wire.proofs.LawLemmas.{fault_once, fault_no_traffic, fault_stays}
use Rattle.zmtp_wire.proofs.laws.law_one_fault.Goals as goal

pub returns-clause-once : goal.returns-clause-once
returns-clause-once c = fault_once

pub returns-clause-no_traffic : goal.returns-clause-no_traffic
returns-clause-no_traffic c = fault_no_traffic

pub returns-clause-stays : goal.returns-clause-stays
returns-clause-stays c = fault_stays
