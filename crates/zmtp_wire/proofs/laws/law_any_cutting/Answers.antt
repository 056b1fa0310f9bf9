use Rattle.zmtp_wire.proofs.LawLemmas.{any_cutting, same_cutting}
use Rattle.zmtp_wire.proofs.laws.law_any_cutting.Goals as goal

pub returns-clause-joined : goal.returns-clause-joined
returns-clause-joined c = any_cutting

pub returns-clause-same : goal.returns-clause-same
returns-clause-same c = same_cutting
