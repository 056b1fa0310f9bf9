use Rattle.std.proofs.Common.{None}
use Rattle.kernel_workers.proofs.EndingLemmas.{closed_all, closed_behind, ends_blocked, own_part}
use Rattle.kernel_workers.proofs.request.close.Goals as goal

pub returns-clause-blocked : goal.returns-clause-blocked
returns-clause-blocked g c =
    ends_blocked g.I.Interpreter.meaning g.S.Stamp.stamp c.args.engine
    c.close.result c.into_parts-parts.result c.close-2.result c.into_parts-parts.ensures.parts c.close.ensures
    c.into_parts-parts.ensures.kept c.close-2.ensures

pub returns-clause-list : goal.returns-clause-list
returns-clause-list g c =
    closed_all c.args.engine c.close.result c.into_parts-parts.result c.close-2.result
    c.into_parts-parts.ensures.parts c.close.ensures c.close-2.ensures

pub returns-clause-own : goal.returns-clause-own
returns-clause-own g c = own_part c.into_parts-parts.result.publishing.sink c.close-2.result None c.close-2.ensures

pub returns-clause-behind : goal.returns-clause-behind
returns-clause-behind g c none =
    closed_behind c.args.engine c.close.result c.into_parts-parts.result c.close-2.result
    c.into_parts-parts.ensures.parts c.close.ensures c.close-2.ensures none
