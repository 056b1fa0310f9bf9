use Rattle.std.proofs.Common.{rules, Some, None}
use Rattle.kernel_workers.specs.Jobs.{nothing, one_more}
use Rattle.kernel_workers.proofs.working.work.Goals as goal

pub loop-init : goal.loop-init
loop-init g c = record { turns = nothing; same = search rules }

pub returns-in-Some-take_turn-clause-turns : goal.returns-in-Some-take_turn-clause-turns
returns-in-Some-take_turn-clause-turns g c =
    one_more c.loop.work (Some c.in-Some-take_turn.cause) _ c.loop.invariant.turns c.in-Some-take_turn.ensures.turn

pub loop-preserved : goal.loop-preserved
loop-preserved g c = record {
  turns = one_more c.loop.work None _ c.loop.invariant.turns c.in-None-take_turn.ensures.turn;
  same = search rules;
}
