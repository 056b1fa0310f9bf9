use Rattle.std.proofs.Common.{refl}
use Rattle.kernel_workers.specs.Jobs.{does, told}
use Rattle.kernel_workers.proofs.working.take_turn.Goals as goal

pub returns-in-Some-clause-turn : goal.returns-in-Some-clause-turn
returns-in-Some-clause-turn g c =
    does c.in-Some.job _ (record { inbox = c.in-Some.ensures; engine = refl; outcomes = refl }) c.answer.ensures.does

pub returns-in-None-clause-turn : goal.returns-in-None-clause-turn
returns-in-None-clause-turn g c = told (record { inbox = c.in-None.ensures; engine = refl; outcomes = refl }) refl
