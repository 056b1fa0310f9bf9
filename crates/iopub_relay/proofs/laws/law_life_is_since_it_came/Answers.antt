use Rattle.iopub_relay.proofs.LastLemmas.{life_began, who_came_lives, who_left_lives_not}
use Rattle.iopub_relay.proofs.laws.law_life_is_since_it_came.Goals as goal

pub returns-clause-began : goal.returns-clause-began
returns-clause-began g c = life_began

pub returns-clause-came : goal.returns-clause-came
returns-clause-came g c = who_came_lives

pub returns-clause-left : goal.returns-clause-left
returns-clause-left g c = who_left_lives_not
