use Rattle.kernel_workers.specs.Staying.{IsSameQueue}
use Rattle.kernel_workers.proofs.relaying.pump_all.Given as goal

abbrev pub invariant-loop : goal.invariant-loop
invariant-loop g l = IsSameQueue l.fn.relay l.relay
