use Rattle.std.proofs.Common.{◌≡◌}
use Rattle.kernel_outlet.specs.Pipe.{Flows}
use Rattle.kernel_outlet.proofs.pipe.Pipe.flush.Given as goal

abbrev pub invariant-loop : goal.invariant-loop
invariant-loop g l = record { flows : Flows l.initial.self l.self; standing : l.self.has_failed ≡ l.initial.self.has_failed }
