use Rattle.kernel_outlet.specs.Pipe.{Flows}
use Rattle.kernel_sockets.proofs.outgoing.SocketWriterOutlet.write.Given as goal

abbrev pub invariant-loop : goal.invariant-loop
invariant-loop g l = Flows l.fn.self l.self
