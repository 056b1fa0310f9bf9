use Rattle.kernel_sockets.proofs.OutgoingLemmas.{put_adds}
use Rattle.kernel_sockets.proofs.outgoing.SocketWriterOutlet.write.Goals as goal

pub returns-in-Put-clause-writes : goal.returns-in-Put-clause-writes
returns-in-Put-clause-writes g c =
    put_adds c.args.self.now c.loop.self c.try_to_put.new.self c.args.piece.now c.in-Put.count c.loop.invariant
    c.in-Put.ensures
