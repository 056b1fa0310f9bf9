-- What holds between two outputs.
use Rattle.std.proofs.Common.{map, deque_len}
use Rattle.kernel_engine.specs.Growth.{PutsUnder}
use Rattle.kernel_engine.specs.Publications.{publication_of}
use Rattle.kernel_engine.proofs.PuttingLemmas.{Putting}
use Rattle.kernel_engine.proofs.publishing.Publishing.put_outputs.Given as goal

abbrev pub invariant-loop-output : goal.invariant-loop-output
invariant-loop-output g l =
    Putting (PutsUnder g.P.Publish.sink g.S.Stamp.stamp l.fn.block.heading l.fn.self
    l.self) l.fn.block.silent (map publication_of l.fn.outputs) (map publication_of l.waiting.items)

abbrev pub decreases-loop-output : goal.decreases-loop-output
decreases-loop-output g l = deque_len l.waiting
