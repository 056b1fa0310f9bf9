-- What holds between two items.
use Rattle.std.proofs.Common.{◌≡◌, ◌++◌, List, Some, map}
use Rattle.iopub_queue.specs.Sink.{Sink}
use Rattle.test_publications.proofs.tests.sinks.publish_each.Given as goal

-- of all items some were taken, in front of the rest; the sink that was there first grew by these, and is the same
pub record HasPublished {P T : Type 0} (sink : Sink P T) (first now : P) (all taken rest : List T) : Type 0 where
  pub whole : all ≡ taken ++ rest
  pub published : sink.items now ≡ sink.items first ++ map Some taken
  pub same : sink.is_same first now

-- so it is with the items that the loop took
abbrev pub invariant-loop-item : goal.invariant-loop-item
invariant-loop-item g l =
    HasPublished g.P.Publish.sink l.initial.sink l.sink l.fn.items.items l.yielded l.item-iterator.rest.items
