use Rattle.zmtp_connection.specs.Exchange.{source_at}
use Rattle.zmtp_connection.proofs.FirstLemmas.{NothingFirst}
use Rattle.zmtp_connection.proofs.shaking.read_first.Given as goal

abbrev pub invariant-loop-count : goal.invariant-loop-count
invariant-loop-count g l = NothingFirst (source_at (g.R.Inlet.inflow l.fn.reader) l.fn.turns)
    (source_at (g.R.Inlet.inflow l.reader) l.turns) l.decoder

abbrev pub decreases-loop-count : goal.decreases-loop-count
decreases-loop-count g l = l.turns
