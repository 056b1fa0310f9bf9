use Rattle.std.specs.Prelude.{◌-◌}
use Rattle.zmtp_connection.specs.Exchange.{source_at}
use Rattle.zmtp_connection.proofs.Opening.{Filled}
use Rattle.zmtp_connection.proofs.shaking.read_opening.Given as goal

abbrev pub invariant-loop-filled : goal.invariant-loop-filled
invariant-loop-filled g l = Filled (source_at (g.R.Inlet.inflow l.fn.reader) l.fn.turns)
    (source_at (g.R.Inlet.inflow l.reader) l.turns) l.opening l.filled

abbrev pub decreases-loop-filled : goal.decreases-loop-filled
decreases-loop-filled g l = 64 - l.filled
