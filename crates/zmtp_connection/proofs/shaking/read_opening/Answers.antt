use Rattle.std.proofs.Common.{arith, take, refl, subst}
use Rattle.std.proofs.lemmas.Result.{err_from_is_err_and}
use Rattle.zmtp_connection.specs.Exchange.{Leg, source_at}
use Rattle.zmtp_connection.proofs.Legs.{stop_on, leg_none}
use Rattle.zmtp_connection.proofs.Opening.{filled_short, filled_whole, filled_more}
use Rattle.zmtp_connection.proofs.shaking.read_opening.Goals as goal

pub loop-filled-init : goal.loop-filled-init
loop-filled-init g c = record {
  fits = omega arith;
  whole = refl;
  leg = leg_none (source_at (g.R.Inlet.inflow c.args.reader.now) c.args.turns.now);
}

pub returns-in_err-filled-clause-err : goal.returns-in_err-filled-clause-err
returns-in_err-filled-clause-err g c =
    let p = err_from_is_err_and c.from_residual.result c.from_residual.ensures.1 in
    let (stop, reading) = c.in_err-filled.ensures.err in
    let so_far = c.loop-filled.invariant in
    rw (p.1, p.2) (
      stop,
      (
        take c.loop-filled.filled c.loop-filled.opening,
        filled_short c.loop-filled.opening c.loop-filled.filled c.loop-filled-test.true so_far.whole,
        stop_on (source_at (g.R.Inlet.inflow c.args.reader.now) c.args.turns.now)
            (source_at (g.R.Inlet.inflow c.loop-filled.reader) c.loop-filled.turns)
            (source_at (g.R.Inlet.inflow c.read_turn.new.reader) c.read_turn.new.turns)
            (take c.loop-filled.filled c.loop-filled.opening) c.in_err-filled.field-0.0 so_far.leg reading,
      ),
    )

pub loop-filled-preserved : goal.loop-filled-preserved
loop-filled-preserved g c =
    let (some, fits, fewer, leg) = c.in_ok-filled.ensures.ok in
    filled_more (source_at (g.R.Inlet.inflow c.args.reader.now) c.args.turns.now)
    (source_at (g.R.Inlet.inflow c.loop-filled.reader) c.loop-filled.turns)
    (source_at (g.R.Inlet.inflow c.read_turn.new.reader) c.read_turn.new.turns)
    c.loop-filled.opening c.read_turn.new.into c.loop-filled.filled c.in_ok-filled.field-0 c.loop-filled.invariant
    c.read_turn.auto.into fits leg

pub returns-clause-ok : goal.returns-clause-ok
returns-clause-ok g c =
    let so_far = c.loop-filled.invariant in (
      so_far.whole,
      subst (Leg (source_at (g.R.Inlet.inflow c.args.reader.now) c.args.turns.now)
          (source_at (g.R.Inlet.inflow c.loop-filled.reader) c.loop-filled.turns))
          (filled_whole c.loop-filled.opening c.loop-filled.filled so_far.fits c.loop-filled-test.false so_far.whole)
          so_far.leg,
    )
