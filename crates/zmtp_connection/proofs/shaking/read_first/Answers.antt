use Rattle.std.proofs.Common.{rules, arith, ◌≡◌, [], None, take}
use Rattle.std.proofs.lemmas.Grind.{common_steps}
use Rattle.std.proofs.lemmas.Result.{err_from_is_err_and}
use Rattle.zmtp_connection.specs.Exchange.{source_at}
use Rattle.zmtp_connection.proofs.FirstLemmas.{none_first, stopped_first, came_first, refused_first, nothing_first}
use Rattle.zmtp_connection.proofs.shaking.read_first.Goals as goal

pub loop-count-init : goal.loop-count-init
loop-count-init g c = none_first (source_at (g.R.Inlet.inflow c.args.reader.now) c.args.turns.now)
    c.args.decoder.now c.requires

pub returns-in_err-count-clause-err : goal.returns-in_err-count-clause-err
returns-in_err-count-clause-err g c =
    let p = err_from_is_err_and c.from_residual.result c.from_residual.ensures.1 in
    let (stop, reading) = c.in_err-count.ensures.err in
    rw (p.1, p.2) (stopped_first (source_at (g.R.Inlet.inflow c.args.reader.now) c.args.turns.now)
    (source_at (g.R.Inlet.inflow c.loop-count.reader) c.loop-count.turns)
    (source_at (g.R.Inlet.inflow c.read_turn.new.reader) c.read_turn.new.turns) c.loop-count.decoder
    c.in_err-count.field-0.0
    c.loop-count.invariant stop reading)

pub returns-then-not-is_empty-clause-ok : goal.returns-then-not-is_empty-clause-ok
returns-then-not-is_empty-clause-ok g c =
    let (some, fits, fewer, leg) = c.in_ok-count.ensures.ok in
    let filled = c.if-not-is_empty.ensures in (
      λ none. absurd (let e = rw none at filled in search rules),
      came_first (source_at (g.R.Inlet.inflow c.args.reader.now) c.args.turns.now)
          (source_at (g.R.Inlet.inflow c.loop-count.reader) c.loop-count.turns)
          (source_at (g.R.Inlet.inflow c.read_turn.new.reader) c.read_turn.new.turns) c.loop-count.decoder
          c.feed-fed.new.self
          (take c.in_ok-count.count c.read_turn.new.into) c.feed-fed.result.traffic c.feed-fed.result.fault
          c.loop-count.invariant leg (c.feed-fed.ensures.fed c.loop-count.invariant.alive) c.feed-fed.ensures.limits
          c.in_ok-count.ensures.one,
    )

pub returns-in-Some-clause-err : goal.returns-in-Some-clause-err
returns-in-Some-clause-err g c =
    let (some, fits, fewer, leg) = c.in_ok-count.ensures.ok in
    let none : c.feed-fed.result.traffic ≡ [] = let e = c.if-not-is_empty.ensures in grind (arith, common_steps) in
    refused_first (source_at (g.R.Inlet.inflow c.args.reader.now) c.args.turns.now)
    (source_at (g.R.Inlet.inflow c.loop-count.reader) c.loop-count.turns)
    (source_at (g.R.Inlet.inflow c.read_turn.new.reader) c.read_turn.new.turns) c.loop-count.decoder c.feed-fed.new.self
    (take c.in_ok-count.count c.read_turn.new.into) c.in-Some.fault c.loop-count.invariant leg
    (rw (none, c.in-Some.is) at (c.feed-fed.ensures.fed c.loop-count.invariant.alive))

pub loop-count-preserved : goal.loop-count-preserved
loop-count-preserved g c =
    let (some, fits, fewer, leg) = c.in_ok-count.ensures.ok in
    let none : c.feed-fed.result.traffic ≡ [] = let e = c.if-not-is_empty.ensures in grind (arith, common_steps) in
    let calm : c.feed-fed.result.fault ≡ None = search rules in
    nothing_first (source_at (g.R.Inlet.inflow c.args.reader.now) c.args.turns.now)
    (source_at (g.R.Inlet.inflow c.loop-count.reader) c.loop-count.turns)
    (source_at (g.R.Inlet.inflow c.read_turn.new.reader) c.read_turn.new.turns) c.loop-count.decoder c.feed-fed.new.self
    (take c.in_ok-count.count c.read_turn.new.into) c.loop-count.invariant leg
    (rw (none, calm) at (c.feed-fed.ensures.fed c.loop-count.invariant.alive)) c.feed-fed.ensures.limits
