use Rattle.std.proofs.Common.{inr, take, refl}
use Rattle.zmtp_connection.specs.Exchange.{source_at}
use Rattle.zmtp_connection.proofs.ListenLemmas.{heard_piece}
use Rattle.zmtp_connection.proofs.listening.hear_piece.Goals as goal

pub returns-in-Ok-clause-hears : goal.returns-in-Ok-clause-hears
returns-in-Ok-clause-hears g c =
    let (some, fits, fewer, leg) = c.in-Ok.ensures.ok in
    heard_piece g.L.Listener.hears c.args.listener.now c.hand_fed.new.listener c.args.decoder.now c.feed-fed.new.self
    (source_at (g.R.Inlet.inflow c.args.reader.now) c.args.turns.now)
    (source_at (g.R.Inlet.inflow c.read_turn.new.reader) c.read_turn.new.turns)
    (take c.in-Ok.count c.read_turn.new.into) c.split_at.result.0.now c.feed-fed.result.traffic c.feed-fed.result.fault
    c.hand_fed.result leg c.in-Ok.ensures.one c.split_at.ensures.front c.feed-fed.ensures.fed c.feed-fed.ensures.limits
    c.hand_fed.ensures.hands

pub returns-in-Err-clause-hears : goal.returns-in-Err-clause-hears
returns-in-Err-clause-hears g c =
    let (stop, reading) = c.in-Err.ensures.err in
    inr (c.in-Err.end, refl, stop, reading, refl {a = c.args.listener.now})
