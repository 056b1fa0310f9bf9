use Rattle.std.proofs.Common.{arith, ◌≡◌, ◌++◌, length, drop, length-append, ap, ◌∙◌}
use Rattle.std.proofs.lemmas.List.{length-take-le}
use Rattle.zmtp_connection.specs.Exchange.{source_at}
use Rattle.zmtp_connection.proofs.ListenLemmas.{listening_begins, listening_ends_first, listening_goes_on}
use Rattle.zmtp_connection.proofs.ListenLemmas.{listening_ended, listening_cut}
use Rattle.zmtp_connection.proofs.listening.listen_on.Goals as goal

pub returns-in-Err-clause-listens : goal.returns-in-Err-clause-listens
returns-in-Err-clause-listens g c before came = (
  c.args.turns,
  listening_ends_first g.L.Listener.hears c.args.listener.now c.hand_fed.new.listener c.args.unheard.fed
      c.args.unheard.decoder (source_at (g.R.Inlet.inflow c.args.reader.now) c.args.turns) before c.in-Err.ending came
      c.in-Err.ensures.hands,
)

pub returns-in_default-vec-clause-listens : goal.returns-in_default-vec-clause-listens
returns-in_default-vec-clause-listens g c before came =
    let source = source_at (g.R.Inlet.inflow c.args.reader.now) c.args.turns in (
      c.args.turns,
      listening_cut g.L.Listener.hears c.args.listener.now c.hand_fed.new.listener c.args.unheard.decoder source before
          (listening_begins g.L.Listener.hears c.args.listener.now c.hand_fed.new.listener c.args.unheard.fed
          c.args.unheard.decoder source before came c.in_default.ensures.hands),
    )

pub pieces-init : goal.pieces-init
pieces-init g c = record {
  room = let long = c.in-Ok.ensures.len in omega arith;
  same = c.in_default.ensures.names;
  so_far = λ before came. listening_begins g.L.Listener.hears c.args.listener.now c.hand_fed.new.listener
      c.args.unheard.fed c.args.unheard.decoder (source_at (g.R.Inlet.inflow c.args.reader.now) c.args.turns)
      before came c.in_default.ensures.hands;
}

pub returns-in-Err-heard-clause-listens : goal.returns-in-Err-heard-clause-listens
returns-in-Err-heard-clause-listens g c before came = (
  c.hear_piece-heard.new.turns,
  listening_ended g.L.Listener.hears c.args.listener.now c.pieces.listener c.hear_piece-heard.new.listener
      c.pieces.decoder c.hear_piece-heard.new.decoder
      (source_at (g.R.Inlet.inflow c.args.reader.now) c.args.turns)
      (source_at (g.R.Inlet.inflow c.pieces.reader) c.pieces.left)
      (source_at (g.R.Inlet.inflow c.hear_piece-heard.new.reader) c.hear_piece-heard.new.turns) before
      c.in-Err-heard.ending (c.pieces.invariant.so_far before came) c.in-Err-heard.ensures.hears,
)

pub pieces-preserved : goal.pieces-preserved
pieces-preserved g c =
    let so_far = c.pieces.invariant in
    let into = c.hear_piece-heard.new.piece in
    let long : length into ≡ length c.pieces.piece.items =
    c.hear_piece-heard.auto.piece ∙ ap length c.deref_mut.ensures.value in
    let len = c.pieces.piece.ok.0 in
    record {
      room = let behind = drop (length into) c.pieces.piece.items in
          let all = into ++ behind in
          let whole = length-append into behind in
          let some = so_far.room in
          let taken = length-take-le c.pieces.piece.len all (omega (arith, long, whole, len)) in
          omega (arith, taken, some, len);
      same = c.in_default-heard.ensures.names ∙ so_far.same;
      so_far = λ before came. listening_goes_on g.L.Listener.hears c.args.listener.now c.pieces.listener
          c.hear_piece-heard.new.listener c.pieces.decoder c.hear_piece-heard.new.decoder
          (source_at (g.R.Inlet.inflow c.args.reader.now) c.args.turns)
          (source_at (g.R.Inlet.inflow c.pieces.reader) c.pieces.left)
          (source_at (g.R.Inlet.inflow c.hear_piece-heard.new.reader) c.hear_piece-heard.new.turns) before
          (so_far.so_far before came) c.in_default-heard.ensures.hears;
    }
