use Rattle.std.proofs.Common.{Some, ap, refl}
use Rattle.std.proofs.lemmas.Result.{IfOk-weaker}
use Rattle.kernel_replay.specs.Lines.{ending_words}
use Rattle.kernel_replay.proofs.ReplayLemmas.{prints_peer}
use Rattle.kernel_replay.proofs.replay.answer_peer.Goals as goal

pub returns-in-Ok : goal.returns-in-Ok
returns-in-Ok g c =
    let came = c.in-Ok.outcome in
    let ended = c.in-Ok.ensures in
    IfOk-weaker c.outcome_lines.result _ _ (λ lines printed.
    prints_peer g.I.Interpreter.meaning c.args.interp c.args.key.items c.in_ok-engine.engine c.session-end.new.engine (g.R.Inlet.inflow c.args.reader.now)
    (g.R.Inlet.inflow c.session-end.new.reader) _ _ _ c.into_inner-shell.result.items lines.items
    (ending_words came.ending) came.events.items
    c.session-end.result c.in_ok-engine.ensures c.session-end.ensures.tells
    (rw c.new-writer.ensures (ap Some c.new.ensures.items)) (rw c.into_inner-shell.ensures refl)
    ended.published ended.settled ended.ending printed) c.outcome_lines.ensures
