use Rattle.std.proofs.Common.{◌≡◌, rules, subst}
use Rattle.kernel_program.specs.Replay.{Replays}
use Rattle.kernel_program.proofs.EndLemmas.{begun_replay, ends_replay, ends_unbegun}
use Rattle.kernel_program.proofs.program.replay_begun.Goals as goal

pub returns-in-Ok-clause-replays : goal.returns-in-Ok-clause-replays
returns-in-Ok-clause-replays g c =
    let same : c.into_bytes.result.items ≡ c.args.key = search rules in
    ends_replay g.L.Interp.Interpreter.meaning (g.L.Language.profile c.args.language.now) c.in-Ok.interp c.args.key
    (g.R.Read.remaining c.args.reader.now) (g.R.Read.remaining c.replay.new.reader)
    (g.W.Write.contents c.args.writer.now) (g.W.Write.contents c.replay.new.writer) c.replay.result c.in-Ok.ensures.begun
    (subst (λ key. Replays g.L.Interp.Interpreter.meaning c.in-Ok.interp key
    (g.R.Read.remaining c.args.reader.now) (g.R.Read.remaining c.replay.new.reader)
    (g.W.Write.contents c.args.writer.now) (g.W.Write.contents c.replay.new.writer) c.replay.result) same c.replay.ensures.replays)

pub returns-in-Ok-clause-unread : goal.returns-in-Ok-clause-unread
returns-in-Ok-clause-unread g c never =
    absurd (begun_replay g.L.Interp.Interpreter.meaning c.in-Ok.interp c.into_bytes.result.items
    (g.R.Read.remaining c.args.reader.now) (g.R.Read.remaining c.replay.new.reader)
    (g.W.Write.contents c.args.writer.now) (g.W.Write.contents c.replay.new.writer) c.replay.result c.replay.ensures.replays never)

pub returns-in-Err-clause-replays : goal.returns-in-Err-clause-replays
returns-in-Err-clause-replays g c =
    rw c.not_begun.ensures (ends_unbegun g.L.Interp.Interpreter.meaning (g.L.Language.profile c.args.language.now) c.args.key (g.R.Read.remaining c.args.reader.now) (g.R.Read.remaining c.args.reader.now) (g.W.Write.contents c.args.writer.now) (g.W.Write.contents c.args.writer.now) c.in-Err.fault c.in-Err.ensures.refused)
