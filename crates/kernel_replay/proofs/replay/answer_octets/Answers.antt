use Rattle.kernel_replay.specs.declared.replay.Unstopped.{Unstopped}
use Rattle.kernel_replay.proofs.ReplayLemmas.{prints_all_ok}
use Rattle.kernel_replay.proofs.replay.answer_octets.Goals as goal

pub returns : goal.returns
returns g c =
    prints_all_ok g.I.Interpreter.meaning c.args.interp {T = Unstopped} (record {}) c.law_session_stays.ensures
    c.args.key.items c.args.octets.now _
    c.answer_peer.result (rw c.new.ensures at c.answer_peer.ensures)
