use Rattle.kernel_replay.specs.declared.replay.Unstopped.{Unstopped}
use Rattle.kernel_replay.proofs.TextOnce.{lines_once}
use Rattle.kernel_replay.proofs.laws.law_one_text.Goals as goal

pub returns : goal.returns
returns g c = lines_once {T = Unstopped} g.I.Interpreter.meaning (record {}) c.law_one_session.ensures.once
