use Rattle.std.proofs.Common.{rules}
use Rattle.kernel_replay.proofs.ReplayLemmas.{begun_as}
use Rattle.kernel_replay.proofs.replay.begun.Goals as goal

pub returns-in-Ok : goal.returns-in-Ok
returns-in-Ok g c =
    begun_as c.args.interp c.args.key.items _ c.new-engine.result c.start.new.self (search rules)
    c.in-Ok.ensures
