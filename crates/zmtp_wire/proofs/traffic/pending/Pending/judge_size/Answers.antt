use Rattle.std.proofs.Common.{arith, rules}
use Rattle.zmtp_wire.proofs.PendingLemmas.{too_long}
use Rattle.zmtp_wire.proofs.traffic.pending.Pending.judge_size.Goals as goal

pub returns-then-size-self-2-clause-err : goal.returns-then-size-self-2-clause-err
returns-then-size-self-2-clause-err c =
    too_long c.args.self.now.limits _ c.args.flags.more c.args.flags.long c.args.flags.command c.args.size
    (search rules) c.requires.said c.requires.flags
    (omega arith) (omega (arith, c.requires.front.left))
