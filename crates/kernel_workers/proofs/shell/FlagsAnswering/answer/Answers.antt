use Rattle.std.proofs.Common.{refl, inl}
use Rattle.kernel_workers.proofs.shell.FlagsAnswering.answer.Goals as goal

pub returns-clause-does : goal.returns-clause-does
returns-clause-does g c =
    inl (tt, record { one = _; leaves = c.leave.ensures; rest = c.leave_rest.ensures; cause_is = refl })
