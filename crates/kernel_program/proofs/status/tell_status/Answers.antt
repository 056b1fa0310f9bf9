use Rattle.std.proofs.Common.{subst, sym}
use Rattle.std.specs.Prelude.{IfSome, OnOk}
use Rattle.std.specs.Io.KnownBytes.{Appends}
use Rattle.kernel_program.specs.Told.{told_of_status}
use Rattle.kernel_program.proofs.status.tell_status.Goals as goal

pub returns-in-Incomplete : goal.returns-in-Incomplete
returns-in-Incomplete g c =
    subst (λ status. OnOk c.tell_incomplete.result (IfSome (told_of_status c.args.name.now status)
    (Appends (g.F.Write.contents c.args.faults.now) (g.F.Write.contents c.tell_incomplete.new.faults))))
    (sym c.in-Incomplete.is) (c.tell_incomplete.ensures)
