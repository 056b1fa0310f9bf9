use Rattle.std.proofs.Common.{subst, sym}
use Rattle.std.specs.Prelude.{OnOk}
use Rattle.std.specs.Io.KnownBytes.{Appends}
use Rattle.kernel_program.specs.Told.{input_lines}
use Rattle.kernel_program.proofs.status.tell_input.Goals as goal

pub returns-in-None : goal.returns-in-None
returns-in-None g c =
    subst (λ place. OnOk c.tell_two.result (Appends (g.F.Write.contents c.args.faults.now)
    (g.F.Write.contents c.tell_two.new.faults) (input_lines c.args.name.now place))) (sym c.in-None.is) c.tell_two.ensures
