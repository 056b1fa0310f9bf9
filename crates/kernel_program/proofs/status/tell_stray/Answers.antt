use Rattle.kernel_program.proofs.ToldLemmas.{tells_both}
use Rattle.kernel_program.proofs.status.tell_stray.Goals as goal

pub returns : goal.returns
returns g c =
    tells_both (g.F.Write.contents c.args.faults.now) (g.F.Write.contents c.tell_line.new.faults)
    (g.F.Write.contents c.tell_place.new.faults) _ _ c.tell_place.result c.in_ok-tell_line.ensures c.tell_place.ensures
