use Rattle.arith_cells.specs.Printed.CellPrints.{read, refused}
use Rattle.arith_cells.proofs.PrintedLemmas.{follows, both_follow, of_reported}
use Rattle.arith_cells.proofs.cell.run_cell.Goals as goal

pub returns-in-Ok : goal.returns-in-Ok
returns-in-Ok g c =
    follows c.run_steps.result _ _ c.run_steps.ensures (λ printed. record {
      text = printed.text;
      appended = printed.appended;
      said = read _ _ _ _ _ c.in-Ok.cell c.in-Ok.ensures.answered printed.said;
    })

pub returns-in-Err : goal.returns-in-Err
returns-in-Err g c =
    both_follow c.print_fault.result _ _ _ c.print_fault.ensures.line c.print_fault.ensures.reported
    (λ line reported. record {
      text = _;
      appended = line;
      said = refused _ _ _ c.in-Err.fault (of_reported c.in-Err.fault _ _ reported c.in-Err.ensures.answered);
    })
