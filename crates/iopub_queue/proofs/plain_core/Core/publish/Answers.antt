use Rattle.std.proofs.Common.{refl, Some}
use Rattle.iopub_queue.proofs.CoreLemmas.{open_by_mark, mark_by_open, follows_entered}
use Rattle.iopub_queue.proofs.Marking.{marks_item}
use Rattle.iopub_queue.proofs.plain_core.Core.publish.Goals as goal

pub returns-then-not-is_open : goal.returns-then-not-is_open
returns-then-not-is_open g c = (
  refl,
  λ state follows free. c.if-not-is_open.ensures (mark_by_open _ state _ _ refl follows free),
)

pub returns : goal.returns
returns g c = λ state follows.
    let free = open_by_mark _ state _ _ refl follows c.if-not-is_open.ensures in (
      free,
      follows_entered _ state _ _ (c.args.number, Some c.args.item) follows free c.in-Ok.ensures.items refl
          (marks_item _ _ state.published c.args.number c.args.item free.open_list follows.marks),
    )
