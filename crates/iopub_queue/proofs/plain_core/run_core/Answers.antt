use Rattle.std.proofs.Common.{refl, sym}
use Rattle.iopub_queue.proofs.CoreLemmas.{follows_start, ran_more}
use Rattle.iopub_queue.proofs.plain_core.run_core.Goals as goal

pub loop-event-init : goal.loop-event-init
loop-event-init g c = record {
  whole = sym c.into_iter-event-iterator.ensures.into_iter_gives.0;
  counted = refl;
  allowed = tt;
  follows = follows_start c.args.n _ (c.in-Ok.ensures.items_if_clones_equal (λ y is. is)) c.new.ensures.items refl;
}

pub loop-event-preserved : goal.loop-event-preserved
loop-event-preserved g c =
    ran_more _ _ _ _ _ _ _ _ _ c.loop-event.invariant c.in-Some.ensures.steps.0 c.in_ok-step.ensures
