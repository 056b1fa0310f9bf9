use Rattle.std.proofs.Common.{arith, ◌≡◌, ◌∷◌, ◌∙◌, subst}
use Rattle.std.proofs.lemmas.Grind.{common_steps}
use Rattle.iopub_queue.specs.Calls.{Settles}
use Rattle.iopub_queue.specs.Values.{Taking}
use Rattle.iopub_queue.specs.declared.taken.Settled.TheVariants.{Whole, Beginning}
use Rattle.iopub_relay.proofs.SettleLemmas.{settling_whole, settling_part, others_of}
use Rattle.iopub_relay.proofs.relay.settle_each.Goals as goal

pub loop-closed-preserved : goal.loop-closed-preserved
loop-closed-preserved g c =
    let next : c.loop-closed.closed-iterator.rest.items ≡ c.in-Some.closed ∷ c.next.new.self.rest.items =
    grind (arith, common_steps) in record {
      same = c.settle.ensures.same ∙ c.loop-closed.invariant.same;
      settling = settling_part c.args.taker.now c.loop-closed.yielded c.loop-closed.whole c.in-Some.closed
          (subst (λ (taker : Taking g.row.T.Denot). Settles taker c.in-Some.closed Beginning)
          c.loop-closed.invariant.same c.in-Beginning.ensures.settled) c.loop-closed.invariant.settling;
      queue = others_of c.args.taker.now _ _ c.in-Some.closed next c.loop-closed.invariant.queue;
      rest = grind (arith, common_steps);
    }

pub loop-closed-preserved-in-Whole : goal.loop-closed-preserved-in-Whole
loop-closed-preserved-in-Whole g c =
    let next : c.loop-closed.closed-iterator.rest.items ≡ c.in-Some.closed ∷ c.next.new.self.rest.items =
    grind (arith, common_steps) in record {
      same = c.settle.ensures.same ∙ c.loop-closed.invariant.same;
      settling = settling_whole c.args.taker.now c.loop-closed.yielded c.loop-closed.whole c.in-Some.closed
          (subst (λ (taker : Taking g.row.T.Denot). Settles taker c.in-Some.closed Whole)
          c.loop-closed.invariant.same c.in-Whole.ensures.settled) c.loop-closed.invariant.settling;
      queue = others_of c.args.taker.now _ _ c.in-Some.closed next c.loop-closed.invariant.queue;
      rest = grind (arith, common_steps);
    }
