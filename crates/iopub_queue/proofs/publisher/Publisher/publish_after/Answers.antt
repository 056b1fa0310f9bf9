use Rattle.std.proofs.Common.{ap, ◌∙◌, subst, sym}
use Rattle.std.specs.Arc.{arc_value}
use Rattle.crossbeam_queue.specs.Passes.{view}
use Rattle.iopub_queue.specs.Entries.{HasNoClose}
use Rattle.iopub_queue.proofs.Tokens.{adds_after, publishes_on, stays_of}
use Rattle.iopub_queue.proofs.publisher.Publisher.publish_after.Goals as goal

pub invariant_of-self : goal.invariant_of-self
invariant_of-self g c = let may = c.self.invariant in let learnt = c.join_word.ensures.learnt in
    publishes_on _ c.join_word.new.seat c.push.new.seat _ _
    (stays_of (arc_value c.self.inside.line) c.self.inside.seat c.join_word.new.seat may.holds.seat_of
    c.join_word.ensures.seat)
    (ap (λ v. v.role) learnt ∙ may.holds.role) (ap (λ v. v.number) learnt ∙ may.holds.named)
    (subst (λ v. HasNoClose v.published) (sym learnt) may.open_list) c.push.ensures.seat c.push.ensures.published

pub returns-clause-adds : goal.returns-clause-adds
returns-clause-adds g c = rw (← c.self.view_is)
    (adds_after c.self.inside.seat c.join_word.new.seat c.push.new.seat
    (view c.word.inside.seat) _ _ c.self.invariant.holds.named
    c.join_word.ensures.seat c.join_word.ensures.learnt c.push.ensures.seat c.push.ensures.published).0

pub returns-clause-behind : goal.returns-clause-behind
returns-clause-behind g c = rw (← c.self.view_is, ← c.word.view_is)
    (adds_after c.self.inside.seat c.join_word.new.seat c.push.new.seat
    (view c.word.inside.seat) _ _ c.self.invariant.holds.named
    c.join_word.ensures.seat c.join_word.ensures.learnt c.push.ensures.seat c.push.ensures.published).1
