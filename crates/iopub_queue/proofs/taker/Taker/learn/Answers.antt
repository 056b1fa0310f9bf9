use Rattle.crossbeam_queue.specs.Passes.{view}
use Rattle.iopub_queue.proofs.Tokens.{takes_on, learns_of}
use Rattle.iopub_queue.proofs.taker.Taker.learn.Goals as goal

pub invariant_of-self : goal.invariant_of-self
invariant_of-self g c = let sees = c.look.ensures.sees in
    takes_on _ c.self.inside.seat c.join_word.new.seat c.look.new.seat
    (view c.word.inside.seat) _ _ sees.0 c.self.invariant
    c.join_word.ensures.seat c.join_word.ensures.learnt c.look.ensures.seat.0 c.look.ensures.seat.1 sees.1

pub returns-clause-learnt : goal.returns-clause-learnt
returns-clause-learnt g c = let sees = c.look.ensures.sees in rw (← c.self.view_is, ← c.word.view_is)
    (learns_of c.self.inside.seat c.join_word.new.seat c.look.new.seat c.word.inside.seat sees.0
    c.join_word.ensures.seat c.join_word.ensures.learnt c.look.ensures.seat.0 c.look.ensures.seat.1 sees.1)
