use Rattle.std.proofs.Common.{◌≡◌, Bool, true, false, get_or, subst, sym}
use Rattle.iopub_queue.proofs.Tokens.{settles_by}
use Rattle.iopub_queue.proofs.taker.Taker.settle.Goals as goal

pub returns-then-index-clause-settled : goal.returns-then-index-clause-settled
returns-then-index-clause-settled g c =
    let sees = c.look.ensures.sees in let marks = c.self.inside.closed.items in
    let mark : true ≡ get_or marks c.closed.inside.number true =
    subst (λ (b : Bool). b ≡ get_or marks c.closed.inside.number b) c.if-index.true c.index.ensures in
    rw (← c.self.view_is, ← c.closed.view_is)
    (settles_by _ c.self.inside.seat c.join_publisher.new.taker c.closed.inside.seat _ _ sees.0 true c.self.invariant
    c.join_publisher.ensures.settled sees.1 (subst (λ n. true ≡ get_or marks n true)
    (sym c.closed.invariant.named) mark))

pub returns-clause-settled : goal.returns-clause-settled
returns-clause-settled g c =
    let sees = c.look.ensures.sees in let marks = c.self.inside.closed.items in
    let mark : false ≡ get_or marks c.closed.inside.number false =
    subst (λ (b : Bool). b ≡ get_or marks c.closed.inside.number b) c.if-index.false c.index.ensures in
    rw (← c.self.view_is, ← c.closed.view_is)
    (settles_by _ c.self.inside.seat c.join_publisher.new.taker c.closed.inside.seat _ _ sees.0 false c.self.invariant
    c.join_publisher.ensures.settled sees.1 (subst (λ n. false ≡ get_or marks n false)
    (sym c.closed.invariant.named) mark))
