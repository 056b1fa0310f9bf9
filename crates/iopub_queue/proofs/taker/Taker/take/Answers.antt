use Rattle.std.proofs.Common.{refl, arith}
use Rattle.iopub_queue.proofs.Tokens.{complete_by, finds_nothing, takes_item, takes_close, takes_one, took_unmarked}
use Rattle.iopub_queue.proofs.taker.Taker.take.Goals as goal

pub returns-then-self-eq0-clause-given : goal.returns-then-self-eq0-clause-given
returns-then-self-eq0-clause-given g c =
    rw (← c.self.view_is) (refl, complete_by _ c.self.inside.seat _ _ c.self.invariant c.if-self-eq0.true)

pub invariant_of-self-in-Some-default-Some : goal.invariant_of-self-in-Some-default-Some
invariant_of-self-in-Some-default-Some g c =
    takes_item _ c.self.inside.seat c.pop.new.seat _ _ _ _ c.self.invariant c.pop.ensures.seat
    (rw c.in-Some-default-Some.field-0-1-is at c.in-Some-default-Some.ensures.taken)

pub returns-in-Some-default-Some-clause-given : goal.returns-in-Some-default-Some-clause-given
returns-in-Some-default-Some-clause-given g c = rw (← c.self.view_is)
    (takes_one c.self.inside.seat c.pop.new.seat _ _ c.pop.ensures.seat
    (rw c.in-Some-default-Some.field-0-1-is at c.in-Some-default-Some.ensures.taken))

pub returns-in-None-clause-given : goal.returns-in-None-clause-given
returns-in-None-clause-given g c = rw (← c.self.view_is)
    (finds_nothing _ c.self.inside.seat c.pop.new.seat _ _ c.self.invariant c.if-self-eq0.false c.pop.ensures.seat
    c.in-None.ensures.taken.0 c.in-None.ensures.taken.1)

pub index_mut-requires : goal.index_mut-requires
index_mut-requires g c =
    let there = took_unmarked _ c.self.inside.seat c.pop.new.seat _ _ _ _ c.self.invariant
    (rw c.in-Some-default-None.field-0-1-is at c.in-Some-default-None.ensures.taken) in omega (arith, there.0)

pub returns-in-Some-default-None-clause-given : goal.returns-in-Some-default-None-clause-given
returns-in-Some-default-None-clause-given g c = rw (← c.self.view_is)
    (takes_one c.self.inside.seat c.pop.new.seat _ _ c.pop.ensures.seat
    (rw c.in-Some-default-None.field-0-1-is at c.in-Some-default-None.ensures.taken))

pub invariant_of-self-in-Some-default-None : goal.invariant_of-self-in-Some-default-None
invariant_of-self-in-Some-default-None g c = let left = c.if-self-eq0.false in
    takes_close _ c.self.inside.seat c.pop.new.seat _ _ c.self.inside.left _ c.self.invariant c.pop.ensures.seat
    (rw c.in-Some-default-None.field-0-1-is at c.in-Some-default-None.ensures.taken) (omega arith)
