use Rattle.std.proofs.Common.{rules, ◌≡◌, ◌∷◌, [], length, deque_len, sym, subst}
use Rattle.interp_core.specs.Interpreter.{ByMemory}
use Rattle.sql_cells.specs.Meaning.{BreaksOff, Steps}
use Rattle.sql_cells.proofs.CellLemmas.{steps_so}
use Rattle.sql_cells.proofs.cells.run_first.Goals as goal

pub returns-clause-stepped : goal.returns-clause-stepped
returns-clause-stepped g c =
    let items : c.args.waiting.now.items ≡ c.in-Some.piece ∷ c.pop_front.new.self.items = search rules in
    let long : deque_len c.pop_front.new.self ≡ length c.pop_front.new.self.items = search rules in
    subst (λ all. ByMemory c.stepped.result.next
    ((c.stepped.result.outputs ≡ []) × BreaksOff g.S.Store c.args.conn.now all c.run_on-outcome.new.conn)
    (Steps g.S.Store c.args.conn.now all c.stepped.result c.run_on-outcome.new.conn c.pop_front.new.self.items))
    (sym items)
    (steps_so g.S.Store c.in-Some.piece c.pop_front.new.self.items c.args.conn.now c.run_on-outcome.new.conn
    c.run_on-outcome.result c.stepped.result (rw (c.is_empty.ensures, long) at c.stepped.ensures)
    (rw c.as_slice.ensures at c.run_on-outcome.ensures.came)
    (rw c.as_slice.ensures at c.run_on-outcome.ensures.memory))
