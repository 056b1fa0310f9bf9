use Rattle.sql_cells.proofs.opening.Sql+MemStore.in_memory.Goals as goal

pub returns : goal.returns
returns c = (c.in_ok-conn.conn, rw c.set_clock.ensures at c.over.ensures, c.in_ok-conn.ensures.empty)
