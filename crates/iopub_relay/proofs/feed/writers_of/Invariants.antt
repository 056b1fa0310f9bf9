use Rattle.std.proofs.Common.{◌≡◌, ◌≤◌, ◌+◌, ◌++◌, length, map, vec_capacity, vec_len}
use Rattle.iopub_relay.proofs.feed.writers_of.Given as goal

abbrev pub invariant-loop-row : goal.invariant-loop-row
invariant-loop-row g l = record {
  done : l.left.items ≡ map (λ row. (row.id, row.writer)) l.yielded;
  rest : l.fn.rows.items ≡ l.yielded ++ l.row-iterator.rest.items;
  room : vec_len l.left + length l.row-iterator.rest.items ≤ vec_capacity l.left;
}
