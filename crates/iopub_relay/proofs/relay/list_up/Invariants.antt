use Rattle.std.proofs.Common.{◌≡◌, ◌≤◌, ◌+◌, ◌++◌, length, vec_capacity, vec_len}
use Rattle.iopub_relay.specs.Relay.{left_by}
use Rattle.iopub_relay.proofs.relay.list_up.Given as goal

abbrev pub invariant-loop-row : goal.invariant-loop-row
invariant-loop-row g l = record {
  done : l.left.items ≡ left_by l.yielded;
  rest : l.fn.rows.items ≡ l.yielded ++ l.row-iterator.rest.items;
  room : vec_len l.left + length l.row-iterator.rest.items ≤ vec_capacity l.left;
}
