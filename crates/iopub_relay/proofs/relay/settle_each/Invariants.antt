use Rattle.std.proofs.Common.{◌≡◌, ◌++◌}
use Rattle.iopub_relay.proofs.SettleLemmas.{AreOf, Settling}
use Rattle.iopub_relay.proofs.relay.settle_each.Given as goal

abbrev pub invariant-loop-closed : goal.invariant-loop-closed
invariant-loop-closed g l = record {
  same : l.taker ≡ l.fn.taker;
  settling : Settling l.fn.taker l.yielded l.whole;
  queue : AreOf l.fn.taker l.closed-iterator.rest.items;
  rest : l.fn.tokens.items ≡ l.yielded ++ l.closed-iterator.rest.items;
}
