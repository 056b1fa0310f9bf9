use Rattle.std.proofs.Common.{◌≡◌, take}
use Rattle.std.specs.List.{AllByRecursion}
use Rattle.iopub_relay.specs.Relay.{TokenIsTold}
use Rattle.iopub_relay.proofs.concluding.learn_all.Given as goal

abbrev pub invariant-loop-place : goal.invariant-loop-place
invariant-loop-place g l = record {
  tokens : l.tokens.items ≡ l.fn.tokens.items;
  queue : l.relay.taker.queue ≡ l.fn.relay.taker.queue;
  count : l.relay.taker.count ≡ l.fn.relay.taker.count;
  taken : l.relay.taker.taken ≡ l.fn.relay.taker.taken;
  told : AllByRecursion (TokenIsTold l.relay.taker.told) (take l.place l.fn.tokens.items);
}
