use Rattle.std.proofs.Common.{◌≡◌, All}
use Rattle.kernel_workers.specs.Ending.{IsNoMessage, PassesOn}
use Rattle.kernel_workers.proofs.subscriptions.SubscriptionsWorker.run.Given as goal

abbrev pub invariant-loop : goal.invariant-loop
invariant-loop g l = record {
  queue : l.sink.queue ≡ l.fn.self.sink.queue;
  number : l.sink.number ≡ l.fn.self.sink.number;
  passes : PassesOn l.fn.self.inbox l.inbox l.sink.published;
  silent : All IsNoMessage l.sink.published;
}
