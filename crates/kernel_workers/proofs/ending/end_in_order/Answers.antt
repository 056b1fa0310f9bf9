use Rattle.std.proofs.Common.{of_calls}
use Rattle.kernel_workers.specs.Running.{IsLastToken}
use Rattle.kernel_workers.specs.Starting.{subscribing_by}
use Rattle.kernel_workers.proofs.ShutdownLemmas.{in_order_by}
use Rattle.kernel_workers.proofs.ending.end_in_order.Goals as goal

pub returns-in-Some : goal.returns-in-Some
returns-in-Some g c =
    in_order_by g.I.Interpreter.meaning g.S.Stamp.stamp c.args.left.shell c.args.left.control c.args.request
    c.args.relay _ (λ tokens. IsLastToken (subscribing_by c.args.left.subscriptions.promise) tokens
    c.in-Some.end.1.value) c.in-Some.end.0 (λ tokens given. search of_calls) c.in-Some.ensures
