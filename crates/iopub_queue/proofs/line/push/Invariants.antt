use Rattle.std.proofs.Common.{◌≡◌}
use Rattle.crossbeam_queue.specs.Passes.{view, IsSamePass, IsPassOf}
use Rattle.iopub_queue.proofs.line.push.Given as goal

-- the entry waits to be pushed, and the seat is as it was
abbrev pub invariant-loop : goal.invariant-loop
invariant-loop g l =
    (l.entry ≡ l.fn.entry) × IsPassOf l.line l.seat × IsSamePass l.fn.seat l.seat × (view l.seat ≡ view l.fn.seat)
