use Rattle.std.proofs.Common.{◌≡◌, take}
use Rattle.iopub_relay.specs.Counts.{listed}
use Rattle.iopub_relay.proofs.topics.place_in.Given as goal

abbrev pub invariant-loop-place : goal.invariant-loop-place
invariant-loop-place l = listed (take l.place l.list) l.topic ≡ 0
