use Rattle.std.proofs.Common.{◌≡◌, ℕ, ◌<◌, ◌≤◌, length, take, nat_lt, false}
use Rattle.iopub_relay.specs.Counts.{holding_of}
use Rattle.iopub_relay.proofs.topics.Topics.begin_in.Given as goal

abbrev pub invariant-loop-len : goal.invariant-loop-len
invariant-loop-len l = (len : ℕ) → len < l.len → len ≤ length l.octets
    → nat_lt 0 (holding_of l.self (take len l.octets)) ≡ false
