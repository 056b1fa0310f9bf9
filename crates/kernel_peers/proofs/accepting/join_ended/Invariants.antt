use Rattle.std.proofs.Common.{◌-◌, length}
use Rattle.kernel_peers.proofs.accepting.join_ended.Given as goal

abbrev pub decreases-loop-place : goal.decreases-loop-place
decreases-loop-place g l = length l.threads.items - l.place
