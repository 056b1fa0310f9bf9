use Rattle.std.proofs.Common.{◌≡◌, length, take, nat_lt, false, sym, arith}
use Rattle.iopub_relay.specs.Counts.{holding_of}
use Rattle.iopub_relay.proofs.BeginningLemmas.{one_passes, none_passes, up_to_here}
use Rattle.iopub_relay.proofs.topics.Topics.begin_in.Goals as goal

pub loop-len-init : goal.loop-len-init
loop-len-init c len few short = absurd (omega (arith, few))

pub returns-then-has : goal.returns-then-has
returns-then-has c =
    sym (one_passes (λ topic. nat_lt 0 (holding_of c.args.self.now topic)) c.args.octets.now c.loop-len.len
    c.loop-len-test.true (sym c.if-has.ensures))

pub loop-len-preserved : goal.loop-len-preserved
loop-len-preserved c len few short =
    up_to_here (λ n. nat_lt 0 (holding_of c.args.self.now (take n c.args.octets.now)) ≡ false)
    (length c.args.octets.now)
    c.loop-len.len len (omega (arith, few)) short c.loop-len.invariant (sym c.if-has.ensures)

pub returns-else-has : goal.returns-else-has
returns-else-has c =
    sym (none_passes (λ topic. nat_lt 0 (holding_of c.args.self.now topic)) c.args.octets.now
    (λ len short. up_to_here (λ n. nat_lt 0 (holding_of c.args.self.now (take n c.args.octets.now)) ≡ false)
    (length c.args.octets.now) c.loop-len.len len (grind (arith, short)) short c.loop-len.invariant
    (sym c.if-has.ensures)))
