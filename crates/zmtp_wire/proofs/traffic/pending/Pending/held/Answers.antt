use Rattle.std.proofs.Common.{◌≡◌, ◌+◌, ◌∙◌, ap, arith, drop, length, List, [], min, sym, zero-add, ℕ}
use Rattle.std.proofs.Math.ListN.{drop_of_length-le}
use Rattle.std.proofs.Math.Nat.{min-eq_left}
use Rattle.zmtp_wire.specs.Frame.{front_octets}
use Rattle.zmtp_wire.specs.declared.traffic.frame.Frame.{Frame}
use Rattle.zmtp_wire.proofs.traffic.pending.Pending.held.Goals as goal

pub returns : goal.returns
returns c =
    let held : ℕ = c.loop-frame.held in
    let none : drop c.loop-frame.frame-index c.args.self.now.frames.items ≡ [] =
    drop_of_length-le c.args.self.now.frames.items (omega arith) in
    sym (min-eq_left c.loop-frame.invariant.0) ∙ ap (λ (n : ℕ). min n 18446744073709551615) (sym (zero-add held))
    ∙ ap (λ (rest : List Frame). min (length (front_octets rest) + held) 18446744073709551615) (sym none)
    ∙ c.loop-frame.invariant.1
