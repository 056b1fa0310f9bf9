use Rattle.std.proofs.Common.{rules, arith, subst, List, ℕ, drop}
use Rattle.std.proofs.lemmas.Result.{err_from_is_err_and}
use Rattle.std.proofs.lemmas.Grind.{common_steps}
use Rattle.zmtp_wire.specs.Frame.{front_octets}
use Rattle.zmtp_wire.specs.Pending.{head_of, Keeps}
use Rattle.zmtp_wire.proofs.PendingLemmas.{refuse_more, gathered, gathered_all}
use Rattle.zmtp_wire.proofs.traffic.pending.Pending.gather.Goals as goal

pub returns-in_err-traffic-clause-err : goal.returns-in_err-traffic-clause-err
returns-in_err-traffic-clause-err c =
    let p = err_from_is_err_and c.from_residual-in_err-traffic.result c.from_residual-in_err-traffic.ensures.1 in
    rw (p.1, p.2) (refuse_more c.args.self.now.limits _ _ (drop c.min-taken.result c.args.octets.now) _
    (gathered_all (front_octets c.args.self.now.frames.items) (head_of c.args.flags) c.args.size c.args.body.items
    c.extend_from_slice.new.self.items c.args.octets.now c.min-taken.result (search rules)
    (grind (arith, common_steps)))
    c.in_err-traffic.ensures.err)

pub returns-clause-ok : goal.returns-clause-ok
returns-clause-ok c =
    subst (λ (o : List ℕ). Keeps c.args.self.now.limits o c.finish.new.self c.in_ok-traffic.traffic)
    (gathered (front_octets c.args.self.now.frames.items) (head_of c.args.flags) c.args.size c.args.body.items
    c.extend_from_slice.new.self.items c.args.octets.now c.min-taken.result (search rules)
    (grind (arith, common_steps)))
    c.in_ok-traffic.ensures.ok
