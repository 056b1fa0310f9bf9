use Rattle.std.proofs.Common.{sym, subst, arith, drop, take, length, List, ℕ, ◌≡◌, ◌+◌, ◌-◌, ◌++◌, append_assoc}
use Rattle.std.proofs.lemmas.Result.{err_from_is_err_and}
use Rattle.std.proofs.lemmas.Grind.{common_steps}
use Rattle.zmtp_wire.specs.Frame.{front_octets}
use Rattle.zmtp_wire.specs.Pending.{head_of, Keeps}
use Rattle.zmtp_wire.proofs.PendingLemmas.{refuse, refuse_more, opened, opened_all}
use Rattle.zmtp_wire.proofs.traffic.pending.Pending.open.Goals as goal
use Rattle.zmtp_wire.proofs.traffic.pending.Pending.open.Goals.{After-finish}

is_taken : (c : After-finish) → c.in_ok-body.body.items ≡ take c.args.size (drop c.args.at c.args.octets.now)
is_taken c = grind (arith, common_steps)

is_whole : (c : After-finish) → length c.in_ok-body.body.items ≡ c.args.size
is_whole c = grind (arith, common_steps)

pub returns-in_err-judge_size-clause-err : goal.returns-in_err-judge_size-clause-err
returns-in_err-judge_size-clause-err c =
    let p = err_from_is_err_and c.from_residual.result c.from_residual.ensures.1 in
    rw (p.1, p.2) (refuse c.args.self.now (head_of c.args.flags c.args.size) _ (drop c.args.at c.args.octets.now) _
    c.requires.front
    (append_assoc (front_octets c.args.self.now.frames.items) (head_of c.args.flags c.args.size)
    (drop c.args.at c.args.octets.now)) c.in_err-judge_size.ensures.err)

pub returns-in_err-traffic-clause-err : goal.returns-in_err-traffic-clause-err
returns-in_err-traffic-clause-err c =
    let p = err_from_is_err_and c.from_residual-in_err-traffic.result c.from_residual-in_err-traffic.ensures.1 in
    let at = (goal.at.returns-in_err-traffic-clause-err c).After-finish in
    rw (p.1, p.2) (refuse_more c.args.self.now.limits _ _ (drop c.args.size (drop c.args.at c.args.octets.now)) _
    (opened_all (front_octets c.args.self.now.frames.items) (head_of c.args.flags) c.args.size c.in_ok-body.body.items
    (drop c.args.at c.args.octets.now) (is_taken at) (is_whole at))
    c.in_err-traffic.ensures.err)

pub returns-clause-ok : goal.returns-clause-ok
returns-clause-ok c =
    let at = (goal.at.returns-clause-ok c).After-finish in
    let taken : c.args.at + c.args.size - c.args.at ≡ c.args.size = omega arith in
    subst (λ (n : ℕ). Keeps c.args.self.now.limits (front_octets c.args.self.now.frames.items
    ++ head_of c.args.flags c.args.size ++ take n (drop c.args.at c.args.octets.now)) c.finish.new.self
    c.in_ok-traffic.traffic) (sym taken)
    (subst (λ (o : List ℕ). Keeps c.args.self.now.limits o c.finish.new.self c.in_ok-traffic.traffic)
    (opened (front_octets c.args.self.now.frames.items) (head_of c.args.flags) c.args.size c.in_ok-body.body.items
    (drop c.args.at c.args.octets.now) (is_taken at) (is_whole at))
    c.in_ok-traffic.ensures.ok)
