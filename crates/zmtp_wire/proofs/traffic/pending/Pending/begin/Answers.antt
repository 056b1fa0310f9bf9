use Rattle.std.proofs.Common.{refl, arith, drop, take, ◌≡◌, ◌+◌, ◌-◌, length, ap, ◌∷◌, ◌++◌, [], get_or}
use Rattle.std.proofs.lemmas.Result.{err_from_is_err_and}
use Rattle.std.proofs.lemmas.Grind.{common_steps}
use Rattle.std.proofs.Math.Seq.{drop-cons}
use Rattle.zmtp_wire.specs.Frame.{front_octets}
use Rattle.zmtp_wire.specs.Pending.{size_len, head_of}
use Rattle.zmtp_wire.proofs.PendingLemmas.{refuse, begun_head, begun_ok, begun_err}
use Rattle.zmtp_wire.proofs.traffic.pending.Pending.begin.Goals as goal
use Rattle.zmtp_wire.proofs.traffic.pending.Pending.begin.Goals.{After-open, then-flags, else-flags}

head : (c : After-open) → head_of c.in_ok-flags.flags c.in-Some.size ≡ take c.if-flags.at c.args.octets.now
head c =
    let ends : c.if-flags.at ≡ 1 + size_len c.in_ok-flags.flags.long = elim c.if-flags.branch [
      | then-flags w ↦ rw (w.at-is, w.if-flags.true) refl
      | else-flags w ↦ rw (w.at-is, w.if-flags.false) refl
    ] in
    let behind : take (length c.args.octets.now - 1) (drop 1 c.args.octets.now) ≡ drop 1 c.args.octets.now =
    grind (arith, common_steps) in
    begun_head c.in_ok-flags.flags.more c.in_ok-flags.flags.long c.in_ok-flags.flags.command c.in-Some.size
    c.if-flags.at c.args.octets.now
    c.requires.some c.in_ok-flags.ensures.ok.0 (rw behind at c.in-Some.ensures.value) ends

pub returns-in_err-flags-clause-err : goal.returns-in_err-flags-clause-err
returns-in_err-flags-clause-err c =
    let p = err_from_is_err_and c.from_residual.result c.from_residual.ensures.1 in
    let first : c.args.octets.now ≡ (get_or c.args.octets.now 0 0 ∷ []) ++ drop 1 c.args.octets.now =
    drop-cons c.args.octets.now 0 0 c.requires.some in
    rw (p.1, p.2) (refuse c.args.self.now (get_or c.args.octets.now 0 0 ∷ []) _ (drop 1 c.args.octets.now) _
    c.requires.front
    (ap (λ o. front_octets c.args.self.now.frames.items ++ o) first) c.in_err-flags.ensures.err)

pub returns-clause-ok : goal.returns-clause-ok
returns-clause-ok c =
    begun_ok c.open.result c.args.self.now.limits c.open.new.self (front_octets c.args.self.now.frames.items)
    (head_of c.in_ok-flags.flags c.in-Some.size)
    c.args.octets.now c.if-flags.at (head (goal.at.returns-clause-ok c).After-open) c.open.ensures.within
    c.open.ensures.ok

pub returns-clause-err : goal.returns-clause-err
returns-clause-err c =
    begun_err c.open.result c.args.self.now.limits (front_octets c.args.self.now.frames.items)
    (head_of c.in_ok-flags.flags c.in-Some.size)
    c.args.octets.now c.if-flags.at (head (goal.at.returns-clause-err c).After-open) c.open.ensures.err
