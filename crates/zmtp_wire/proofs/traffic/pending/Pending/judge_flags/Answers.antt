use Rattle.std.proofs.Common.{rules, refl, arith, inl, inr}
use Rattle.std.proofs.lemmas.Grind.{common_steps}
use Rattle.zmtp_wire.specs.Grammar.{reserved}
use Rattle.zmtp_wire.proofs.PendingLemmas.{bad_command}
use Rattle.zmtp_wire.proofs.traffic.pending.Pending.judge_flags.Goals as goal
use Rattle.zmtp_wire.proofs.traffic.pending.Pending.judge_flags.Goals.{then-flags-2, else-flags-2}

pub returns-in_default-clause-err : goal.returns-in_default-clause-err
returns-in_default-clause-err c = λ after. (
  c.args.octet,
  after,
  refl,
  reserved c.args.octet c.in_default.ensures.reserved,
)

pub returns-then-not-is_empty-clause-err : goal.returns-then-not-is_empty-clause-err
returns-then-not-is_empty-clause-err c =
    let bad = bad_command c.args.self.now.frames.items c.args.octet c.in-Some.flags.more c.in-Some.flags.long
    c.in-Some.flags.command c.in-Some.ensures.known c.if-flags.true in
    λ after. (
      c.args.octet,
      after,
      refl,
      elim c.if-flags-2.branch [
        | then-flags-2 w ↦ bad (inl (search rules))
        | else-flags-2 w ↦ bad (inr (λ none. grind (arith, common_steps)))
      ],
    )
