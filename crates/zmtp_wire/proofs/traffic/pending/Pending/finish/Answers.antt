use Rattle.std.proofs.lemmas.Result.{err_from_is_err_and}
use Rattle.zmtp_wire.proofs.PendingLemmas.{command_refused, message_kept}
use Rattle.zmtp_wire.proofs.traffic.pending.Pending.finish.Goals as goal

pub returns-in_err-command_of-clause-err : goal.returns-in_err-command_of-clause-err
returns-in_err-command_of-clause-err c =
    let p = err_from_is_err_and c.from_residual.result c.from_residual.ensures.1 in
    rw (p.1, p.2) (command_refused c.args.self.now c.args.flags.more c.args.flags.long c.args.flags.command
    c.args.body.items _ c.requires.front c.requires.accepted c.if-flags.true
    c.in_err-command_of.ensures.err)

pub returns-clause-ok : goal.returns-clause-ok
returns-clause-ok c =
    message_kept c.args.self.now c.end_with.new.self c.args.flags.more c.args.flags.long c.args.flags.command
    c.args.body.items _ c.requires.front c.requires.accepted
    c.if-flags.false c.if-flags-2.false c.in_ok-end_with.ensures.message c.in_ok-end_with.ensures.empty
    c.in_ok-end_with.ensures.rest
