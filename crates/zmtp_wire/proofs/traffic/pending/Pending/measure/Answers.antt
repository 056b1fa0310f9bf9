use Rattle.std.proofs.Common.{rules, ◌∷◌}
use Rattle.zmtp_wire.specs.Frame.{front_octets, flags_octet}
use Rattle.zmtp_wire.specs.Pending.{head_of}
use Rattle.zmtp_wire.proofs.PendingLemmas.{measured_head, measured_ok, measured_err}
use Rattle.zmtp_wire.proofs.traffic.pending.Pending.measure.Goals as goal

pub returns-clause-ok : goal.returns-clause-ok
returns-clause-ok c =
    measured_ok c.open-2.result c.args.self.now.limits c.open-2.new.self (front_octets c.args.self.now.frames.items)
    (flags_octet c.args.flags.more c.args.flags.long c.args.flags.command ∷ c.args.size)
    (head_of c.args.flags c.in-Some.number)
    c.args.octets.now c.extend-taken.result (measured_head c.args.flags.more c.args.flags.long c.args.flags.command
    c.in-Some.number _ (search rules) (search rules)) c.open-2.ensures.within c.open-2.ensures.ok

pub returns-clause-err : goal.returns-clause-err
returns-clause-err c =
    measured_err c.open-2.result c.args.self.now.limits (front_octets c.args.self.now.frames.items)
    (flags_octet c.args.flags.more c.args.flags.long c.args.flags.command ∷ c.args.size)
    (head_of c.args.flags c.in-Some.number)
    c.args.octets.now c.extend-taken.result (measured_head c.args.flags.more c.args.flags.long c.args.flags.command
    c.in-Some.number _ (search rules) (search rules)) c.open-2.ensures.err
