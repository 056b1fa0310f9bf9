use Rattle.std.proofs.Common.{◌≡◌, rules}
use Rattle.std.specs.Prelude.{codes}
use Rattle.zmtp_wire.proofs.ReadyLemmas.{judged_type}
use Rattle.zmtp_wire.proofs.handshake.ready.read_command.Goals as goal

pub returns-in-Some : goal.returns-in-Some
returns-in-Some c =
    let is_ready : c.args.name.now ≡ codes "READY" = search rules in
    judged_type c.args.name.now c.args.rest.now c.in-Some.value.now c.args.ours c.accepted.result is_ready
    c.in-Some.ensures.found c.accepted.ensures.ok c.accepted.ensures.err
