use Rattle.std.proofs.Common.{◌≡◌, ◌+◌, drop, arith, rules, ◌∙◌}
use Rattle.std.proofs.lemmas.Grind.{common_steps}
use Rattle.zmtp_wire.proofs.CommandLemmas.{command_parts}
use Rattle.zmtp_wire.proofs.traffic.command.command_of.Goals as goal

pub returns-clause-ok : goal.returns-clause-ok
returns-clause-ok c =
    let left : c.new-rest.result ≡ drop (c.from-size.result + 1) c.args.body.items = search rules in
    let parts = command_parts c.args.body.items c.new-name.result c.new-rest.result c.from-size.result
    (grind (arith, common_steps)) (rw c.as_slice.ensures.value at c.from-size.ensures)
    (rw c.as_slice.ensures.value at c.if-named-size.false)
    (c.new-name.ensures ∙ rw c.as_slice.ensures.value at c.in_ok-from_slice.ensures.items) left in
    (omega (arith, parts.0), grind (arith, common_steps, parts.0), parts.1)
