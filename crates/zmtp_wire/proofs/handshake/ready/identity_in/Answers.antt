use Rattle.std.proofs.Common.{◌≡◌, [], arith, subst}
use Rattle.std.specs.Prelude.{codes}
use Rattle.std.proofs.lemmas.Grind.{common_steps}
use Rattle.zmtp_wire.specs.Ready.{AnnouncesIn}
use Rattle.zmtp_wire.proofs.ReadyLemmas.{empty_gives_none, none_gives_none}
use Rattle.zmtp_wire.proofs.handshake.ready.identity_in.Goals.{in_default-via-in-Some+else-not-is_empty}
use Rattle.zmtp_wire.proofs.handshake.ready.identity_in.Goals.{in_default-via-in_default}
use Rattle.zmtp_wire.proofs.handshake.ready.identity_in.Goals as goal

pub returns-in_default-clause-none : goal.returns-in_default-clause-none
returns-in_default-clause-none c = elim c.in_default.branch [
  | in_default-via-in-Some+else-not-is_empty w ↦
      let empty : w.in-Some.identity.now ≡ [] = let e = w.if-not-is_empty.ensures in grind (arith, common_steps) in
      empty_gives_none c.args.name.now c.args.rest.now
      (subst (AnnouncesIn (codes "Identity") c.args.rest.now) empty w.in-Some.ensures.found)
  | in_default-via-in_default w ↦ none_gives_none c.args.name.now c.args.rest.now w.in_default.ensures.none
]
