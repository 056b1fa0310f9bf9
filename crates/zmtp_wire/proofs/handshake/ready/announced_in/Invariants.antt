use Rattle.std.proofs.Common.{length}
use Rattle.std.specs.Option.{option_copied}
use Rattle.zmtp_wire.proofs.PropertyLemmas.{HasRead}
use Rattle.zmtp_wire.proofs.handshake.ready.announced_in.Given as goal

abbrev pub invariant-list : goal.invariant-list
invariant-list l = HasRead l.sought l.rest l.left (option_copied l.found)

abbrev pub decreases-list : goal.decreases-list
decreases-list l = length l.left
