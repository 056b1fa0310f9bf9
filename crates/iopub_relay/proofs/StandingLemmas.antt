-- The ways in which a subscriber stands differ.
use Rattle.std.proofs.Common.{◌≡◌, subst}
use Rattle.std.specs.Bool.{⊤}
use Rattle.iopub_relay.specs.declared.subscriber.Standing.{Standing}
use Rattle.iopub_relay.specs.declared.subscriber.Standing.TheVariants.{Served, Broken, Starved}

abbrev IsServed : Standing → Type 0
IsServed Served = ⊤
IsServed Broken = ⊥
IsServed Starved = ⊥

-- who is served hasn't failed
pub served_not_broken : Served ≡ Broken → ⊥
served_not_broken same = subst IsServed same tt

-- who is served isn't starved
pub served_not_starved : Served ≡ Starved → ⊥
served_not_starved same = subst IsServed same tt

abbrev IsBroken : Standing → Type 0
IsBroken Served = ⊥
IsBroken Broken = ⊤
IsBroken Starved = ⊥

-- who has failed isn't served
pub broken_not_served : Broken ≡ Served → ⊥
broken_not_served same = subst IsBroken same tt

-- who has failed isn't starved
pub broken_not_starved : Broken ≡ Starved → ⊥
broken_not_starved same = subst IsBroken same tt
