-- What a relay holds, and what is always true of that.
use Rattle.zmtp_wire.specs.Device.{Outflow}
use Rattle.iopub_relay.specs.declared.relay.Relay.TheInside as relay
use Rattle.iopub_relay.specs.Relay.{Relaying, ServesTaken}

module _ {Writer Waiting : Type 0} where
  -- what contracts see of a relay
  abbrev pub relaying : relay.Inside Writer Waiting → Relaying Writer
  relaying relay = record { taker = relay.taker; rows = relay.table; no_room = relay.no_room }

  -- what is always true of a relay, for writers that are seen as `outflow` has it
  abbrev pub RelayKeeps : (Writer → Outflow) → relay.Inside Writer Waiting → Type 0
  RelayKeeps outflow relay = ServesTaken outflow (relaying relay)
