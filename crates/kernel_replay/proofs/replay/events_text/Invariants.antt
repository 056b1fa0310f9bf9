use Rattle.std.proofs.Common.{◌≡◌, ◌++◌, drop}
use Rattle.std.specs.List.{flat_map}
use Rattle.kernel_replay.specs.Lines.{event_text}
use Rattle.kernel_replay.proofs.replay.events_text.Given as goal

abbrev pub invariant-loop-event : goal.invariant-loop-event
invariant-loop-event l =
    l.octets.items ++ flat_map event_text (drop l.event-index l.events) ≡ flat_map event_text l.events
