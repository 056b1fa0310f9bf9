-- What the socket of a subscriber accepted of its feed.
use Rattle.std.specs.Prelude.{◌≡◌, ℕ, Bool, false, [], ◌++◌}
use Rattle.iopub_relay.specs.Life.{Life}
use Rattle.iopub_relay.specs.Feed.{feed}
use Rattle.iopub_relay.specs.Relay.{GetsMarked}
use Rattle.kernel_outlet.specs.Pipe.{Piping, AddsUp, IsBeginning, piping_outflow}

-- What a subscriber's socket accepted is a beginning of what had been put for it when it came, and
-- then its feed. If the subscriber hasn't failed, and neither has its pipe, and nothing is kept,
-- that is all of this.
pub record SocketIsFed (id : ℕ) (life : Life Piping) (pipe : Piping) (failed : Bool) : Type 0 where
  pub beginning : IsBeginning pipe.accepted (life.writer.put ++ feed id life.events)
  pub whole : failed ≡ false → pipe.has_failed ≡ false → pipe.kept ≡ []
      → pipe.accepted ≡ life.writer.put ++ feed id life.events

-- whose writer got what a relay promises, its socket accepted a beginning of its feed
abbrev pub GetsSoSocketIsFed : Type 0
GetsSoSocketIsFed =
    (id : ℕ) (life : Life Piping) (pipe : Piping) (failed : Bool)
    → AddsUp pipe.put pipe.accepted pipe.kept pipe.has_failed
    → GetsMarked failed (piping_outflow life.writer) (piping_outflow pipe) id life.events → SocketIsFed id life pipe failed
