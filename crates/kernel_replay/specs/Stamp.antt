-- What doesn't change in a replay: its channel, its session, its ids and its one date.
use Rattle.std.specs.Prelude.{ℕ, List, ◌++◌, codes, decimal, bytes_eq}
use Rattle.kernel_engine.specs.declared.side.Side.TheVariants.{Shell}
use Rattle.kernel_engine.specs.Block.{Sealing}
use Rattle.kernel_session.specs.Session.{Setting}

-- the session of a replay
abbrev pub replay_session : List ℕ
replay_session = codes "replay"

-- the id of a replay's message by its number
abbrev pub replay_id : ℕ → List ℕ
replay_id number = codes "replay_s" ++ decimal number

-- the date of each message of a replay
abbrev pub replay_date : List ℕ
replay_date = codes "2000-01-01T00:00:00.000000Z"

-- what the messages of a replay are sealed with, under a key
abbrev pub replay_sealing : List ℕ → Sealing
replay_sealing key = record { key = key; session = replay_session; id = replay_id }

-- what doesn't change in a replay under a key
abbrev pub replay_setting : List ℕ → Setting
replay_setting key = record {
  side = Shell;
  sealing = replay_sealing key;
  is_date = λ text. bytes_eq text replay_date;
}
