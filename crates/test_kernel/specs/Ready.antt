-- A queue of three as a test opens it, and uses it.
use Rattle.std.specs.Prelude.{◌≡◌, List, [], ◌∷◌}
use Rattle.iopub_queue.specs.Values.{Publishing, Taking}

-- three publishers and the taker are of one queue: 0, 1 and 2
pub record AreOfOne {T : Type 0} (shell control door : Publishing T) (taker : Taking T) : Type 0 where
  pub shell_queue : shell.queue ≡ taker.queue
  pub control_queue : control.queue ≡ taker.queue
  pub door_queue : door.queue ≡ taker.queue
  pub shell_is : shell.number ≡ 0
  pub control_is : control.number ≡ 1
  pub door_is : door.number ≡ 2
  pub count : taker.count ≡ 3

-- the tokens are the one that a publisher left
pub record IsLast {T : Type 0} (publisher : Publishing T) (tokens : List (Publishing T)) : Type 0 where
  pub closed : Publishing T
  pub alone : tokens ≡ closed ∷ []
  pub queue : closed.queue ≡ publisher.queue
  pub number : closed.number ≡ publisher.number
