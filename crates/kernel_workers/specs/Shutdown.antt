-- The ordered end of a kernel ('Messaging in Jupyter' 5.3, "Kernel shutdown"): that of shell, and after it that of
-- control.
use Rattle.std.specs.Prelude.{◌≡◌, ◌⊎◌, ◌≤◌, ◌<◌, ◌+◌, ◌^◌, ℕ, List, length, Bool, false, Option, Some, None}
use Rattle.std.specs.Prelude.{Result, Ok, Err, MatchResult, IsTrue, ◌↔◌, vec_capacity}
use Rattle.std.specs.Global.{Vec}
use Rattle.std.specs.List.{AllByRecursion}
use Rattle.interp_core.specs.Interpreter.{Meaning}
use Rattle.iopub_event.specs.declared.event.Event.{Event}
use Rattle.iopub_queue.specs.Entries.{CloseIsLast, Entry, EndsWithClose, IsComplete, StandsBehind, StartsWith, part_of}
use Rattle.iopub_queue.specs.Laws.{IsTakenBehind}
use Rattle.iopub_queue.specs.Sink.{publisher_sink}
use Rattle.iopub_queue.specs.Values.{Publishing, Taking}
use Rattle.iopub_relay.specs.Relay.{AreOfNumbers, HasNumber, Meets, Relaying, TakesMore}
use Rattle.jmsg_envelope.specs.Stamp.{Stamping}
use Rattle.jmsg_envelope.specs.declared.envelope.Envelope.{Envelope}
use Rattle.kernel_engine.specs.declared.fault.EngineFault.{EngineFault}
use Rattle.kernel_engine.specs.declared.fault.EngineFault.TheVariants.{OwedIdle, Memory, Worn}
use Rattle.kernel_engine.specs.declared.handled.Handled.{Handled}
use Rattle.kernel_engine.specs.declared.parts.Parts.{Parts}
use Rattle.kernel_engine.specs.declared.response.Response.{Response}
use Rattle.kernel_engine.specs.Growth.{item_of, sealing_of}
use Rattle.kernel_engine.specs.Handles.{HandlesCut, HandlesNot, HandsBack}
use Rattle.kernel_engine.specs.Last.{HandlesLast, HandlesLastErr}
use Rattle.kernel_engine.specs.Orders.{handled_of, is_restart}
use Rattle.kernel_engine.specs.WellBlocked.{idle_of}
use Rattle.kernel_engine.specs.World.{world_of}
use Rattle.kernel_workers.specs.declared.draining.Drained.{Drained}
use Rattle.kernel_workers.specs.declared.draining.Drained.TheVariants.{Back, Served}
use Rattle.kernel_workers.specs.declared.shutdown.ShutdownEnd.{ShutdownEnd}
use Rattle.kernel_workers.specs.Ending.{EndsBlocked, IsBlockedBy, closed_list}

-- an engine's publisher is its sink itself
abbrev pub itself : {T : Type 0} → Publishing T → Publishing T
itself publisher = publisher

-- what came of a request: its reply, whether the kernel is to begin anew, and why it was refused
abbrev pub IsSaid : Result Handled EngineFault → Option (List (List ℕ)) → Bool → Option EngineFault → Type 0
IsSaid (Ok handled) reply restart fault =
    (reply ≡ handled.reply) × (restart ≡ handled.restart) × (fault ≡ None)
IsSaid (Err refused) reply restart fault = (reply ≡ None) × (restart ≡ false) × (fault ≡ Some refused)

module _ {W : Type 0} where
  -- the tokens of all publishers of a queue but two
  pub record IsRest (taker : Taking (Event W)) (shell control : ℕ) (tokens : List (Publishing (Event W))) : Type 0 where
    pub queue : AllByRecursion (λ closed. closed.queue ≡ taker.queue) tokens
    pub each : (number : ℕ) → number < taker.count → ((number ≡ shell) ⊎ (number ≡ control)) ⊎ HasNumber number tokens

module _ {W R : Type 0} where
  -- What becomes of a relay in a thread of its own. It did nothing and came back, or it served what was published.
  abbrev pub DrainsFrom : Relaying W → Drained W R → Type 0
  DrainsFrom relay (Back same) = same ≡ relay
  DrainsFrom relay (Served new) = TakesMore relay.taker new.taker

  -- a relay that did nothing came back
  abbrev pub IsBack : Drained W R → Relaying W → Type 0
  IsBack (Back same) relay = same ≡ relay
  IsBack (Served new) relay = ⊥

  -- A relay took what was left, and settled with shell, with control and with the others.
  pub record Concludes (old : Taking (Event W)) (shell control : Publishing (Event W))
      (tokens : List (Publishing (Event W))) (done : Result Handled EngineFault) (end : ShutdownEnd W R) : Type 0 where
    pub queue : end.relay.taker.queue ≡ old.queue
    pub count : end.relay.taker.count ≡ old.count
    pub grows : StartsWith end.relay.taker.taken old.taken
    pub complete : IsTrue end.complete ↔ IsComplete end.relay.taker.count end.relay.taker.taken
    pub closed : AllByRecursion (λ closed. EndsWithClose closed.published) tokens → IsTrue end.complete
    pub last : (number : ℕ) → CloseIsLast (part_of number end.relay.taker.taken)
    pub numbers : AreOfNumbers end.relay.taker.count end.relay.taker.taken
    pub meets_shell : Meets end.relay.taker shell
    pub meets_control : Meets end.relay.taker control
    pub meets : AllByRecursion (Meets end.relay.taker) tokens
    pub said : IsSaid done end.reply end.restart end.fault

-- an engine over a publisher of the queue
abbrev pub Engine : Type 0 → Type 0 → Type 0 → Type 0
Engine I S W = Parts I (Publishing (Event W)) S W

module _ {I S W : Type 0} where
  -- the engines of shell and control publish to the queue that a relay takes from
  abbrev pub IsOneQueue : Engine I S W → Engine I S W → Relaying W → Type 0
  IsOneQueue shell control relay =
      (shell.publishing.sink.queue ≡ relay.taker.queue) × (control.publishing.sink.queue ≡ relay.taker.queue)

  -- What gives tokens gives those of all publishers but shell's and control's. It has room for these two.
  abbrev pub GivesRest : Engine I S W → Engine I S W → Relaying W → (Vec (Publishing (Event W)) → Type 0) → Type 0
  GivesRest shell control relay Gives = (tokens : Vec (Publishing (Event W))) → Gives tokens
      → IsRest relay.taker shell.publishing.sink.number control.publishing.sink.number tokens.items
      × (length tokens.items + 2 ≤ vec_capacity tokens)

module _ {I S W Cell : Type 0} (m : Meaning I Cell) (stamps : Stamping S) where
  -- what came of a request that control handled after all that a word tells; its cell, if any, is never interrupted
  abbrev pub DoesLast : List (Entry (Event W)) → Envelope → Engine I S W → Result Handled EngineFault → Engine I S W
      → Type 0
  DoesLast word request old done new = MatchResult done
      (λ handled. (response : Response) × (handled ≡ handled_of response)
      × HandlesLast (world_of m publisher_sink stamps) itself ⊥ request word old response new)
      (λ fault. HandlesLastErr (world_of m publisher_sink stamps) itself ⊥ request word old fault new)

  -- Shell closed. Then control handled a request after all that shell's closing token tells, and closed.
  pub record ClosesInOrder (shell control : Engine I S W) (request : Envelope) (shell_closed control_closed :
      Publishing (Event W)) (done : Result Handled EngineFault) : Type 0 where
    pub shell_ends : EndsBlocked m stamps shell shell_closed
    pub shell_list : shell_closed.published ≡ closed_list shell
    pub shell_own : part_of shell_closed.number shell_closed.told ≡ shell_closed.published
    pub control_ends : EndsBlocked m stamps control control_closed
    pub control_own : part_of control_closed.number control_closed.told ≡ control_closed.published
    pub after : Engine I S W
    pub control_list : control_closed.published ≡ closed_list after
    pub does : DoesLast shell_closed.told request control done after
    pub behind : after.owed ≡ None
        → StandsBehind control_closed.told (control.publishing.sink.number, None) after.publishing.sink.told

  -- The part of an engine's channel in what was taken is all that the engine published, with its close, and is well
  -- blocked.
  abbrev pub IsBlockedIn : Engine I S W → List (Entry (Event W)) → Type 0
  IsBlockedIn engine taken = IsBlockedBy m stamps engine (part_of engine.publishing.sink.number taken)

  -- The request was handled, and control's engine is then `after`. The request has this reply. If all was taken, its
  -- idle was taken after all that the word tells.
  pub record RepliesInOrder {R : Type 0} (control : Engine I S W) (request : Envelope) (word : List (Entry (Event W)))
      (after : Engine I S W) (end : ShutdownEnd W R) : Type 0 where
    pub response : Response
    pub handles : HandlesLast (world_of m publisher_sink stamps) itself ⊥ request word control response after
    pub reply : end.reply ≡ response.reply
    pub restart : end.restart ≡ is_restart response.order
    pub fault : end.fault ≡ None
    pub behind : IsTrue end.complete → IsTakenBehind end.relay.taker.taken (
      control.publishing.sink.number,
      item_of (idle_of (sealing_of stamps control.publishing) handles.handles.block),
    ) word

  -- The block of the request was cut. If all was taken, its idle was taken after all that the word tells.
  pub record CutInOrder {R : Type 0} (control : Engine I S W) (request : Envelope) (word : List (Entry (Event W)))
      (after : Engine I S W) (end : ShutdownEnd W R) : Type 0 where
    pub cut : HandlesCut (world_of m publisher_sink stamps) ⊥ request control after
    pub behind : IsTrue end.complete → IsTakenBehind end.relay.taker.taken (
      control.publishing.sink.number,
      item_of (idle_of (sealing_of stamps control.publishing) cut.block),
    ) word

  -- what each fault says of the request that was refused
  abbrev pub RefusesBy : {R : Type 0} → Engine I S W → Envelope → List (Entry (Event W)) → Engine I S W
      → ShutdownEnd W R → EngineFault → Type 0
  RefusesBy control request word after end (OwedIdle back) =
      HandsBack (world_of m publisher_sink stamps) request back control after
  RefusesBy control request word after end Memory =
      HandlesNot (world_of m publisher_sink stamps) control after ⊎ CutInOrder control request word after end
  RefusesBy control request word after end Worn = (2 ^ 62 < control.publishing.next) × (after ≡ control)

  -- The request was refused, and control's engine is then `after`. There is no reply, and the fault tells why.
  pub record RefusesInOrder {R : Type 0} (control : Engine I S W) (request : Envelope) (word : List (Entry (Event W)))
      (after : Engine I S W) (end : ShutdownEnd W R) : Type 0 where
    pub why : EngineFault
    pub refuses : RefusesBy control request word after end why
    pub reply : end.reply ≡ None
    pub restart : end.restart ≡ false
    pub fault : end.fault ≡ Some why

  -- How a kernel ends that is shut down in order. Its relay may have taken more since, and its tokens are such as
  -- `Gives` allows. Shell publishes what it has, and its close. After that control publishes what the request brings,
  -- and its close. What was taken of each publisher is a beginning of what it published. If all is complete it is all
  -- of it, and shell's and control's parts are well blocked. The word tells all that shell published, with its close,
  -- and the idle of the request comes after that.
  pub record EndsInOrder {R : Type 0} (shell control : Engine I S W) (request : Envelope) (relay : Relaying W)
      (Gives : Vec (Publishing (Event W)) → Type 0) (end : ShutdownEnd W R) : Type 0 where
    pub tokens : Vec (Publishing (Event W))
    pub given : Gives tokens
    pub queue : end.relay.taker.queue ≡ relay.taker.queue
    pub count : end.relay.taker.count ≡ relay.taker.count
    pub grows : StartsWith end.relay.taker.taken relay.taker.taken
    pub complete : IsTrue end.complete ↔ IsComplete end.relay.taker.count end.relay.taker.taken
    pub closed : AllByRecursion (λ closed. EndsWithClose closed.published) tokens.items → IsTrue end.complete
    pub last : (number : ℕ) → CloseIsLast (part_of number end.relay.taker.taken)
    pub numbers : AreOfNumbers end.relay.taker.count end.relay.taker.taken
    pub word : List (Entry (Event W))
    pub word_is : part_of shell.publishing.sink.number word ≡ closed_list shell
    pub shell_begins : StartsWith (closed_list shell) (part_of shell.publishing.sink.number end.relay.taker.taken)
    pub shell_is : IsTrue end.complete
        → part_of shell.publishing.sink.number end.relay.taker.taken ≡ closed_list shell
    pub shell_blocked : IsTrue end.complete → IsBlockedIn shell end.relay.taker.taken
    pub after : Engine I S W
    pub request_ends : RepliesInOrder control request word after end ⊎ RefusesInOrder control request word after end
    pub control_begins : StartsWith (closed_list after) (part_of control.publishing.sink.number end.relay.taker.taken)
    pub control_is : IsTrue end.complete
        → part_of control.publishing.sink.number end.relay.taker.taken ≡ closed_list after
    pub control_blocked : IsTrue end.complete → IsBlockedIn control end.relay.taker.taken
    pub others_begin : AllByRecursion (λ closed. StartsWith closed.published (part_of closed.number
        end.relay.taker.taken)) tokens.items
    pub others : IsTrue end.complete
        → AllByRecursion (λ closed. part_of closed.number end.relay.taker.taken ≡ closed.published) tokens.items
