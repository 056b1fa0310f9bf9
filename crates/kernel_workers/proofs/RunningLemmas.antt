-- How a kernel ends, of what its workers promised.
use Rattle.std.proofs.Common.{◌≡◌, ◌⊎◌, ◌↔◌, inl, inr, ℕ, zero, suc, ◌+◌, ◌<◌, ◌≤◌, List, [], ◌∷◌, length, IsTrue}
use Rattle.std.proofs.Common.{Bool, true, Option, Some, None, append-nil, ◌++◌, sym, subst, ap, refl, ◌∙◌, arith, All}
use Rattle.std.proofs.Common.{Result, Ok, Err, vec_capacity}
use Rattle.std.specs.Global.{Vec}
use Rattle.std.specs.Result.{IfOk}
use Rattle.std.specs.List.{AllByRecursion}
use Rattle.interp_core.specs.Interpreter.{Meaning}
use Rattle.zmtp_wire.specs.Device.{Outflow}
use Rattle.iopub_event.specs.declared.event.Event.{Event}
use Rattle.iopub_queue.specs.Entries.{part_of, CloseIsLast, EndsWithClose, IsComplete}
use Rattle.iopub_queue.specs.Values.{Publishing, Taking}
use Rattle.iopub_queue.specs.Calls.{IsCapacity, Settles}
use Rattle.iopub_queue.specs.declared.fault.OpenFault.TheVariants.{Count, Capacity, OutOfMemory}
use Rattle.iopub_queue.specs.declared.taken.Settled.{Settled}
use Rattle.iopub_queue.specs.declared.taken.Settled.TheVariants.{Whole, Beginning}
use Rattle.iopub_relay.specs.Relay.{RelayIsLeft, Relaying, Meets, AreWhole, HasNumber, AreOfNumbers, AreAllClosed}
use Rattle.jmsg_envelope.specs.Stamp.{Stamping}
use Rattle.atomic_table.specs.Seated.{TableId}
use Rattle.kernel_engine.specs.declared.side.Side.{Side}
use Rattle.kernel_engine.specs.declared.side.Side.TheVariants.{Shell, Control}
use Rattle.kernel_engine.specs.declared.parts.Parts.{Parts as Engine}
use Rattle.kernel_workers.specs.declared.fault.KernelFault.{KernelFault}
use Rattle.kernel_workers.specs.declared.fault.KernelFault.TheVariants.{Queue, NoThread}
use Rattle.kernel_workers.specs.declared.parts.Parts.{Parts}
use Rattle.kernel_workers.specs.declared.ended.Asking.{Asking}
use Rattle.kernel_workers.specs.declared.ended.Cause.{Cause}
use Rattle.kernel_workers.specs.declared.ended.Ended.{Ended}
use Rattle.kernel_jobs.specs.declared.job.Job.{Job}
use Rattle.kernel_workers.specs.declared.kernel_end.KernelEnd.{KernelEnd}
use Rattle.kernel_workers.specs.declared.kernel_end.KernelWork.{KernelWork}
use Rattle.kernel_workers.specs.declared.kernel_end.WorkDone.{WorkDone}
use Rattle.kernel_workers.specs.declared.shutdown.ShutdownEnd.{ShutdownEnd}
use Rattle.kernel_workers.specs.Ending.{EndsBlocked, EndsSilent, IsBlockedBy, IsNoMessage, PassesOn, Subscribing}
use Rattle.kernel_workers.specs.Ending.{closed_list}
use Rattle.kernel_workers.specs.declared.ended.Cause.TheVariants.{Told, Shutdown, Asked, Worn}
use Rattle.kernel_workers.specs.Causes.{restart_of, shutdown_word}
use Rattle.kernel_workers.specs.Jobs.{AreAnswered, answered_in, messages_of_jobs}
use Rattle.kernel_workers.specs.Running.{BothDid, Did}
use Rattle.kernel_workers.specs.Running.{AnswersLast, EndsAtOnce, KernelEndsBy, EndsFor, EndsOver, EndsWell}
use Rattle.kernel_workers.specs.Running.{IsFaultAtEnd}
use Rattle.kernel_workers.specs.Running.{FailsBy, IsLastToken, Leaving, ShutsDown, TellsOf, TookAll, TookEach, both_did}
use Rattle.kernel_workers.specs.Running.{did_by, did_of, leaving_by, restart_by, taken_of}
use Rattle.kernel_workers.specs.Shutdown.{EndsInOrder, IsRest}
use Rattle.kernel_workers.specs.Starting.{AreOfOne, IsOpened, IsSetUp, Setup, beginning, publisher_at_first}
use Rattle.kernel_workers.specs.Staying.{IsSameEngine}
use Rattle.kernel_workers.specs.Works.{WorksOff}
use Rattle.kernel_workers.proofs.EndingLemmas.{blocked_same}
use Rattle.kernel_workers.proofs.WorksLemmas.{all_answered, answered_append, held_by, shell_answered}

-- each number below three is one of three
one_of : (first second third number : ℕ) → first ≡ 0 → second ≡ 1 → third ≡ 2 → number < 3
    → ((number ≡ first) ⊎ (number ≡ second)) ⊎ (third ≡ number)
one_of first second third zero first_is second_is third_is below = inl (inl (sym first_is))
one_of first second third (suc zero) first_is second_is third_is below = inl (inr (sym second_is))
one_of first second third (suc (suc zero)) first_is second_is third_is below = inr third_is
one_of first second third (suc (suc (suc number))) first_is second_is third_is below = absurd (omega (arith, below))

module _ {T : Type 0} where
  by_answer : (taker : Taking T) (closed : Publishing T) (answer : Settled) → Settles taker closed answer
      → EndsWithClose (part_of closed.number taker.taken) → part_of closed.number taker.taken ≡ closed.published
  by_answer taker closed Whole settles ends = settles.decided.1
  by_answer taker closed Beginning settles ends = absurd (settles.decided ends)

  -- of a publisher whose close was taken just what it published was
  pub met_whole : (taker : Taking T) (closed : Publishing T) (number : ℕ) → closed.number ≡ number → Meets taker closed
      → EndsWithClose (part_of closed.number taker.taken) → part_of number taker.taken ≡ closed.published
  met_whole taker closed number is meets ends =
      subst (λ (n : ℕ). part_of n taker.taken ≡ closed.published) is (by_answer taker closed meets.0 meets.1 ends)

  -- the tokens of three publishers
  abbrev pub three : Publishing T → Publishing T → Publishing T → List (Publishing T)
  three first second third = first ∷ second ∷ third ∷ []

  has_one : (first second third : Publishing T) (number : ℕ)
      → ((number ≡ first.number) ⊎ (number ≡ second.number)) ⊎ (third.number ≡ number)
      → HasNumber number (three first second third)
  has_one first second third number (inl (inl is)) = inl (sym is)
  has_one first second third number (inl (inr is)) = inr (inl (sym is))
  has_one first second third number (inr is) = inr (inr (inl is))

  all_closed : (first second third : Publishing T) (taker : Taking T) → AreOfOne first second third taker
      → EndsWithClose first.published × EndsWithClose second.published × EndsWithClose third.published
      → AreAllClosed taker.count (three first second third)
  all_closed first second third taker one closed = record {
    closed = (closed.0, (closed.1, (closed.2, tt)));
    each = λ number below. has_one first second third number (one_of first.number second.number third.number number
        one.shell_is one.control_is one.subscriptions_are (subst (λ (n : ℕ). number < n) one.count below));
  }

  -- what was just opened is of one queue
  pub opened_one : (shell control subscriptions : Publishing T) (taker : Taking T)
      → IsOpened shell control subscriptions taker → AreOfOne shell control subscriptions taker
  opened_one shell control subscriptions taker opened = record {
    shell_queue = ap (λ (p : Publishing T). p.queue) opened.shell_is;
    control_queue = ap (λ (p : Publishing T). p.queue) opened.control_is;
    subscriptions_queue = ap (λ (p : Publishing T). p.queue) opened.subscriptions_are;
    shell_is = ap (λ (p : Publishing T). p.number) opened.shell_is;
    control_is = ap (λ (p : Publishing T). p.number) opened.control_is;
    subscriptions_are = ap (λ (p : Publishing T). p.number) opened.subscriptions_are;
    count = ap (λ (t : Taking T). t.count) opened.taker_is;
  }

  -- a publisher is the one that it was
  abbrev pub IsOn : Publishing T → Publishing T → Type 0
  IsOn old new = (new.queue ≡ old.queue) × (new.number ≡ old.number)

  -- what is the same as three publishers and the taker of one queue is of one queue
  pub one_on : (shell control subscriptions new_shell new_control new_subscriptions : Publishing T)
      (taker new_taker : Taking T) → AreOfOne shell control subscriptions taker
      → IsOn shell new_shell → IsOn control new_control → IsOn subscriptions new_subscriptions
      → (new_taker.queue ≡ taker.queue) × (new_taker.count ≡ taker.count)
      → AreOfOne new_shell new_control new_subscriptions new_taker
  one_on shell control subscriptions new_shell new_control new_subscriptions taker new_taker one by_shell by_control
      by_subscriptions by_taker = record {
        shell_queue = by_shell.0 ∙ one.shell_queue ∙ sym by_taker.0;
        control_queue = by_control.0 ∙ one.control_queue ∙ sym by_taker.0;
        subscriptions_queue = by_subscriptions.0 ∙ one.subscriptions_queue ∙ sym by_taker.0;
        shell_is = by_shell.1 ∙ one.shell_is;
        control_is = by_control.1 ∙ one.control_is;
        subscriptions_are = by_subscriptions.1 ∙ one.subscriptions_are;
        count = by_taker.1 ∙ one.count;
      }

module _ {W R : Type 0} (outflow : W → Outflow) where
  -- all was taken by a relay that is told of, if it is complete
  pub took_by : (relay : Relaying W) (complete restart : Bool) (ended : KernelEnd W R)
      → TellsOf outflow relay complete restart ended → relay.taker.count ≡ 3 → complete ≡ true
      → IsComplete relay.taker.count relay.taker.taken
      → ((number : ℕ) → CloseIsLast (part_of number relay.taker.taken))
      → AreOfNumbers relay.taker.count relay.taker.taken
      → TookAll outflow ended
  took_by relay complete restart ended tells three_of says whole last others = record {
    says = tells.complete_is ∙ says;
    count = ap (λ (r : Relaying W). r.taker.count) tells.relay_is ∙ three_of;
    complete = subst (λ (r : Relaying W). IsComplete 3 r.taker.taken) (sym tells.relay_is)
        (subst (λ (n : ℕ). IsComplete n relay.taker.taken) three_of whole);
    last = subst (λ (r : Relaying W). (number : ℕ) → CloseIsLast (part_of number r.taker.taken))
        (sym tells.relay_is) last;
    others = subst (λ (r : Relaying W). AreOfNumbers 3 r.taker.taken) (sym tells.relay_is)
        (subst (λ (n : ℕ). AreOfNumbers n relay.taker.taken) three_of others);
    left = subst (λ (r : Relaying W). RelayIsLeft outflow r.taker.taken ended.no_room ended.subscribers.items)
        (sym tells.relay_is) tells.left;
  }

  -- what was taken of a number
  part_is : (relay : Relaying W) (ended : KernelEnd W R) (number : ℕ) {list : List (Option (Event W))}
      → ended.relay.value ≡ relay → part_of number relay.taker.taken ≡ list → part_of number (taken_of ended) ≡ list
  part_is relay ended number is part = ap (λ (r : Relaying W). part_of number r.taker.taken) is ∙ part

  -- all was taken, where a relay concluded with three publishers that all closed
  took_all : (old : Taking (Event W)) (concluded : Relaying W) (shell control subscriptions : Publishing (Event W))
      (tokens : List (Publishing (Event W))) (complete restart : Bool) (ended : KernelEnd W R)
      → tokens ≡ three shell control subscriptions → AreOfOne shell control subscriptions old
      → EndsWithClose shell.published × EndsWithClose control.published × EndsWithClose subscriptions.published
      → (concluded.taker.queue ≡ old.queue) × (concluded.taker.count ≡ old.count)
      → AllByRecursion (Meets concluded.taker) tokens
      → (IsTrue complete ↔ IsComplete concluded.taker.count concluded.taker.taken)
      → (IsTrue complete → AreWhole concluded.taker tokens)
      → (AreAllClosed old.count tokens → IsTrue complete)
      → ((number : ℕ) → CloseIsLast (part_of number concluded.taker.taken))
      → AreOfNumbers concluded.taker.count concluded.taker.taken
      → TellsOf outflow concluded complete restart ended
      → TookEach outflow old.queue shell.published control.published subscriptions.published ended
  took_all old concluded shell control subscriptions tokens complete restart ended are one all same meets says whole
      closed last others tells =
      let says_so = closed (subst (λ (list : List (Publishing (Event W))). AreAllClosed old.count list) (sym are)
      (all_closed shell control subscriptions old one all)) in
      let met = subst (λ (list : List (Publishing (Event W))). AllByRecursion (Meets concluded.taker) list) are meets in
      let ends = subst (λ (list : List (Publishing (Event W))). AreWhole concluded.taker list) are (whole says_so) in
      record {
        took = took_by concluded complete restart ended tells (same.1 ∙ one.count) says_so (says.0 says_so) last
            others;
        queue_is = ap (λ (r : Relaying W). r.taker.queue) tells.relay_is ∙ same.0;
        shell_is = part_is concluded ended 0 tells.relay_is
            (met_whole concluded.taker shell 0 one.shell_is met.0 ends.0);
        control_is = part_is concluded ended 1 tells.relay_is
            (met_whole concluded.taker control 1 one.control_is met.1.0 ends.1.0);
        subscriptions_are = part_is concluded ended 2 tells.relay_is
            (met_whole concluded.taker subscriptions 2 one.subscriptions_are met.1.1.0 ends.1.1.0);
      }

  -- it was so if what is left can be told
  pub took_if : (old : Taking (Event W)) (concluded : Relaying W) (shell control subscriptions : Publishing (Event W))
      (tokens : List (Publishing (Event W))) (complete restart : Bool)
      (ended : Result (KernelEnd W R) KernelFault)
      → tokens ≡ three shell control subscriptions → AreOfOne shell control subscriptions old
      → EndsWithClose shell.published × EndsWithClose control.published × EndsWithClose subscriptions.published
      → (concluded.taker.queue ≡ old.queue) × (concluded.taker.count ≡ old.count)
      → AllByRecursion (Meets concluded.taker) tokens
      → (IsTrue complete ↔ IsComplete concluded.taker.count concluded.taker.taken)
      → (IsTrue complete → AreWhole concluded.taker tokens)
      → (AreAllClosed old.count tokens → IsTrue complete)
      → ((number : ℕ) → CloseIsLast (part_of number concluded.taker.taken))
      → AreOfNumbers concluded.taker.count concluded.taker.taken
      → IfOk ended (TellsOf outflow concluded complete restart)
      → IfOk ended (TookEach outflow old.queue shell.published control.published subscriptions.published)
  took_if old concluded shell control subscriptions tokens complete restart (Err fault) are one all same meets says
      whole closed last others tells = tt
  took_if old concluded shell control subscriptions tokens complete restart (Ok ended) are one all same meets says
      whole closed last others tells =
      took_all old concluded shell control subscriptions tokens complete restart ended are one all same meets says
      whole closed last others tells

-- a fault at the end is one of a kernel whose capacity is that of a queue
pub fails_late : (capacity : ℕ) (fault : KernelFault) → IsCapacity capacity → IsFaultAtEnd fault
    → FailsBy capacity fault
fails_late capacity (Queue Count) is never = never
fails_late capacity (Queue Capacity) is never = absurd never
fails_late capacity (Queue OutOfMemory) is late = is
fails_late capacity NoThread is late = is

module _ {W : Type 0} where
  -- the token of subscriptions is that of all others
  pub is_rest : (shell control : Publishing (Event W)) (given : Subscribing W) (taker : Taking (Event W))
      (tokens : Vec (Publishing (Event W))) (inbox : List (Option (Event W)))
      → AreOfOne shell control given.sink taker → IsLastToken given tokens inbox
      → IsRest taker shell.number control.number tokens.items × (length tokens.items + 2 ≤ vec_capacity tokens)
  is_rest shell control given taker tokens inbox one last = (
    subst (λ (list : List (Publishing (Event W))). IsRest taker shell.number control.number list) (sym last.alone)
        (record {
          queue = (last.ends.queue ∙ one.subscriptions_queue, tt);
          each = λ number below. has_last (one_of shell.number control.number last.closed.number number one.shell_is
              one.control_is (last.ends.number ∙ one.subscriptions_are)
              (subst (λ (n : ℕ). number < n) one.count below));
        }),
    subst (λ (list : List (Publishing (Event W))). length list + 2 ≤ vec_capacity tokens) (sym last.alone) last.room,
  ) where
    has_last : {A : Type 0} {number : ℕ} → A ⊎ (last.closed.number ≡ number)
        → A ⊎ HasNumber number (last.closed ∷ [])
    has_last (inl a) = inl a
    has_last (inr is) = inr (inl is)

-- what a kernel's end tells of its workers is what it was given
pub did_same : {W R : Type 0} (work : KernelWork) (ended : Result (KernelEnd W R) KernelFault)
    → IfOk ended (λ end. end.work ≡ work) → IfOk ended (λ end. both_did end.work ≡ both_did work)
did_same work (Err fault) same = tt
did_same work (Ok ended) same = ap both_did same

-- what workers left is as a kernel's end sees it
pub leaving_is : {I S W R Cell : Type 0} (shell control : Ended I S W R Cell)
    (of_shell of_control : Engine I (Publishing (Event W)) S W) (subscriptions : Subscribing W)
    (shell_did control_did : WorkDone) → of_shell ≡ shell.work.engine
    → of_control ≡ control.work.engine → did_of shell_did ≡ did_by shell.work → did_of control_did ≡ did_by control.work
    → leaving_by shell control subscriptions ≡ record {
      shell = of_shell;
      control = of_control;
      subscriptions = subscriptions;
      did = record { started = shell.started; shell = did_of shell_did; control = did_of control_did };
      of_shell = restart_of shell.cause;
    }
leaving_is shell control of_shell of_control subscriptions shell_did control_did by_shell by_control shell_is
    control_is =
    rw (by_shell) (rw (by_control) (rw (shell_is) (rw (control_is) refl)))

module _ {I S W Cell : Type 0} (m : Meaning I Cell) (stamps : Stamping S) where
  -- how a kernel ends that was shut down in order
  in_order : {R : Type 0} (outflow : W → Outflow) (asking : Asking) (left : Leaving I S W) (relay : Relaying W)
      (end : ShutdownEnd W R) (restart : Bool) (ended : KernelEnd W R)
      → AreOfOne left.shell.publishing.sink left.control.publishing.sink left.subscriptions.sink relay.taker
      → EndsInOrder m stamps left.shell left.control asking.request relay
      (λ tokens. IsLastToken left.subscriptions tokens ended.subscriptions_in.value) end
      → TellsOf outflow end.relay end.complete restart ended
      → EndsOver m stamps outflow left.shell left.control left.subscriptions.inbox ended
  in_order outflow asking left relay end restart ended one ends tells =
      let taken = end.relay.taker.taken in
      let last = ends.given in
      let says : IsTrue end.complete =
      ends.closed (subst (λ (list : List (Publishing (Event W))). AllByRecursion
      (λ closed. EndsWithClose closed.published) list) (sym last.alone) (last.ends.close_last, tt)) in
      let others : AllByRecursion (λ closed. part_of closed.number taken ≡ closed.published) (last.closed ∷ []) =
      subst (λ (list : List (Publishing (Event W))). AllByRecursion
      (λ closed. part_of closed.number taken ≡ closed.published) list) last.alone (ends.others says) in
      let silent : part_of 2 taken ≡ last.closed.published = subst (λ (n : ℕ). part_of n taken ≡ last.closed.published)
      (last.ends.number ∙ one.subscriptions_are) others.0 in
      record {
        took = took_by outflow end.relay end.complete restart ended tells (ends.count ∙ one.count) says
            (ends.complete.0 says) ends.last ends.numbers;
        queue = ap (λ (r : Relaying W). r.taker.queue) tells.relay_is ∙ ends.queue ∙ sym one.shell_queue;
        shell_is = part_is outflow end.relay ended 0 tells.relay_is
            (subst (λ (n : ℕ). part_of n taken ≡ closed_list left.shell) one.shell_is (ends.shell_is says));
        shell_blocked = subst (λ (r : Relaying W). IsBlockedBy m stamps left.shell (part_of 0 r.taker.taken))
            (sym tells.relay_is)
            (subst (λ (n : ℕ). IsBlockedBy m stamps left.shell (part_of n taken)) one.shell_is
            (ends.shell_blocked says));
        control_blocked = subst (λ (r : Relaying W). IsBlockedBy m stamps left.control (part_of 1 r.taker.taken))
            (sym tells.relay_is)
            (subst (λ (n : ℕ). IsBlockedBy m stamps left.control (part_of n taken)) one.control_is
            (ends.control_blocked says));
        subscriptions_passed = subst (λ (r : Relaying W). PassesOn left.subscriptions.inbox
            ended.subscriptions_in.value (part_of 2 r.taker.taken)) (sym tells.relay_is)
            (subst (λ (list : List (Option (Event W))). PassesOn left.subscriptions.inbox
            ended.subscriptions_in.value list) (sym silent) last.ends.passes);
        subscriptions_silent = subst (λ (r : Relaying W). All IsNoMessage (part_of 2 r.taker.taken))
            (sym tells.relay_is)
            (subst (λ (list : List (Option (Event W))). All IsNoMessage list) (sym silent) last.ends.silent);
      }

  -- it was shut down so if what is left can be told
  pub shuts_down : (R : Type 0) (outflow : W → Outflow) (asking : Asking) (left : Leaving I S W) (relay : Relaying W)
      (end : ShutdownEnd W R) (inbox : List (Option (Event W))) (ended : Result (KernelEnd W R) KernelFault)
      → EndsInOrder m stamps left.shell left.control asking.request relay
      (λ tokens. IsLastToken left.subscriptions tokens inbox) end
      → IfOk ended (λ kernel. kernel.subscriptions_in.value ≡ inbox)
      → IfOk ended
      (TellsOf outflow end.relay end.complete (restart_by (shutdown_word end.fault end.restart) left.of_shell))
      → IfOk ended (λ kernel. AnswersLast asking.to end.reply end.fault left.did (both_did kernel.work))
      → IfOk ended (ShutsDown R m stamps outflow asking relay left)
  shuts_down R outflow asking left relay end inbox (Err fault) ends same tells answers = tt
  shuts_down R outflow asking left relay end inbox (Ok ended) ends same tells answers = record {
    end = end;
    ends = subst (λ (seen : List (Option (Event W))). EndsInOrder m stamps left.shell left.control asking.request
        relay (λ tokens. IsLastToken left.subscriptions tokens seen) end) (sym same) ends;
    answers = answers;
    tells = tells;
  }

  -- a kernel that was shut down ends well
  pub ends_shut_down : (R : Type 0) (outflow : W → Outflow) (asking : Asking) (left : Leaving I S W)
      (relay : Relaying W) (ended : Result (KernelEnd W R) KernelFault)
      → AreOfOne left.shell.publishing.sink left.control.publishing.sink left.subscriptions.sink relay.taker
      → IfOk ended (ShutsDown R m stamps outflow asking relay left)
      → IfOk ended (EndsOver m stamps outflow left.shell left.control left.subscriptions.inbox)
  ends_shut_down R outflow asking left relay (Err fault) one shuts = tt
  ends_shut_down R outflow asking left relay (Ok ended) one shuts =
      in_order outflow asking left relay shuts.end _ ended one shuts.ends shuts.tells

  -- how a kernel ends whose publishers closed one after the other
  pub closed_by : {R : Type 0} (outflow : W → Outflow) (shell control : Engine I (Publishing (Event W)) S W)
      (given : Subscribing W) (of_shell of_control of_subscriptions : Publishing (Event W))
      (inbox : List (Option (Event W))) (queue : TableId)
      (ended : Result (KernelEnd W R) KernelFault) → EndsBlocked m stamps shell of_shell
      → of_shell.published ≡ closed_list shell → EndsBlocked m stamps control of_control
      → EndsSilent given of_subscriptions inbox → queue ≡ shell.publishing.sink.queue
      → IfOk ended (TookEach outflow queue of_shell.published of_control.published of_subscriptions.published)
      → IfOk ended (λ kernel. kernel.subscriptions_in.value ≡ inbox)
      → IfOk ended (EndsOver m stamps outflow shell control given.inbox)
  closed_by outflow shell control given of_shell of_control of_subscriptions inbox queue (Err fault) by_shell list
      by_control silent same took seen = tt
  closed_by outflow shell control given of_shell of_control of_subscriptions inbox queue (Ok ended) by_shell list
      by_control silent same took seen = record {
        took = took.took;
        queue = took.queue_is ∙ same;
        shell_is = took.shell_is ∙ list;
        shell_blocked = subst (λ (items : List (Option (Event W))). IsBlockedBy m stamps shell items)
            (sym took.shell_is) by_shell.blocked;
        control_blocked = subst (λ (items : List (Option (Event W))). IsBlockedBy m stamps control items)
            (sym took.control_is) by_control.blocked;
        subscriptions_passed = rw (seen) (rw (took.subscriptions_are) silent.passes);
        subscriptions_silent = subst (λ (items : List (Option (Event W))). All IsNoMessage items)
            (sym took.subscriptions_are) silent.silent;
      }

  -- it ended without a request for a shutdown on control
  pub once_by : {R : Type 0} (outflow : W → Outflow) (left : Leaving I S W) (queue : TableId)
      (shell of_control subscriptions : List (Option (Event W))) (ended : Result (KernelEnd W R) KernelFault)
      → of_control ≡ closed_list left.control
      → IfOk ended (TookEach outflow queue shell of_control subscriptions)
      → IfOk ended (λ end. end.restart ≡ restart_by None left.of_shell)
      → IfOk ended (λ end. both_did end.work ≡ left.did)
      → IfOk ended (EndsAtOnce left)
  once_by outflow left queue shell of_control subscriptions (Err fault) list took restart work = tt
  once_by outflow left queue shell of_control subscriptions (Ok ended) list took restart work =
      record { control_is = took.control_is ∙ list; did_is = work; restart_is = restart }

  -- how a kernel ends by what its workers were given
  pub ends_by : (R : Type 0) (outflow : W → Outflow) (setup : Setup I S W) (shell control : Ended I S W R Cell)
      (left : Leaving I S W) (ended : Result (KernelEnd W R) KernelFault)
      → WorksOff m stamps setup.shell.side setup.shell.engine setup.shell.inbox shell
      → WorksOff m stamps setup.control.side setup.control.engine setup.control.inbox control
      → IsSameEngine stamps setup.shell.engine shell.work.engine
      → IsSameEngine stamps setup.control.engine control.work.engine
      → leaving_by shell control setup.subscriptions ≡ left
      → IfOk ended (EndsOver m stamps outflow left.shell left.control left.subscriptions.inbox)
      → IfOk ended (EndsFor R m stamps outflow control.cause left)
      → IfOk ended (KernelEndsBy R m stamps outflow setup)
  ends_by R outflow setup shell control left (Err fault) shell_works control_works same_shell same_control is over ends
      = tt
  ends_by R outflow setup shell control left (Ok ended) shell_works control_works same_shell same_control is over ends =
      let by_work : EndsOver m stamps outflow shell.work.engine control.work.engine setup.subscriptions.inbox ended =
      subst (λ (l : Leaving I S W). EndsOver m stamps outflow l.shell l.control l.subscriptions.inbox ended) (sym is)
      over in
      record {
        took = by_work.took;
        queue = by_work.queue ∙ same_shell.queue;
        shell_blocked = blocked_same m stamps setup.shell.engine shell.work.engine _ same_shell by_work.shell_blocked;
        control_blocked = blocked_same m stamps setup.control.engine control.work.engine _ same_control
            by_work.control_blocked;
        subscriptions_passed = by_work.subscriptions_passed;
        subscriptions_silent = by_work.subscriptions_silent;
        shell = shell;
        control = control;
        shell_works = shell_works;
        control_works = control_works;
        shell_is = by_work.shell_is;
        ends = subst (λ (l : Leaving I S W). EndsFor R m stamps outflow control.cause l ended) (sym is) ends;
      }

  -- what an engine's channel published is well blocked as the parts have it that the engine was set up of
  blocked_by : (engine set_up : Engine I (Publishing (Event W)) S W) (items : List (Option (Event W)))
      → engine ≡ set_up → IsBlockedBy m stamps engine items → IsBlockedBy m stamps set_up items
  blocked_by engine set_up items same blocked =
      subst (λ (one : Engine I (Publishing (Event W)) S W). IsBlockedBy m stamps one items) same blocked

  -- what a worker did by what it was given
  works_on : {R : Type 0} (side new_side : Side) (engine new_engine : Engine I (Publishing (Event W)) S W)
      (inbox new_inbox : List (Option Job)) (ended : Ended I S W R Cell) → side ≡ new_side → engine ≡ new_engine
      → inbox ≡ new_inbox → WorksOff m stamps side engine inbox ended
      → WorksOff m stamps new_side new_engine new_inbox ended
  works_on side new_side engine new_engine inbox new_inbox ended same_side same_engine same_inbox works =
      subst (λ (i : List (Option Job)). WorksOff m stamps new_side new_engine i ended) same_inbox
      (subst (λ (e : Engine I (Publishing (Event W)) S W). WorksOff m stamps new_side e inbox ended) same_engine
      (subst (λ (s : Side). WorksOff m stamps s engine inbox ended) same_side works))

  -- an engine that was set up over a publisher of a queue that was just opened
  set_up_over : (side : Side) (language : I × S) (key : List ℕ) (number : ℕ) (queue other : TableId)
      (engine : Engine I (Publishing (Event W)) S W)
      → engine ≡ beginning side language key engine.publishing.sink
      → engine.publishing.sink ≡ publisher_at_first queue number
      → other ≡ queue → engine ≡ beginning side language key (publisher_at_first other number)
  set_up_over side language key number queue other engine is over same =
      is ∙ ap (beginning side language key) (over ∙ ap (λ (q : TableId). publisher_at_first q number) (sym same))

  -- what shell did, as a kernel's end tells it
  shell_did : (R : Type 0) (outflow : W → Outflow) (cause : Cause) (left : Leaving I S W) (ended : KernelEnd W R)
      → EndsFor R m stamps outflow cause left ended → did_of ended.work.shell ≡ left.did.shell
  shell_did R outflow Told left ended ends = ap (λ (d : BothDid). d.shell) ends.did_is
  shell_did R outflow (Shutdown restart) left ended ends = ap (λ (d : BothDid). d.shell) ends.did_is
  shell_did R outflow (Asked asking) left ended (relay, shuts) = ap (λ (d : BothDid). d.shell) shuts.answers.rest
  shell_did R outflow Worn left ended ends = ap (λ (d : BothDid). d.shell) ends.did_is

  -- what came out of control's inbox was answered, if what its worker left to be was
  at_once_answered : {R : Type 0} (before : List (Option Job)) (left : Leaving I S W) (ended : KernelEnd W R)
      → messages_of_jobs left.did.control.jobs
      ≡ messages_of_jobs before ++ (answered_in left.did.control.outcomes.answers ++ [])
      → EndsAtOnce left ended
      → AreAnswered before ended.work.control.inbox.value ended.work.control.outcomes.answers
  at_once_answered before left ended came ends =
      subst (λ (d : Did). AreAnswered before d.jobs d.outcomes.answers)
      (sym (ap (λ (d : BothDid). d.control) ends.did_is))
      (came ∙ ap (λ (l : List (List (List ℕ))). messages_of_jobs before ++ l) (append-nil _))

  control_answered : (R : Type 0) (outflow : W → Outflow) (cause : Cause) (before : List (Option Job))
      (left : Leaving I S W) (ended : KernelEnd W R)
      → messages_of_jobs left.did.control.jobs
      ≡ messages_of_jobs before ++ (answered_in left.did.control.outcomes.answers ++ held_by (Some cause))
      → EndsFor R m stamps outflow cause left ended
      → AreAnswered before ended.work.control.inbox.value ended.work.control.outcomes.answers
  control_answered R outflow Told before left ended came ends = at_once_answered before left ended came ends
  control_answered R outflow (Shutdown restart) before left ended came ends =
      at_once_answered before left ended came ends
  control_answered R outflow (Asked asking) before left ended came (relay, shuts) =
      let answers = shuts.answers in
      ap (λ (d : BothDid). messages_of_jobs d.control.jobs) answers.rest ∙ came
      ∙ ap (λ (l : List (List (List ℕ))). messages_of_jobs before ++ l)
      (sym (ap answered_in answers.records.answered ∙ answered_append left.did.control.outcomes.answers _))
  control_answered R outflow Worn before left ended came ends = at_once_answered before left ended came ends

  -- a kernel ends well whose workers were set up of its parts
  pub ends_well : (R : Type 0) (outflow : W → Outflow) (parts : Parts I S W) (setup : Setup I S W)
      (taker : Taking (Event W)) (ended : Result (KernelEnd W R) KernelFault) → IsCapacity parts.capacity
      → IsSetUp parts setup taker → IfOk ended (KernelEndsBy R m stamps outflow setup)
      → IfOk ended (EndsWell R m stamps outflow parts)
  ends_well R outflow parts setup taker (Err fault) capacity set ends = tt
  ends_well R outflow parts setup taker (Ok ended) capacity set ends =
      let queue : ended.relay.value.taker.queue ≡ taker.queue =
      ends.queue ∙ ap (λ (p : Publishing (Event W)). p.queue) set.opened.shell_is in
      let shell_is = set_up_over Shell parts.shell parts.key.items 0 taker.queue ended.relay.value.taker.queue
      setup.shell.engine set.shell_is set.opened.shell_is queue in
      let control_is = set_up_over Control parts.control parts.key.items 1 taker.queue ended.relay.value.taker.queue
      setup.control.engine set.control_is set.opened.control_is queue in
      let shell_works = works_on _ _ _ _ _ _ ends.shell set.shell_side shell_is set.shell_in ends.shell_works in
      let control_works = works_on _ _ _ _ _ _ ends.control set.control_side control_is set.control_in
      ends.control_works in
      record {
        capacity = capacity;
        took = ends.took;
        shell_blocked = blocked_by setup.shell.engine _ _ shell_is ends.shell_blocked;
        control_blocked = blocked_by setup.control.engine _ _ control_is ends.control_blocked;
        subscriptions_passed = subst (λ (inbox : List (Option (Event W))). PassesOn inbox
            ended.subscriptions_in.value (part_of 2 (taken_of ended))) set.subscriptions_in ends.subscriptions_passed;
        subscriptions_silent = ends.subscriptions_silent;
        shell = ends.shell;
        control = ends.control;
        shell_works = shell_works;
        control_works = control_works;
        shell_is = ends.shell_is;
        ends = subst (λ (inbox : List (Option (Event W))). EndsFor R m stamps outflow ends.control.cause
            (leaving_by ends.shell ends.control
            (record { sink = publisher_at_first ended.relay.value.taker.queue 2; inbox = inbox })) ended)
            set.subscriptions_in
            (subst (λ (p : Publishing (Event W)). EndsFor R m stamps outflow ends.control.cause
            (leaving_by ends.shell ends.control (record { sink = p; inbox = setup.subscriptions.inbox })) ended)
            (set.opened.subscriptions_are ∙ ap (λ (q : TableId). publisher_at_first q 2) (sym queue)) ends.ends);
        shell_answered = subst (λ (d : Did). AreAnswered parts.shell_in.from d.jobs d.outcomes.answers)
            (sym (shell_did R outflow ends.control.cause _ ended ends.ends))
            (shell_answered m stamps _ _ ends.shell shell_works);
        control_answered = control_answered R outflow ends.control.cause parts.control_in.from _ ended
            (all_answered m stamps Control _ _ ends.control control_works) ends.ends;
      }
