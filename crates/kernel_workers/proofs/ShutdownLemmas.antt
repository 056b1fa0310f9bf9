-- The ordered end of a kernel, of what its parts promised.
use Rattle.std.proofs.Common.{arith, ◌≡◌, ◌⊎◌, ◌↔◌, inl, inr, ℕ, ◌+◌, ◌≤◌, List, [], ◌∷◌, ◌++◌, length}
use Rattle.std.proofs.Common.{true, Option, None, Result, Ok, Err, IsTrue, refl, sym, subst, ap, ◌∙◌, append_assoc}
use Rattle.std.proofs.Common.{length-append}
use Rattle.std.specs.Global.{Vec}
use Rattle.std.specs.List.{AllByRecursion}
use Rattle.zmtp_wire.proofs.PendingLemmas.{all_append}
use Rattle.interp_core.specs.Interpreter.{Meaning}
use Rattle.iopub_event.specs.declared.event.Event.{Event}
use Rattle.iopub_queue.specs.Entries.{CloseIsLast, Entry, EndsWithClose, IsComplete, StandsBehind, StartsWith, part_of}
use Rattle.iopub_queue.specs.Laws.{IsTakenBehind}
use Rattle.iopub_queue.proofs.Order.{keeps_order}
use Rattle.iopub_queue.proofs.Parts.{of_append}
use Rattle.iopub_queue.specs.Sink.{publisher_sink}
use Rattle.iopub_queue.specs.Values.{Publishing, Taking, Told}
use Rattle.iopub_relay.specs.Relay.{AreAllClosed, AreOfNumbers, HasNumber, Meets, Relaying, TakesMore}
use Rattle.jmsg_envelope.specs.Stamp.{Stamping}
use Rattle.jmsg_envelope.specs.declared.envelope.Envelope.{Envelope}
use Rattle.kernel_engine.specs.declared.fault.EngineFault.{EngineFault}
use Rattle.kernel_engine.specs.declared.fault.EngineFault.TheVariants.{OwedIdle, Memory, Worn}
use Rattle.kernel_engine.specs.declared.handled.Handled.{Handled}
use Rattle.kernel_engine.specs.Growth.{item_of, sealing_of}
use Rattle.kernel_engine.specs.Handles.{AddsBlock, HandlesErr}
use Rattle.kernel_engine.specs.Last.{HandlesLastErr, IdleIsBehind}
use Rattle.kernel_engine.specs.WellBlocked.{Block, idle_of}
use Rattle.kernel_engine.specs.World.{world_of}
use Rattle.kernel_workers.specs.Ending.{EndsBlocked, IsBlockedBy, closed_list}
use Rattle.kernel_workers.specs.declared.draining.Drained.{Drained}
use Rattle.kernel_workers.specs.declared.draining.Drained.TheVariants.{Back, Served}
use Rattle.kernel_workers.specs.declared.shutdown.ShutdownEnd.{ShutdownEnd}
use Rattle.kernel_workers.specs.Shutdown.{ClosesInOrder, Concludes, DoesLast, DrainsFrom, EndsInOrder, Engine, IsBack}
use Rattle.kernel_workers.specs.Shutdown.{IsRest, IsSaid}
use Rattle.kernel_workers.specs.Shutdown.{RefusesBy, RefusesInOrder, RepliesInOrder, itself}
use Rattle.kernel_workers.specs.Staying.{IsSameEngine}
use Rattle.kernel_workers.proofs.EndingLemmas.{ends_same}
use Rattle.kernel_workers.proofs.JobLemmas.{added, refused_same}
use Rattle.kernel_workers.proofs.RunningLemmas.{met_whole}

-- what holds of two lists together holds of each
all_split : {A : Type 0} (P : A → Type 0) (xs ys : List A) → AllByRecursion P (xs ++ ys)
    → AllByRecursion P xs × AllByRecursion P ys
all_split P [] ys all = (tt, all)
all_split P (x ∷ xs) ys all = let (first, second) = all_split P xs ys all.1 in ((all.0, first), second)

-- what is closed behind others begins with them
starts_behind : {T : Type 0} (whole told : List (Entry T)) (entry : Entry T) → StandsBehind whole entry told
    → StartsWith whole told
starts_behind {T} whole told entry (before, ends, (rest, front)) = (
  rest ++ entry ∷ [],
  ends ∙ ap (λ (l : List (Entry T)). l ++ entry ∷ []) front ∙ append_assoc told rest (entry ∷ []),
)

-- a part of a beginning is no longer than the part of the whole
part_is_short : {T : Type 0} (number : ℕ) (whole told : List (Entry T)) → StartsWith whole told
    → length (part_of number told) ≤ length (part_of number whole)
part_is_short {T} number whole told (rest, is) =
    let parts : length (part_of number whole) ≡ length (part_of number told) + length (part_of number rest) =
    ap (λ (l : List (Entry T)). length (part_of number l)) is ∙ ap length (of_append number told rest)
    ∙ length-append (part_of number told) (part_of number rest) in
    omega (arith, parts)

-- where all is complete the part of each that met the taker is what that one published
all_met : {T : Type 0} (taker : Taking T) (tokens : List (Publishing T)) → AllByRecursion (Meets taker) tokens
    → IsComplete taker.count taker.taken
    → AllByRecursion (λ closed. part_of closed.number taker.taken ≡ closed.published) tokens
all_met taker [] meets complete = tt
all_met taker (closed ∷ tokens) (met, meets) complete = (
  met_whole taker closed closed.number refl met (complete closed.number met.1.known),
  all_met taker tokens meets complete,
)

-- what was taken of each that met the taker is a beginning of what that one published
all_begin : {T : Type 0} (taker : Taking T) (tokens : List (Publishing T)) → AllByRecursion (Meets taker) tokens
    → AllByRecursion (λ closed. StartsWith closed.published (part_of closed.number taker.taken)) tokens
all_begin taker [] meets = tt
all_begin taker (closed ∷ tokens) (met, meets) = (met.1.beginning, all_begin taker tokens meets)

-- what was taken of a publisher is a beginning of its list
begins_by : {T : Type 0} (taker : Taking T) (closed : Publishing T) (number : ℕ) (list : List (Option T))
    → closed.number ≡ number → closed.published ≡ list → Meets taker closed
    → StartsWith list (part_of number taker.taken)
begins_by {T} taker closed number list is same met =
    subst (λ (n : ℕ). StartsWith list (part_of n taker.taken)) is
    (subst (λ (items : List (Option T)). StartsWith items (part_of closed.number taker.taken)) same met.1.beginning)

-- what came back of a relay is what it was
pub back_is : {W R : Type 0} (relay back : Relaying W) (drained : Drained W R) → DrainsFrom relay drained
    → IsBack drained back → back ≡ relay
back_is relay back (Back same) from is = sym is ∙ from
back_is relay back (Served new) from never = absurd never

module _ {T : Type 0} where
  -- a token of a number is among the first of two lists
  has_in_front : (number : ℕ) (xs ys : List (Publishing T)) → HasNumber number xs → HasNumber number (xs ++ ys)
  has_in_front number [] ys has = absurd has
  has_in_front number (x ∷ xs) ys (inl is) = inl is
  has_in_front number (x ∷ xs) ys (inr has) = inr (has_in_front number xs ys has)

  -- or among the second
  has_behind : (number : ℕ) (xs ys : List (Publishing T)) → HasNumber number ys → HasNumber number (xs ++ ys)
  has_behind number [] ys has = has
  has_behind number (x ∷ xs) ys has = inr (has_behind number xs ys has)

module _ {W : Type 0} where
  -- the tokens of all publishers: the others', shell's and control's
  abbrev pub all_of : List (Publishing (Event W)) → Publishing (Event W) → Publishing (Event W)
      → List (Publishing (Event W))
  all_of tokens shell control = tokens ++ shell ∷ control ∷ []

  -- the tokens of all others are so once more was taken
  pub rest_on : (old new : Taking (Event W)) (shell control closed_shell closed_control : ℕ)
      (tokens : List (Publishing (Event W))) → TakesMore old new → closed_shell ≡ shell → closed_control ≡ control
      → IsRest old shell control tokens → IsRest new closed_shell closed_control tokens
  rest_on old new shell control closed_shell closed_control tokens (entries, same) shell_is control_is rest =
      rw (same, shell_is, control_is) (record { queue = rest.queue; each = rest.each })

  -- they are the others' once shell's was pushed, and then control's
  pub both_pushed : (tokens one all : List (Publishing (Event W))) (shell control : Publishing (Event W))
      → one ≡ tokens ++ shell ∷ [] → all ≡ one ++ control ∷ [] → all ≡ all_of tokens shell control
  both_pushed tokens one all shell control first second =
      second ∙ ap (λ (list : List (Publishing (Event W))). list ++ control ∷ []) first
      ∙ append_assoc tokens (shell ∷ []) (control ∷ [])

  -- all are of one queue
  pub of_one_queue : (taker : Taking (Event W)) (shell control : Publishing (Event W))
      (tokens all : List (Publishing (Event W))) → all ≡ all_of tokens shell control
      → IsRest taker shell.number control.number tokens
      → shell.queue ≡ taker.queue → control.queue ≡ taker.queue
      → AllByRecursion (λ closed. closed.queue ≡ taker.queue) all
  of_one_queue taker shell control tokens all are rest of_shell of_control =
      subst (λ (list : List (Publishing (Event W))). AllByRecursion (λ closed. closed.queue ≡ taker.queue) list)
      (sym are) (all_append _ tokens (shell ∷ control ∷ []) rest.queue (of_shell, (of_control, tt)))

  -- there is one of each number
  one_of_each : (taker : Taking (Event W)) (shell control : Publishing (Event W))
      (tokens : List (Publishing (Event W))) (number : ℕ)
      → ((number ≡ shell.number) ⊎ (number ≡ control.number)) ⊎ HasNumber number tokens
      → HasNumber number (all_of tokens shell control)
  one_of_each taker shell control tokens number (inl (inl is)) =
      has_behind number tokens (shell ∷ control ∷ []) (inl (sym is))
  one_of_each taker shell control tokens number (inl (inr is)) =
      has_behind number tokens (shell ∷ control ∷ []) (inr (inl (sym is)))
  one_of_each taker shell control tokens number (inr has) =
      has_in_front number tokens (shell ∷ control ∷ []) has

  -- a relay that concluded with all of them
  pub concludes : {R : Type 0} (old new : Taking (Event W)) (shell control : Publishing (Event W))
      (tokens all : List (Publishing (Event W))) (done : Result Handled EngineFault) (end : ShutdownEnd W R)
      → end.relay.taker ≡ new → all ≡ all_of tokens shell control
      → IsRest old shell.number control.number tokens
      → EndsWithClose shell.published → EndsWithClose control.published
      → (new.queue ≡ old.queue) × (new.count ≡ old.count) → StartsWith new.taken old.taken
      → (IsTrue end.complete ↔ IsComplete new.count new.taken)
      → ((number : ℕ) → CloseIsLast (part_of number new.taken)) → AreOfNumbers new.count new.taken
      → AllByRecursion (Meets new) all → (AreAllClosed old.count all → IsTrue end.complete)
      → IsSaid done end.reply end.restart end.fault
      → Concludes old shell control tokens done end
  concludes old new shell control tokens all done end is are rest shell_closed control_closed same grows complete last
      numbers meets closed said =
      let (met, two) = all_split (Meets new) tokens (shell ∷ control ∷ []) (rw are at meets) in
      record {
        queue = ap (λ (t : Taking (Event W)). t.queue) is ∙ same.0;
        count = ap (λ (t : Taking (Event W)). t.count) is ∙ same.1;
        grows = subst (λ (t : Taking (Event W)). StartsWith t.taken old.taken) (sym is) grows;
        complete = subst (λ (t : Taking (Event W)). IsTrue end.complete ↔ IsComplete t.count t.taken) (sym is) complete;
        closed = λ each. closed (record {
          closed = subst (λ (list : List (Publishing (Event W))). AllByRecursion (λ one. EndsWithClose one.published)
              list) (sym are)
              (all_append _ tokens (shell ∷ control ∷ []) each (shell_closed, (control_closed, tt)));
          each = λ number below. subst (λ (list : List (Publishing (Event W))). HasNumber number list) (sym are)
              (one_of_each old shell control tokens number (rest.each number below));
        });
        last = subst (λ (t : Taking (Event W)). (number : ℕ) → CloseIsLast (part_of number t.taken)) (sym is) last;
        numbers = subst (λ (t : Taking (Event W)). AreOfNumbers t.count t.taken) (sym is) numbers;
        meets_shell = subst (λ (t : Taking (Event W)). Meets t shell) (sym is) two.0;
        meets_control = subst (λ (t : Taking (Event W)). Meets t control) (sym is) two.1.0;
        meets = subst (λ (t : Taking (Event W)). AllByRecursion (Meets t) tokens) (sym is) met;
        said = said;
      }

module _ {I S W Cell : Type 0} (m : Meaning I Cell) (stamps : Stamping S) where
  -- a request that was refused whose idle was to go behind a word was refused
  refused_last : (word : List (Entry (Event W))) (request : Envelope) (old new : Engine I S W) (fault : EngineFault)
      → HandlesLastErr (world_of m publisher_sink stamps) itself ⊥ request word old fault new
      → HandlesErr (world_of m publisher_sink stamps) ⊥ request old fault new
  refused_last word request old new (OwedIdle back) err = err
  refused_last word request old new Memory (inl none) = inl none
  refused_last word request old new Memory (inr last) = inr last.cut
  refused_last word request old new Worn err = err

  -- such a request leaves the engine the same
  last_same : (word : List (Entry (Event W))) (request : Envelope) (old new : Engine I S W)
      (done : Result Handled EngineFault) → DoesLast m stamps word request old done new → IsSameEngine stamps old new
  last_same word request old new (Ok handled) (response, is, last) =
      added m stamps ⊥ last.handles.block old new last.handles.adds
  last_same word request old new (Err fault) err =
      refused_same m stamps ⊥ request old new fault (refused_last word request old new fault err)

  -- shell closed, and then control, behind the request
  pub closes_in_order : (shell control after : Engine I S W) (request : Envelope)
      (shell_closed again control_closed : Publishing (Event W)) (word : Told (Event W))
      (done : Result Handled EngineFault) → again ≡ shell_closed
      → word ≡ record { queue = shell_closed.queue; list = shell_closed.told }
      → EndsBlocked m stamps shell shell_closed → shell_closed.published ≡ closed_list shell
      → part_of shell_closed.number shell_closed.told ≡ shell_closed.published
      → DoesLast m stamps word.list request control done after
      → EndsBlocked m stamps after control_closed → control_closed.published ≡ closed_list after
      → part_of control_closed.number control_closed.told ≡ control_closed.published
      → (after.owed ≡ None
      → StandsBehind control_closed.told (after.publishing.sink.number, None) after.publishing.sink.told)
      → ClosesInOrder m stamps shell control request again control_closed done
  closes_in_order shell control after request shell_closed again control_closed word done same told shell_ends
      shell_list
      shell_own does control_ends control_list control_own behind =
      let stays = last_same word.list request control after done does in
      rw same (record {
        shell_ends = shell_ends;
        shell_list = shell_list;
        shell_own = shell_own;
        control_ends = ends_same m stamps control after control_closed stays control_ends;
        control_own = control_own;
        after = after;
        control_list = control_list;
        does = subst (λ (list : List (Entry (Event W))). DoesLast m stamps list request control done after)
            (ap (λ (w : Told (Event W)). w.list) told) does;
        behind = λ none. subst (λ (n : ℕ). StandsBehind control_closed.told (n, None) after.publishing.sink.told)
            stays.number (behind none);
      })

  -- over a publisher the idle of a block is never owed
  never_owes : (block : Block) (old new : Engine I S W) → AddsBlock (world_of m publisher_sink stamps) block old new
      → (block.closed ≡ true) × (new.owed ≡ None)
  never_owes block old new adds = closes_always adds.owed where
    closes_always : {A B C : Type 0} → A ⊎ (B × C × ⊥) → A
    closes_always (inl a) = a
    closes_always (inr (b, c, never)) = absurd never

  -- the idle of a block that was added stands behind all that the word tells
  idle_behind : (control after : Engine I S W) (word : List (Entry (Event W))) (closed : Publishing (Event W))
      (block : Block) (taker : Taking (Event W)) → AddsBlock (world_of m publisher_sink stamps) block control after
      → IdleIsBehind (world_of m publisher_sink stamps) itself word block control after
      → closed.number ≡ control.publishing.sink.number → part_of closed.number closed.told ≡ closed.published
      → (after.owed ≡ None
      → StandsBehind closed.told (control.publishing.sink.number, None) after.publishing.sink.told)
      → Meets taker closed → IsComplete taker.count taker.taken
      → IsTakenBehind taker.taken (
        control.publishing.sink.number,
        item_of (idle_of (sealing_of stamps control.publishing) block),
      ) word
  idle_behind control after word closed block taker adds last number own behind meets complete =
      let (is_closed, none) = never_owes block control after adds in
      let starts = starts_behind closed.told after.publishing.sink.told (control.publishing.sink.number, None)
      (behind none) in
      let short = part_is_short control.publishing.sink.number closed.told after.publishing.sink.told starts in
      let whole : part_of control.publishing.sink.number taker.taken
      ≡ part_of control.publishing.sink.number closed.told =
      met_whole taker closed control.publishing.sink.number number meets (complete closed.number meets.1.known)
      ∙ sym (subst (λ (n : ℕ). part_of n closed.told ≡ closed.published) number own) in
      let same : length (part_of control.publishing.sink.number taker.taken)
      ≡ length (part_of control.publishing.sink.number closed.told) = ap length whole in
      keeps_order closed.told after.publishing.sink.told taker.taken word _ meets.1.agree starts (last is_closed)
      (omega (arith, short, same))

  -- what each refusal of the request says
  refused_by : {R : Type 0} (control after : Engine I S W) (request : Envelope) (word : List (Entry (Event W)))
      (closed : Publishing (Event W)) (end : ShutdownEnd W R) (why : EngineFault)
      → HandlesLastErr (world_of m publisher_sink stamps) itself ⊥ request word control why after
      → closed.number ≡ control.publishing.sink.number → part_of closed.number closed.told ≡ closed.published
      → (after.owed ≡ None
      → StandsBehind closed.told (control.publishing.sink.number, None) after.publishing.sink.told)
      → Meets end.relay.taker closed
      → (IsTrue end.complete → IsComplete end.relay.taker.count end.relay.taker.taken)
      → RefusesBy m stamps control request word after end why
  refused_by control after request word closed end (OwedIdle back) err number own behind meets complete = err
  refused_by control after request word closed end Memory (inl none) number own behind meets complete = inl none
  refused_by control after request word closed end Memory (inr last) number own behind meets complete =
      inr (record {
        cut = last.cut;
        behind = λ says. idle_behind control after word closed last.cut.block end.relay.taker last.cut.adds last.behind
            number own behind meets (complete says);
      })
  refused_by control after request word closed end Worn err number own behind meets complete = err

  -- what came of the request
  request_ended : {R : Type 0} (shell control : Engine I S W) (request : Envelope) (shell_closed control_closed :
      Publishing (Event W)) (done : Result Handled EngineFault) (old : Taking (Event W))
      (tokens : List (Publishing (Event W))) (end : ShutdownEnd W R)
      → (closes : ClosesInOrder m stamps shell control request shell_closed control_closed done)
      → Concludes old shell_closed control_closed tokens done end
      → RepliesInOrder m stamps control request shell_closed.told closes.after end
      ⊎ RefusesInOrder m stamps control request shell_closed.told closes.after end
  request_ended shell control request shell_closed control_closed (Ok handled) old tokens end closes concluded =
      let (response, is, last) = closes.does in
      let (reply, restart, fault) = concluded.said in
      inl (record {
        response = response;
        handles = last;
        reply = reply ∙ ap (λ (h : Handled). h.reply) is;
        restart = restart ∙ ap (λ (h : Handled). h.restart) is;
        fault = fault;
        behind = λ says. idle_behind control closes.after shell_closed.told control_closed last.handles.block
            end.relay.taker last.handles.adds last.behind closes.control_ends.number closes.control_own closes.behind
            concluded.meets_control (concluded.complete.0 says);
      })
  request_ended shell control request shell_closed control_closed (Err why) old tokens end closes concluded =
      let (reply, restart, fault) = concluded.said in
      inr (record {
        why = why;
        refuses = refused_by control closes.after request shell_closed.told control_closed end why closes.does
            closes.control_ends.number closes.control_own closes.behind concluded.meets_control concluded.complete.0;
        reply = reply;
        restart = restart;
        fault = fault;
      })

  -- a kernel that was shut down ends in order
  pub ends_in_order : {R : Type 0} (shell control : Engine I S W) (request : Envelope) (relay drained : Relaying W)
      (Gives : Vec (Publishing (Event W)) → Type 0) (tokens : Vec (Publishing (Event W)))
      (shell_closed control_closed : Publishing (Event W)) (done : Result Handled EngineFault) (end : ShutdownEnd W R)
      → TakesMore relay.taker drained.taker → Gives tokens
      → ClosesInOrder m stamps shell control request shell_closed control_closed done
      → Concludes drained.taker shell_closed control_closed tokens.items done end
      → EndsInOrder m stamps shell control request relay Gives end
  ends_in_order shell control request relay drained Gives tokens shell_closed control_closed done end (entries, more)
      given closes concluded =
      let shell_is : IsTrue end.complete
      → part_of shell.publishing.sink.number end.relay.taker.taken ≡ shell_closed.published =
      λ says. met_whole end.relay.taker shell_closed shell.publishing.sink.number closes.shell_ends.number
      concluded.meets_shell (concluded.complete.0 says shell_closed.number concluded.meets_shell.1.known) in
      let control_is : IsTrue end.complete
      → part_of control.publishing.sink.number end.relay.taker.taken ≡ control_closed.published =
      λ says. met_whole end.relay.taker control_closed control.publishing.sink.number closes.control_ends.number
      concluded.meets_control (concluded.complete.0 says control_closed.number concluded.meets_control.1.known) in
      record {
        tokens = tokens;
        given = given;
        queue = concluded.queue ∙ ap (λ (t : Taking (Event W)). t.queue) more;
        count = concluded.count ∙ ap (λ (t : Taking (Event W)). t.count) more;
        grows = (
          entries ++ concluded.grows.0,
          concluded.grows.1 ∙ ap (λ (t : Taking (Event W)). t.taken ++ concluded.grows.0) more
              ∙ append_assoc relay.taker.taken entries concluded.grows.0,
        );
        complete = concluded.complete;
        closed = concluded.closed;
        last = concluded.last;
        numbers = concluded.numbers;
        shell_blocked = λ says. subst (λ (items : List (Option (Event W))). IsBlockedBy m stamps shell items)
            (sym (shell_is says)) closes.shell_ends.blocked;
        control_blocked = λ says. subst (λ (items : List (Option (Event W))). IsBlockedBy m stamps control items)
            (sym (control_is says)) closes.control_ends.blocked;
        shell_begins = begins_by end.relay.taker shell_closed shell.publishing.sink.number (closed_list shell)
            closes.shell_ends.number closes.shell_list concluded.meets_shell;
        control_begins = begins_by end.relay.taker control_closed control.publishing.sink.number
            (closed_list closes.after) closes.control_ends.number closes.control_list concluded.meets_control;
        others_begin = all_begin end.relay.taker tokens.items concluded.meets;
        others = λ says. all_met end.relay.taker tokens.items concluded.meets (concluded.complete.0 says);
        word = shell_closed.told;
        word_is = subst (λ (n : ℕ). part_of n shell_closed.told ≡ shell_closed.published) closes.shell_ends.number
            closes.shell_own ∙ closes.shell_list;
        shell_is = λ says. shell_is says ∙ closes.shell_list;
        control_is = λ says. control_is says ∙ closes.control_list;
        after = closes.after;
        request_ends = request_ended shell control request shell_closed control_closed done drained.taker tokens.items
            end closes concluded;
      }

  -- it does so also of what is known of what gave the tokens
  pub in_order_by : {R : Type 0} (shell control : Engine I S W) (request : Envelope) (relay : Relaying W)
      (Gives Gave : Vec (Publishing (Event W)) → Type 0) (end : ShutdownEnd W R)
      → ((tokens : Vec (Publishing (Event W))) → Gives tokens → Gave tokens)
      → EndsInOrder m stamps shell control request relay Gives end
      → EndsInOrder m stamps shell control request relay Gave end
  in_order_by shell control request relay Gives Gave end gave ends = record {
    tokens = ends.tokens;
    given = gave ends.tokens ends.given;
    queue = ends.queue;
    count = ends.count;
    grows = ends.grows;
    complete = ends.complete;
    closed = ends.closed;
    last = ends.last;
    numbers = ends.numbers;
    word = ends.word;
    word_is = ends.word_is;
    shell_begins = ends.shell_begins;
    shell_is = ends.shell_is;
    shell_blocked = ends.shell_blocked;
    after = ends.after;
    request_ends = ends.request_ends;
    control_begins = ends.control_begins;
    control_is = ends.control_is;
    control_blocked = ends.control_blocked;
    others_begin = ends.others_begin;
    others = ends.others;
  }
