-- What a worker did, from its beginning to its end.
use Rattle.std.proofs.Common.{◌≡◌, inl, inr, [], ◌∷◌, ◌++◌, List, ℕ, Bool, Option, Some, None, ap, subst, sym}
use Rattle.std.proofs.Common.{refl, ◌∙◌, append_assoc, append-nil}
use Rattle.interp_core.specs.Interpreter.{Meaning}
use Rattle.iopub_event.specs.declared.event.Event.{Event}
use Rattle.iopub_queue.specs.Sink.{publisher_sink}
use Rattle.iopub_queue.specs.Values.{Publishing as Publisher}
use Rattle.jmsg_envelope.specs.Stamp.{Stamping}
use Rattle.kernel_engine.specs.declared.parts.Parts.{Parts}
use Rattle.kernel_engine.specs.declared.side.Side.{Side}
use Rattle.kernel_engine.specs.declared.side.Side.TheVariants.{Shell}
use Rattle.kernel_engine.specs.World.{world_of}
use Rattle.kernel_engine.specs.declared.asked.Done.{Done}
use Rattle.kernel_engine.specs.declared.asked.Done.TheVariants.{Ignored, Lost, Handled, Refused}
use Rattle.kernel_engine.specs.declared.does.Order.{Order}
use Rattle.kernel_engine.specs.declared.does.Order.TheVariants.{GoOn, Interrupt, End}
use Rattle.kernel_engine.specs.declared.fault.EngineFault.{EngineFault}
use Rattle.kernel_engine.specs.declared.fault.EngineFault.TheVariants.{OwedIdle, Memory, Worn}
use Rattle.kernel_workers.specs.declared.ended.Cause.{Cause}
use Rattle.kernel_workers.specs.declared.ended.Cause.TheVariants as causes
use Rattle.kernel_workers.specs.declared.ended.Ended.{Ended}
use Rattle.kernel_jobs.specs.declared.job.Job.{Job}
use Rattle.kernel_workers.specs.declared.outcomes.Answer.{Answer}
use Rattle.kernel_workers.specs.declared.outcomes.Outcome.{Outcome}
use Rattle.kernel_workers.specs.declared.outcomes.Outcomes.{Outcomes}
use Rattle.kernel_workers.specs.declared.promises.LeavesWork.{LeavesWork}
use Rattle.kernel_workers.specs.declared.work.Work.{Work}
use Rattle.kernel_workers.specs.Causes.{cause_of, cause_of_fault, cause_of_order}
use Rattle.kernel_workers.specs.Jobs.{AreAnswered, Doing, LeavesAll, LeavesJobs, TakesOut}
use Rattle.kernel_workers.specs.Jobs.{TakesTurn, TakesTurns, answered_in, doing_of, messages_of_jobs}
use Rattle.kernel_workers.specs.Jobs.{does, nothing, nothing_left, one_left, one_more, told}
use Rattle.kernel_workers.specs.Outcomes.{Records}
use Rattle.kernel_engine.specs.World.{World}
use Rattle.kernel_workers.specs.Starting.{Promises}
use Rattle.kernel_workers.specs.Works.{WorkerBegins, WorksOff}

-- what became of no jobs
none_yet : (outcomes : Outcomes) → outcomes.answers ≡ [] → outcomes.undone ≡ 0
    → outcomes ≡ record { answers = []; undone = 0 }
none_yet outcomes answers undone =
    ap (λ (list : List Answer). record { answers = list; undone = outcomes.undone }) answers
    ∙ ap (λ (count : ℕ). record { answers = []; undone = count }) undone

module _ {I S W R Cell : Type 0} (m : Meaning I Cell) (stamps : Stamping S) where
  -- a worker began, and took its turns
  pub works_off : (side : Side) (engine first : Parts I (Publisher (Event W)) S W) (started : Bool)
      (inbox : List (Option Job)) (outcomes : Outcomes) (cause : Cause) (work : Work I S W R Cell)
      → outcomes.answers ≡ [] → outcomes.undone ≡ 0 → WorkerBegins m stamps side engine started first
      → TakesTurns (world_of m publisher_sink stamps) (doing_of side)
      (record { engine = first; inbox = inbox; outcomes = outcomes }) (Some cause) work
      → WorksOff m stamps side engine inbox (record { work = work; cause = cause; started = started })
  works_off side engine first started inbox outcomes cause work answers undone begins turns = record {
    first = first;
    begins = begins;
    turns = subst (λ (o : Outcomes). TakesTurns (world_of m publisher_sink stamps) (doing_of side)
        (record { engine = first; inbox = inbox; outcomes = o }) (Some cause) work)
        (none_yet outcomes answers undone) turns;
  }

  -- a worker did what it did of what its promise speaks of
  pub works_promised : (side : Side) (engine : Parts I (Publisher (Event W)) S W)
      (inbox : List (Option Job)) (promise : LeavesWork I S W R Cell) (ended : Ended I S W R Cell)
      → Promises side engine inbox promise → WorksOff m stamps side engine inbox ended
      → WorksOff m stamps promise.side promise.engine.value promise.inbox.value ended
  works_promised side engine inbox promise ended speaks works =
      rw (speaks.side_is) (rw (speaks.engine_is) (rw (speaks.inbox_is) works))

-- the messages of two lists of notes, one after the other
messages_append : (one other : List (Option Job)) → messages_of_jobs (one ++ other)
    ≡ messages_of_jobs one ++ messages_of_jobs other
messages_append [] other = refl
messages_append (Some job ∷ more) other = ap (λ (l : List (List (List ℕ))). job.frames ∷ l) (messages_append more other)
messages_append (None ∷ more) other = messages_append more other

-- what two lists of answers answered, one after the other
pub answered_append : (one other : List Answer) → answered_in (one ++ other) ≡ answered_in one ++ answered_in other
answered_append [] other = refl
answered_append (answer ∷ more) other =
    ap (λ (l : List (List (List ℕ))). answer.to ∷ l) (answered_append more other)

-- the message that a cause leaves to be answered
abbrev pub held_by : Option Cause → List (List (List ℕ))
held_by None = []
held_by (Some causes.Told) = []
held_by (Some (causes.Shutdown restart)) = []
held_by (Some (causes.Asked asking)) = asking.to ∷ []
held_by (Some causes.Worn) = []

order_holds : (order : Order) → held_by (cause_of_order order) ≡ []
order_holds GoOn = refl
order_holds Interrupt = refl
order_holds (End restart) = refl

fault_holds : (fault : EngineFault) → held_by (cause_of_fault fault) ≡ []
fault_holds (OwedIdle request) = refl
fault_holds Memory = refl
fault_holds Worn = refl

-- what came of a message leaves none to be answered
done_holds : (done : Done) → held_by (cause_of done) ≡ []
done_holds Ignored = refl
done_holds Lost = refl
done_holds (Handled handled) = order_holds handled.order
done_holds (Refused fault) = fault_holds fault

module _ {I S W R Cell : Type 0} where
  -- What came out of the inbox in between was answered, but for what is left to be.
  pub record Balances (old new : Work I S W R Cell) (held : List (List (List ℕ))) : Type 0 where
    pub came : List (List (List ℕ))
    pub inbox : messages_of_jobs new.inbox ≡ messages_of_jobs old.inbox ++ came
    pub answers : answered_in new.outcomes.answers ++ held ≡ answered_in old.outcomes.answers ++ came

  even : (work : Work I S W R Cell) → Balances work work []
  even work = record { came = []; inbox = sym (append-nil _); answers = refl }

  after : (first middle last : Work I S W R Cell) (held : List (List (List ℕ))) → Balances first middle []
      → Balances middle last held → Balances first last held
  after first middle last held one two = record {
    came = one.came ++ two.came;
    inbox = two.inbox ∙ ap (λ (l : List (List (List ℕ))). l ++ two.came) one.inbox
        ∙ append_assoc (messages_of_jobs first.inbox) one.came two.came;
    answers = two.answers
        ∙ ap (λ (l : List (List (List ℕ))). l ++ two.came)
        (sym (append-nil (answered_in middle.outcomes.answers)) ∙ one.answers)
        ∙ append_assoc (answered_in first.outcomes.answers) one.came two.came;
  }

  -- what comes out of an inbox adds its message
  out : (old : Work I S W R Cell) (next : Option Job) (new : Work I S W R Cell) → TakesOut old next new
      → messages_of_jobs new.inbox ≡ messages_of_jobs old.inbox ++ messages_of_jobs (next ∷ [])
  out old next new takes = ap messages_of_jobs takes.inbox ∙ messages_append old.inbox (next ∷ [])

  -- a job came out, and was answered
  answered : (old : Work I S W R Cell) (job : Job) (taken new : Work I S W R Cell) (outcome : Outcome)
      → TakesOut old (Some job) taken → new.inbox ≡ taken.inbox
      → Records job.frames outcome taken.outcomes new.outcomes → Balances old new []
  answered old job taken new outcome takes inbox records = record {
    came = job.frames ∷ [];
    inbox = ap messages_of_jobs inbox ∙ out old (Some job) taken takes;
    answers = append-nil _ ∙ ap answered_in records.answered
        ∙ answered_append taken.outcomes.answers (record { to = job.frames; outcome = outcome } ∷ [])
        ∙ ap (λ (l : List Answer). answered_in l ++ job.frames ∷ [])
        (ap (λ (o : Outcomes). o.answers) takes.outcomes);
  }

  -- nothing came out
  ended : (old new : Work I S W R Cell) → TakesOut old None new → Balances old new []
  ended old new takes = record {
    came = [];
    inbox = out old None new takes;
    answers = ap (λ (o : Outcomes). answered_in o.answers ++ []) takes.outcomes;
  }

  -- a job came out, and is left to be answered
  held_back : (old : Work I S W R Cell) (job : Job) (taken new : Work I S W R Cell) (to : List (List ℕ))
      → TakesOut old (Some job) taken → new ≡ taken → to ≡ job.frames → Balances old new (to ∷ [])
  held_back old job taken new to takes same is = record {
    came = job.frames ∷ [];
    inbox = ap (λ (w : Work I S W R Cell). messages_of_jobs w.inbox) same ∙ out old (Some job) taken takes;
    answers = ap (λ (w : Work I S W R Cell). answered_in w.outcomes.answers ++ to ∷ []) same
        ∙ ap (λ (o : Outcomes). answered_in o.answers ++ to ∷ []) takes.outcomes
        ∙ ap (λ (m : List (List ℕ)). answered_in old.outcomes.answers ++ m ∷ []) is;
  }

  leaves_balance : (first last : Work I S W R Cell) → LeavesJobs first last → Balances first last []
  leaves_balance first _ nothing_left = even first
  leaves_balance first _ (one_left middle job taken last leaves takes left) =
      after first middle last [] (leaves_balance first middle leaves)
      (answered middle job taken last _ takes left.inbox left.records)

  left_balance : (old : Work I S W R Cell) (job : Job) (taken new : Work I S W R Cell) (cause : Option Cause)
      → TakesOut old (Some job) taken → LeavesAll job.frames taken cause new → Balances old new []
  left_balance old job taken new cause takes all =
      after old all.one new [] (answered old job taken all.one _ takes all.leaves.inbox all.leaves.records)
      (after all.one all.rest.last new [] (leaves_balance all.one all.rest.last all.rest.leaves)
      (ended all.rest.last new all.rest.told))

module _ {I S W R Cell : Type 0} (world : World I (Publisher (Event W)) S W Cell) (may : Doing) where
  turn_balance : (old new : Work I S W R Cell) (cause : Option Cause) → TakesTurn world may old cause new
      → Balances old new (held_by cause)
  turn_balance old new cause (does job taken takes (inl (may_leave, all))) =
      subst (λ (c : Option Cause). Balances old new (held_by c)) (sym all.cause_is)
      (left_balance old job taken new cause takes all)
  turn_balance old new cause (does job taken takes (inr (inl (may_hold, holds)))) =
      subst (λ (c : Option Cause). Balances old new (held_by c)) (sym holds.cause_is)
      (held_back old job taken new holds.asking.to takes holds.same holds.to)
  turn_balance old new cause (does job taken takes (inr (inr takes_job))) =
      subst (λ (l : List (List (List ℕ))). Balances old new l)
      (sym (ap held_by takes_job.cause_is ∙ done_holds takes_job.done))
      (answered old job taken new _ takes takes_job.inbox takes_job.records)
  turn_balance old new cause (told takes is) =
      subst (λ (c : Option Cause). Balances old new (held_by c)) (sym is) (ended old new takes)

  pub turns_balance : (first last : Work I S W R Cell) (cause : Option Cause) → TakesTurns world may first cause last
      → Balances first last (held_by cause)
  turns_balance first _ _ nothing = even first
  turns_balance first _ _ (one_more middle cause last turns turn) =
      after first middle last (held_by cause) (turns_balance first middle None turns)
      (turn_balance middle last cause turn)

  turn_holds : (old new : Work I S W R Cell) (cause : Option Cause) → ¬ may.may_hold → TakesTurn world may old cause new
      → held_by cause ≡ []
  turn_holds old new cause never (does job taken takes (inl (may_leave, all))) = ap held_by all.cause_is
  turn_holds old new cause never (does job taken takes (inr (inl (may_hold, holds)))) = absurd (never may_hold)
  turn_holds old new cause never (does job taken takes (inr (inr takes_job))) =
      ap held_by takes_job.cause_is ∙ done_holds takes_job.done
  turn_holds old new cause never (told takes is) = ap held_by is

  -- where no request is left for later, none is left to be answered
  pub turns_hold : (first last : Work I S W R Cell) (cause : Option Cause) → ¬ may.may_hold
      → TakesTurns world may first cause last → held_by cause ≡ []
  turns_hold first _ _ never nothing = refl
  turns_hold first _ _ never (one_more middle cause last turns turn) = turn_holds middle last cause never turn

module _ {I S W R Cell : Type 0} (m : Meaning I Cell) (stamps : Stamping S) where
  -- what came out of a worker's inbox was answered, but for what its end leaves to be
  pub all_answered : (side : Side) (engine : Parts I (Publisher (Event W)) S W) (inbox : List (Option Job))
      (left : Ended I S W R Cell) → WorksOff m stamps side engine inbox left
      → messages_of_jobs left.work.inbox
      ≡ messages_of_jobs inbox ++ (answered_in left.work.outcomes.answers ++ held_by (Some left.cause))
  all_answered side engine inbox left works =
      let balance = turns_balance (world_of m publisher_sink stamps) (doing_of side) _ left.work _ works.turns in
      balance.inbox ∙ ap (λ (l : List (List (List ℕ))). messages_of_jobs inbox ++ l) (sym balance.answers)

  -- all that came out of shell's inbox was answered
  pub shell_answered : (engine : Parts I (Publisher (Event W)) S W) (inbox : List (Option Job))
      (left : Ended I S W R Cell) → WorksOff m stamps Shell engine inbox left
      → AreAnswered inbox left.work.inbox left.work.outcomes.answers
  shell_answered engine inbox left works =
      let none = turns_hold (world_of m publisher_sink stamps) (doing_of Shell) _ left.work _ (λ never. never)
      works.turns in
      all_answered Shell engine inbox left works
      ∙ ap (λ (l : List (List (List ℕ))). messages_of_jobs inbox ++ (answered_in left.work.outcomes.answers ++ l)) none
      ∙ ap (λ (l : List (List (List ℕ))). messages_of_jobs inbox ++ l) (append-nil _)
