-- By one course a request publishes one thing at most, and is answered one thing at most.
use Rattle.std.proofs.Common.{arith, ◌≡◌, inl, inr, ℕ, ◌+◌, ◌<◌, List, [], ◌∷◌, ◌++◌, length, map, Bool, true}
use Rattle.std.proofs.Common.{false, Some, Ok, Err, refl, sym, ◌∙◌, ap, subst, append_assoc}
use Rattle.interp_core.specs.Interpreter.{HasOneValue, Meaning}
use Rattle.interp_core.specs.declared.answer.Next.{Next}
use Rattle.interp_core.specs.declared.answer.Next.TheVariants.{More, Done, Failed}
use Rattle.interp_core.specs.declared.answer.Output.{Output}
use Rattle.interp_core.specs.declared.answer.Stepped.{Stepped}
use Rattle.jmsg_types.specs.declared.publication.Publication.{Publication}
use Rattle.jmsg_types.specs.declared.publication.Publication.TheVariants.{ExecuteInput}
use Rattle.jmsg_types.specs.declared.reply.Reply.TheVariants as tells
use Rattle.jmsg_types.specs.declared.reply.Shown.{Shown}
use Rattle.jmsg_types.specs.declared.reply.Reply.{Reply}
use Rattle.kernel_engine.specs.declared.does.Does.TheVariants.{Says, Looks, Runs, Refuses, Unread}
use Rattle.kernel_engine.specs.declared.does.Look.{Look}
use Rattle.kernel_engine.specs.declared.does.Look.TheVariants as looks
use Rattle.kernel_engine.specs.Course.{Course, Ending, own, interrupted, memory, Outcome, IsOutcome, outputs_of, Goes}
use Rattle.kernel_engine.specs.Course.{Ends, CellRuns, IsUnread, BeginsCell, TextRuns}
use Rattle.kernel_engine.specs.Publications.{publication_of, last_of, count_after, PublishesUnless}
use Rattle.kernel_engine.specs.Answer.{Answer, plain, reply_by, info_reply, completion_reply, completeness_reply}
use Rattle.kernel_engine.specs.Answer.{shown_of, Evaluates, Finds, RepliesCell}
use Rattle.kernel_engine.specs.Laws.{PublishesOnce, AnswersOnce}

-- two cells, or two rests of cells, came to the same: what they wrote, what came of them, and the state then
abbrev Same : {State : Type 0} → List Output → List Output → Outcome → Outcome → State → State → Type 0
Same outputs others outcome came after other = (outputs ≡ others) × (outcome ≡ came) × (after ≡ other)

-- what comes of a cell by its last step is one thing
outcome_once : (next : Next) (one other : Outcome) → IsOutcome next one → IsOutcome next other → one ≡ other
outcome_once More one other is was = absurd is
outcome_once (Done value) one other is was = is ∙ sym was
outcome_once (Failed fault) one other is was = is ∙ sym was

-- a list without elements is empty
nothing : {A : Type 0} (xs : List A) → length xs ≡ 0 → xs ≡ []
nothing [] none = refl
nothing (x ∷ xs) none = absurd (omega arith)

-- what a step wrote, with what was written behind it, is the same where both parts are
wrote_once : (step also : Stepped) (steps others : List Stepped) (last final : List Output) → step ≡ also
    → outputs_of steps ++ last ≡ outputs_of others ++ final
    → outputs_of (step ∷ steps) ++ last ≡ outputs_of (also ∷ others) ++ final
wrote_once step also steps others last final same wrote =
    append_assoc step.outputs (outputs_of steps) last
    ∙ ap (λ l. step.outputs ++ l) wrote
    ∙ ap (λ (s : Stepped). s.outputs ++ (outputs_of others ++ final)) same
    ∙ sym (append_assoc also.outputs (outputs_of others) final)

module _ {State Cell : Type 0} (m : Meaning State Cell) (laws : HasOneValue m) where
  -- from one state and cell on, a course ends in one way
  ends_once : (ending : Ending State) (state : State) (cell : Cell) (more count : ℕ) (last final : List Output)
      (outcome came : Outcome) (after other : State) → Ends m ending more state cell last outcome after
      → Ends m ending count state cell final came other → more ≡ count → Same last final outcome came after other
  ends_once own state cell more count last final outcome came after other (inl (none, one)) (inl (none', two)) long =
      (one.quiet ∙ sym two.quiet, one.outcome_is ∙ sym two.outcome_is, one.same ∙ sym two.same)
  ends_once own state cell more count last final outcome came after other (inl (none, one)) (inr (some, two)) long =
      absurd (omega arith)
  ends_once own state cell more count last final outcome came after other (inr (some, one)) (inl (none, two)) long =
      absurd (omega arith)
  ends_once own state cell more count last final outcome came after other (inr (some, one)) (inr (also, two)) long =
      let (step, left, rest) =
      laws.one_step state cell one.step two.step after other one.left two.left one.runs two.runs in (
        one.outputs_are ∙ ap (λ (s : Stepped). s.outputs) step ∙ sym two.outputs_are,
        outcome_once two.step.next outcome came
            (subst (λ (s : Stepped). IsOutcome s.next outcome) step one.outcome_is) two.outcome_is,
        left,
      )
  ends_once interrupted state cell more count last final outcome came after other (none, one) (none', two) long =
      (one.quiet ∙ sym two.quiet, one.outcome_is ∙ sym two.outcome_is, one.same ∙ sym two.same)
  ends_once (memory left) state cell more count last final outcome came after other (none, is, one) (none', was, two)
      long =
      (one.quiet ∙ sym two.quiet, one.outcome_is ∙ sym two.outcome_is, sym is ∙ was)

  -- a course doesn't end before a step that leaves more to run
  ends_before : (ending : Ending State) (state : State) (cell : Cell) (more : ℕ) (last : List Output)
      (outcome : Outcome) (after : State) → Ends m ending more state cell last outcome after → (step : Stepped)
      (next : State) (rest : Cell) → m.runs state cell step next rest → step.next ≡ More → 0 < more → ⊥
  ends_before own state cell more last outcome after (inl (none, one)) step next rest runs goes_on some =
      omega arith
  ends_before own state cell more last outcome after (inr (is, one)) step next rest runs goes_on some =
      let (same, left, cells) = laws.one_step state cell one.step step after next one.left rest one.runs runs in
      subst (λ n. IsOutcome n outcome) (ap (λ (s : Stepped). s.next) same ∙ goes_on) one.outcome_is
  ends_before interrupted state cell more last outcome after (none, one) step next rest runs goes_on some = omega arith
  ends_before (memory left) state cell more last outcome after (none, is, one) step next rest runs goes_on some =
      omega arith

  -- what runs from one state and cell on, in one number of steps, comes to one thing
  run_once : (ending : Ending State) (steps others : List Stepped) (state : State) (cell : Cell) (at to : State)
      (left rest : Cell) (more count : ℕ) (last final : List Output) (outcome came : Outcome) (after other : State)
      → Goes m state cell steps at left → Goes m state cell others to rest
      → Ends m ending more at left last outcome after → Ends m ending count to rest final came other
      → length steps + more ≡ length others + count
      → Same (outputs_of steps ++ last) (outputs_of others ++ final) outcome came after other
  run_once ending [] [] state cell at to left rest more count last final outcome came after other (a, b) (c, d) ends
      finishes long =
      ends_once ending state cell more count last final outcome came after other
      (subst (λ s. Ends m ending more s cell last outcome after) a
      (subst (λ l. Ends m ending more at l last outcome after) b ends))
      (subst (λ s. Ends m ending count s cell final came other) c
      (subst (λ l. Ends m ending count to l final came other) d finishes)) (omega arith)
  run_once ending [] (also ∷ others) state cell at to left rest more count last final outcome came after other (a, b)
      (next, between, runs, goes_on, goes) ends finishes long =
      absurd (ends_before ending state cell more last outcome after
      (subst (λ s. Ends m ending more s cell last outcome after) a
      (subst (λ l. Ends m ending more at l last outcome after) b ends)) also next between runs goes_on (omega arith))
  run_once ending (step ∷ steps) [] state cell at to left rest more count last final outcome came after other
      (next, between, runs, goes_on, goes) (c, d) ends finishes long =
      absurd (ends_before ending state cell count final came other
      (subst (λ s. Ends m ending count s cell final came other) c
      (subst (λ l. Ends m ending count to l final came other) d finishes)) step next between runs goes_on
      (omega arith))
  run_once ending (step ∷ steps) (also ∷ others) state cell at to left rest more count last final outcome came after
      other (next, between, runs, goes_on, goes) (then, behind, steps_so, goes_so, ran) ends finishes long =
      let (same, state_is, cell_is) = laws.one_step state cell step also next then between behind runs steps_so in
      let (wrote, came_so, left_so) = run_once ending steps others next between at to left rest more count last final
      outcome came after other goes
      (subst (λ s. Goes m s between others to rest) (sym state_is)
      (subst (λ l. Goes m then l others to rest) (sym cell_is) ran)) ends finishes (omega arith) in
      (wrote_once step also steps others last final same wrote, came_so, left_so)

  -- a cell comes to one thing by one course
  cell_once : (state : State) (cell : Cell) (course : Course State) (outputs others : List Output)
      (outcome came : Outcome) (after other : State) → CellRuns m state cell course outputs outcome after
      → CellRuns m state cell course others came other → Same outputs others outcome came after other
  cell_once state cell course outputs others outcome came after other one two =
      let (wrote, came_so, left_so) = run_once course.ending one.steps two.steps state cell one.at two.at one.left
      two.left one.more two.more one.last two.last outcome came after other one.goes two.goes one.ends two.ends
      (sym one.steps_are ∙ two.steps_are) in
      (one.outputs_are ∙ wrote ∙ sym two.outputs_are, came_so, left_so)

  -- a cell whose first step found no memory came to the same as a text that no memory was found to read, by one course
  unread_runs : (state at : State) (cell : Cell) (course : Course State) (outputs others : List Output)
      (outcome came : Outcome) (after other : State) → IsUnread state course outputs outcome after
      → CellRuns m at cell course others came other → Same outputs others outcome came after other
  unread_runs state at cell course outputs others outcome came after other one two =
      let none : course.steps ≡ 0 = ap (λ (c : Course State). c.steps) one.course_is in
      let ending : course.ending ≡ memory state = ap (λ (c : Course State). c.ending) one.course_is in
      let are = two.steps_are in
      let empty : two.steps ≡ [] = nothing two.steps (omega arith) in
      let (count_is, is, broken) = subst (λ e. Ends m e two.more two.at two.left two.last came other) ending two.ends in
      let quiet : others ≡ [] = two.outputs_are ∙ ap (λ s. outputs_of s ++ two.last) empty ∙ broken.quiet in
      (one.quiet ∙ sym quiet, one.outcome_is ∙ sym broken.outcome_is, one.same ∙ is)

  -- what was begun and ran comes to one thing by one course
  begun_once : (state : State) (code : List ℕ) (course : Course State) (outputs others : List Output)
      (outcome came : Outcome) (after other : State) → BeginsCell m state code course outputs outcome after
      → BeginsCell m state code course others came other → Same outputs others outcome came after other
  begun_once state code course outputs others outcome came after other one two =
      let (begun, at_is) = laws.one_begin state code (Ok one.cell) (Ok two.cell) one.at two.at one.begins two.begins in
      let cell_is : one.cell ≡ two.cell = cc in
      cell_once one.at one.cell course outputs others outcome came after other one.runs
      (subst (λ s. CellRuns m s one.cell course others came other) (sym at_is)
      (subst (λ l. CellRuns m two.at l course others came other) (sym cell_is) two.runs))

  -- the cell of a text comes to one thing by one course
  text_once : (state : State) (code : List ℕ) (course : Course State) (outputs others : List Output)
      (outcome came : Outcome) (after other : State) → TextRuns m state code course outputs outcome after
      → TextRuns m state code course others came other → Same outputs others outcome came after other
  text_once state code course outputs others outcome came after other (inl one) (inl two) =
      let (refused, left) =
      laws.one_begin state code (Err one.fault) (Err two.fault) after other one.refused two.refused in
      let fault : one.fault ≡ two.fault = cc in
      (one.quiet ∙ sym two.quiet, one.outcome_is ∙ ap (λ f. Err f) fault ∙ sym two.outcome_is, left)
  text_once state code course outputs others outcome came after other (inl one) (inr (inl two)) =
      let e : own ≡ memory state = ap (λ (c : Course State). c.ending) (sym one.course_is ∙ two.course_is) in
      absurd (cc)
  text_once state code course outputs others outcome came after other (inl one) (inr (inr two)) =
      let e = (laws.one_begin state code (Err one.fault) (Ok two.cell) after two.at one.refused two.begins).0 in
      absurd (cc)
  text_once state code course outputs others outcome came after other (inr (inl one)) (inl two) =
      let e : own ≡ memory state = ap (λ (c : Course State). c.ending) (sym two.course_is ∙ one.course_is) in
      absurd (cc)
  text_once state code course outputs others outcome came after other (inr (inl one)) (inr (inl two)) =
      (one.quiet ∙ sym two.quiet, one.outcome_is ∙ sym two.outcome_is, one.same ∙ sym two.same)
  text_once state code course outputs others outcome came after other (inr (inl one)) (inr (inr two)) =
      unread_runs state two.at two.cell course outputs others outcome came after other one two.runs
  text_once state code course outputs others outcome came after other (inr (inr one)) (inl two) =
      let e = (laws.one_begin state code (Err two.fault) (Ok one.cell) other one.at two.refused one.begins).0 in
      absurd (cc)
  text_once state code course outputs others outcome came after other (inr (inr one)) (inr (inl two)) =
      let (wrote, came_so, left_so) =
      unread_runs state one.at one.cell course others outputs came outcome other after two one.runs in
      (sym wrote, sym came_so, sym left_so)
  text_once state code course outputs others outcome came after other (inr (inr one)) (inr (inr two)) =
      begun_once state code course outputs others outcome came after other one two

  -- a cell publishes one thing, or nothing where it is silent
  unless_once : (silent : Bool) (code : List ℕ) (count : ℕ) (state : State) (course : Course State)
      (one other : List Publication) → PublishesUnless silent m code count state course one
      → PublishesUnless silent m code count state course other → one ≡ other
  unless_once true code count state course one other is was = is ∙ sym was
  unless_once false code count state course one other is was =
      let (wrote, came, left) = text_once state code course is.outputs was.outputs is.outcome was.outcome is.after
      was.after is.runs was.runs in
      is.all ∙ ap (λ l. ExecuteInput code count ∷ (map publication_of l ++ last_of count is.outcome)) wrote
      ∙ ap (λ o. ExecuteInput code count ∷ (map publication_of was.outputs ++ last_of count o)) came ∙ sym was.all

  -- by one course one thing is published of a request
  pub publishes_once : PublishesOnce m
  publishes_once (Says publication reply order) state count course one other is was = is ∙ sym was
  publishes_once (Looks look) state count course one other is was = is ∙ sym was
  publishes_once (Runs code silent counts expressions) state count course one other is was =
      unless_once silent code (count_after counts count) state course one other is was
  publishes_once (Refuses kind ename evalue) state count course one other is was = is ∙ sym was
  publishes_once Unread state count course one other is was = is ∙ sym was

  -- user expressions come to one list of values, and leave one state
  values_once : (expressions : List (List ℕ × List ℕ)) (state : State) (one other : List (List ℕ × Shown))
      (after then : State) → Evaluates m state expressions one after → Evaluates m state expressions other then
      → (one ≡ other) × (after ≡ then)
  values_once [] state one other after then (none, same) (none', stays) = (none ∙ sym none', same ∙ sym stays)
  values_once (expression ∷ expressions) state one other after then (answer, next, rest, runs, is, more)
      (reply, at, others, ran, was, on) =
      let (answered, left) = laws.one_evaluation state expression.1 answer reply next at runs ran in
      let (values, stays) = values_once expressions next rest others after then more
      (subst (λ s. Evaluates m s expressions others then) (sym left) on) in (
        is ∙ ap (λ a. (expression.0, shown_of a) ∷ rest) answered
            ∙ ap (λ l. (expression.0, shown_of reply) ∷ l) values ∙ sym was,
        stays,
      )

  -- what came of a cell has one reply
  reply_once : (expressions : List (List ℕ × List ℕ)) (count : ℕ) (outcome : Outcome) (state : State)
      (one other : Answer State) → RepliesCell m expressions count outcome state one
      → RepliesCell m expressions count outcome state other → one ≡ other
  reply_once expressions count (Ok value) state one other is was =
      let (values, left) =
      values_once expressions state is.values was.values is.after was.after is.evaluates was.evaluates in
      is.all ∙ ap (λ v. plain is.after count (Some (tells.ExecuteOk count v))) values
      ∙ ap (λ s. plain s count (Some (tells.ExecuteOk count was.values))) left ∙ sym was.all
  reply_once expressions count (Err fault) state one other is was = is ∙ sym was

  -- what the language is asked has one reply
  found_once : (look : Look) (state : State) (one other : Reply) → Finds m state look one → Finds m state look other
      → one ≡ other
  found_once looks.Info state one other (info, tells_so, is) (also, told, was) =
      is ∙ ap (λ i. reply_by info_reply i) (laws.one_info state info also tells_so told) ∙ sym was
  found_once (looks.Completion code cursor) state one other (words, completes, is) (also, completed, was) =
      is ∙ ap (λ w. reply_by completion_reply w)
      (laws.one_completion state code cursor words also completes completed) ∙ sym was
  found_once (looks.Inspection code cursor) state one other (text, inspects, is) (also, inspected, was) =
      is ∙ ap (λ t. reply_by tells.Inspect t)
      (laws.one_inspection state code cursor text also inspects inspected) ∙ sym was
  found_once (looks.Completeness code) state one other (whole, judges, is) (also, judged, was) =
      is ∙ ap (λ w. reply_by completeness_reply w) (laws.one_judgement state code whole also judges judged) ∙ sym was

  -- by one course a request is answered one thing
  pub answers_once : AnswersOnce m
  answers_once (Says publication reply order) state count course one other is was = is ∙ sym was
  answers_once (Looks look) state count course one other (reply, finds, is) (also, found, was) =
      is ∙ ap (λ r. plain state count (Some r)) (found_once look state reply also finds found) ∙ sym was
  answers_once (Runs code silent counts expressions) state count course one other is was =
      let (wrote, came, left) = text_once state code course is.outputs was.outputs is.outcome was.outcome is.after
      was.after is.runs was.runs in
      reply_once expressions (count_after counts count) is.outcome is.after one other is.replies
      (subst (λ o. RepliesCell m expressions (count_after counts count) o is.after other) (sym came)
      (subst (λ s. RepliesCell m expressions (count_after counts count) was.outcome s other) (sym left)
      was.replies))
  answers_once (Refuses kind ename evalue) state count course one other is was = is ∙ sym was
  answers_once Unread state count course one other is was = absurd is
