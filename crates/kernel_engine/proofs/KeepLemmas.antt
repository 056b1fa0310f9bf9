-- What an engine keeps: its history grows by blocks.
use Rattle.std.proofs.Common.{arith, ◌≡◌, ◌⊎◌, inl, inr, ℕ, ◌≤◌, List, [], ◌∷◌, ◌++◌, map, Bool, true, false}
use Rattle.std.proofs.Common.{Option, Some, None, option_to_list, IfSome, MatchBool, MatchResult, Result, Ok, Err}
use Rattle.std.proofs.Common.{◌^◌, ◌+◌}
use Rattle.std.proofs.Common.{refl, sym, ◌∙◌, ap, subst, append_assoc}
use Rattle.std.proofs.lemmas.List.{append-nil, map-append}
use Rattle.interp_core.specs.Interpreter.{Meaning}
use Rattle.iopub_event.specs.declared.event.Event.{Event}
use Rattle.iopub_event.specs.declared.event.Event.TheVariants as events
use Rattle.iopub_queue.specs.Entries.{Entry}
use Rattle.iopub_queue.specs.Values as queue
use Rattle.jmsg_envelope.specs.declared.envelope.Envelope.{Envelope}
use Rattle.interp_core.specs.declared.fault.InterpFault.TheVariants.{OutOfMemory}
use Rattle.jmsg_types.specs.declared.publication.Publication.{Publication}
use Rattle.jmsg_types.specs.declared.publication.Publication.TheVariants.{ExecuteInput}
use Rattle.kernel_engine.specs.declared.does.Does.{Does}
use Rattle.kernel_engine.specs.declared.does.Does.TheVariants.{Says, Looks, Runs, Refuses, Unread}
use Rattle.kernel_engine.specs.declared.fault.EngineFault.{EngineFault}
use Rattle.kernel_engine.specs.declared.fault.EngineFault.TheVariants.{OwedIdle, Memory, Worn}
use Rattle.kernel_engine.specs.declared.response.Response.{Response}
use Rattle.kernel_engine.specs.declared.parts.Parts.{Parts}
use Rattle.kernel_engine.specs.declared.side.Side.{Side}
use Rattle.kernel_engine.specs.Comes.{message_comes}
use Rattle.kernel_engine.specs.Block.{Message, Sealing, opened_block}
use Rattle.kernel_engine.specs.Course.{Course, memory}
use Rattle.kernel_engine.specs.Growth.{item_of, sealing_of}
use Rattle.kernel_engine.specs.Handles.{AddsBlock, HandlesCut, HandlesErr, HandlesNot, HandlesOk, RequestLeaves, Pays}
use Rattle.kernel_engine.specs.Handles.{PaysNot, owed_items}
use Rattle.kernel_engine.specs.Publications.{Publishes, count_after, last_of}
use Rattle.kernel_engine.specs.Last.{HandlesLast, HandlesLastErr}
use Rattle.kernel_engine.specs.WellBlocked.{AreClosed, AreCuts, Began, Block, BlockIsCut, KeepsBlocks, Owes}
use Rattle.kernel_engine.specs.WellBlocked.{Rise, first_number, front_of, heading_of, idle_of, messages_of_block}
use Rattle.kernel_engine.specs.WellBlocked.{number_past}
use Rattle.kernel_engine.specs.WellBlocked.{said_behind, where_published}
use Rattle.kernel_engine.specs.World.{World}
use Rattle.kernel_engine.proofs.HandleLemmas.{sealing_by, handled_count, cut_count}

-- blocks of which the latest is closed, where its idle was owed
abbrev paid : {W : Type 0} → Option (Event W) → List Block → List Block
paid None blocks = blocks
paid (Some owed) [] = []
paid (Some owed) (block ∷ earlier) = record block { closed = true } ∷ earlier

module _ {W : Type 0} (sealing : Sealing) where
  -- the idle that was owed closes its block
  said_paid : (front : List Message) (owed : Option (Event W)) (blocks : List Block) → Owes sealing owed blocks
      → map (item_of {W = W}) (said_behind sealing front (paid owed blocks))
      ≡ map item_of (said_behind sealing front blocks) ++ owed_items owed
  said_paid front None blocks owes = sym (append-nil _)
  said_paid front (Some owed) [] owes = absurd owes
  said_paid front (Some owed) (block ∷ earlier) (still, is, closed) =
      let before = said_behind sealing front earlier in
      let inside = opened_block sealing (heading_of block) block.number block.publications in
      let last : Some owed ∷ [] ≡ map (item_of {W = W}) (idle_of sealing block ∷ []) = ap (λ o. Some o ∷ []) is in
      let none : where_published block.closed (idle_of sealing block) ≡ [] =
      ap (λ b. where_published b (idle_of sealing block)) still in
      let bare : messages_of_block sealing block ≡ inside = ap (λ l. inside ++ l) none ∙ append-nil inside in
      map-append item_of before (inside ++ idle_of sealing block ∷ [])
      ∙ ap (λ l. map item_of before ++ l) (map-append item_of inside (idle_of sealing block ∷ []))
      ∙ sym (append_assoc (map item_of before) (map item_of inside) (map item_of (idle_of sealing block ∷ [])))
      ∙ ap (λ l. l ++ map item_of (idle_of sealing block ∷ [])) (sym (map-append item_of before inside))
      ∙ ap (λ l. map item_of (before ++ inside) ++ l) (sym last)
      ∙ ap (λ l. map item_of (before ++ l) ++ Some owed ∷ []) (sym bare)

  -- all of its blocks are closed then
  closed_paid : (owed : Option (Event W)) (blocks : List Block) → Owes sealing owed blocks
      → AreClosed (paid owed blocks)
  closed_paid None blocks owes = owes
  closed_paid (Some owed) [] owes = tt
  closed_paid (Some owed) (block ∷ earlier) (still, is, closed) = (refl, closed)

-- the numbers stay
rise_paid : {W : Type 0} (owed : Option (Event W)) (blocks : List Block) (first next : ℕ) → Rise first blocks next
    → Rise first (paid owed blocks) next
rise_paid None blocks first next rise = rise
rise_paid (Some owed) [] first next rise = rise
rise_paid (Some owed) (block ∷ earlier) first next rise = rise

-- what stands in the blocks stays
cuts_paid : {W State Cell : Type 0} (m : Meaning State Cell) (dated : List ℕ → Bool) (side : Side)
    (owed : Option (Event W)) (blocks : List Block) → AreCuts m dated side blocks
    → AreCuts m dated side (paid owed blocks)
cuts_paid m dated side None blocks cuts = cuts
cuts_paid m dated side (Some owed) [] cuts = cuts
cuts_paid m dated side (Some owed) (block ∷ earlier) (cut, cuts) = (
  record {
    request = cut.request;
    parent = cut.parent;
    dated = cut.dated;
    state = cut.state;
    count = cut.count;
    course = cut.course;
    whole = cut.whole;
    rest = cut.rest;
    publishes = cut.publishes;
    front = cut.front;
  },
  cuts,
)

-- the course of a cell that no memory was found to read
abbrev unread : {State : Type 0} → State → Course State
unread state = record { steps = 0; ending = memory state }

-- of any request something is published by that course, if only nothing
some_published : {State Cell : Type 0} (m : Meaning State Cell) (does : Does) (state : State)
    (count : ℕ) → (whole : List Publication) × Publishes m does state count (unread state) whole
some_published m (Says publication reply order) state count = (option_to_list publication, refl)
some_published m (Looks look) state count = ([], refl)
some_published m (Runs code true counts expressions) state count = ([], refl)
some_published m (Runs code false counts expressions) state count = (
  ExecuteInput code (count_after counts count) ∷ last_of (count_after counts count) (Err OutOfMemory),
  record {
    outputs = [];
    outcome = Err OutOfMemory;
    after = state;
    runs = inr (inl (record { course_is = refl; quiet = refl; outcome_is = refl; same = refl }));
    all = refl;
  },
)
some_published m (Refuses kind ename evalue) state count = ([], refl)
some_published m Unread state count = ([], refl)

module _ {I P S W Cell : Type 0} (world : World I P S W Cell)
    (on : (a b c : P) → world.sink.is_same a b → world.sink.is_same b c → world.sink.is_same a c)
    (stays : (a b : P) → world.sink.is_same a b → world.sink.may_refuse a → world.sink.may_refuse b) where
  -- nothing of a request is published between busy and idle
  no_cut : (dated : List ℕ → Bool) (side : Side) (state : I) (request : Envelope) (block : Block)
      → block.parent ≡ request.header → dated block.date ≡ true → block.publications ≡ []
      → BlockIsCut world.language dated side block
  no_cut dated side state request block parent is none =
      let (whole, publishes) = some_published world.language (message_comes side request) state 0 in
      record {
        request = request;
        parent = parent;
        dated = is;
        state = state;
        count = 0;
        course = unread state;
        whole = whole;
        rest = whole;
        publishes = publishes;
        front = ap (λ l. l ++ whole) (sym none);
      }

  -- the owed idle of what a block leaves
  owes_added : (block : Block) (old new : Parts I P S W) (blocks : List Block)
      → ((block.closed ≡ true) × (new.owed ≡ None))
      ⊎ ((block.closed ≡ false)
      × (new.owed ≡ Some (events.Message (idle_of (sealing_of world.stamp old.publishing) block)))
      × world.sink.may_refuse old.publishing.sink)
      → AreClosed blocks
      → Owes (sealing_of world.stamp old.publishing) new.owed (block ∷ blocks)
  owes_added block old new blocks (inl (closed, none)) others =
      subst (λ o. Owes (sealing_of world.stamp old.publishing) o (block ∷ blocks)) (sym none) (closed, others)
  owes_added block old new blocks (inr (still, some, refused)) others =
      subst (λ o. Owes (sealing_of world.stamp old.publishing) o (block ∷ blocks)) (sym some)
      (still, refl, others)

  -- an idle is owed only where the sink may refuse
  refused_added : (block : Block) (old new : Parts I P S W)
      → ((block.closed ≡ true) × (new.owed ≡ None))
      ⊎ ((block.closed ≡ false)
      × (new.owed ≡ Some (events.Message (idle_of (sealing_of world.stamp old.publishing) block)))
      × world.sink.may_refuse old.publishing.sink)
      → world.sink.is_same old.publishing.sink new.publishing.sink
      → IfSome new.owed (λ owed. world.sink.may_refuse new.publishing.sink)
  refused_added block old new (inl (closed, none)) same =
      subst (λ o. IfSome o (λ owed. world.sink.may_refuse new.publishing.sink)) (sym none) tt
  refused_added block old new (inr (still, some, refused)) same =
      subst (λ o. IfSome o (λ owed. world.sink.may_refuse new.publishing.sink)) (sym some)
      (stays old.publishing.sink new.publishing.sink same refused)

  -- a block was added
  keeps_added : (block : Block) (old new : Parts I P S W)
      → KeepsBlocks world old
      → AddsBlock world block old new
      → BlockIsCut world.language (world.stamp.is_date (world.stamp.meaning old.publishing.stamp)) old.side block
      → number_past block ≤ new.publishing.next → new.count ≤ new.publishing.next → new.publishing.next ≤ 2 ^ 63 + 1
      → KeepsBlocks world new
  keeps_added block old new keeps adds cut rises counted last =
      let sealing = sealing_of world.stamp old.publishing in
      let seals : sealing_of world.stamp new.publishing ≡ sealing =
      sealing_by world on new.publishing old.publishing adds.signer
      adds.meant in
      let was = keeps.blocked in
      let front = front_of sealing was.history.started in
      let blocks = paid old.owed was.history.blocks in
      let dated = world.stamp.is_date (world.stamp.meaning old.publishing.stamp) in
      record {
        blocked = record {
          history = record { started = was.history.started; blocks = block ∷ blocks };
          items_are = subst (λ s. world.sink.items new.publishing.sink
              ≡ map item_of (said_behind s (front_of s was.history.started) (block ∷ blocks))) (sym seals)
              (adds.items ∙ ap (λ l. l ++ (owed_items old.owed ++ map item_of (messages_of_block sealing block)))
              was.items_are
              ∙ sym (append_assoc (map item_of (said_behind sealing front was.history.blocks)) (owed_items old.owed)
              (map item_of (messages_of_block sealing block)))
              ∙ ap (λ l. l ++ map item_of (messages_of_block sealing block))
              (sym (said_paid sealing front old.owed was.history.blocks was.owes))
              ∙ sym (map-append item_of (said_behind sealing front blocks) (messages_of_block sealing block)));
          began = subst (λ side. Began (world.stamp.is_date (world.stamp.meaning new.publishing.stamp)) side
              was.history.started)
              (sym adds.side)
              (subst (λ by. Began (world.stamp.is_date by) old.side was.history.started) (sym adds.meant) was.began);
          cuts = subst (λ side. AreCuts world.language (world.stamp.is_date (world.stamp.meaning
              new.publishing.stamp)) side (block ∷ blocks))
              (sym adds.side)
              (subst (λ by. AreCuts world.language (world.stamp.is_date by) old.side (block ∷ blocks)) (sym adds.meant)
              (cut, cuts_paid world.language dated old.side old.owed was.history.blocks was.cuts));
          rise = (
            rises,
            subst (λ n. Rise (first_number was.history.started) blocks n) (sym adds.number)
                (rise_paid old.owed was.history.blocks _ _ was.rise),
          );
          owes = subst (λ s. Owes s new.owed (block ∷ blocks)) (sym seals)
              (owes_added block old new blocks adds.owed (closed_paid sealing old.owed was.history.blocks was.owes));
        };
        refused = refused_added block old new adds.owed adds.same;
        counted = counted;
        last = last;
      }

  -- a request was handled
  pub keeps_ok : (may : Type 0) (request : Envelope) (old new : Parts I P S W) (handled : Response)
      → KeepsBlocks world old
      → HandlesOk world may request old handled new
      → KeepsBlocks world new
  keeps_ok may request old new handled keeps ok =
      let next = ok.next in
      let rises : number_past ok.block ≤ new.publishing.next = omega (arith, next) in
      keeps_added ok.block old new keeps ok.adds (record {
        request = request;
        parent = ok.parent;
        dated = ok.adds.dated;
        state = old.interp;
        count = old.count;
        course = ok.course;
        whole = ok.block.publications;
        rest = [];
        publishes = ok.publishes;
        front = sym (append-nil ok.block.publications);
      }) rises
      (handled_count world on may request old new handled keeps.counted
      ok) ok.last

  -- what stands in a block that was cut
  left_cut : (may : Type 0) (request : Envelope) (block : Block) (old new : Parts I P S W)
      → block.parent ≡ request.header → world.stamp.is_date (world.stamp.meaning old.publishing.stamp) block.date ≡ true
      → RequestLeaves world may (message_comes old.side request) old new
      block.publications
      → BlockIsCut world.language (world.stamp.is_date (world.stamp.meaning old.publishing.stamp)) old.side block
  left_cut may request block old new parent dated (inl (state, count, none)) =
      no_cut (world.stamp.is_date (world.stamp.meaning old.publishing.stamp)) old.side old.interp request block parent
      dated none
  left_cut may request block old new parent dated (inr (course, whole, behind, publishes, front, leaves, ending)) =
      record {
        request = request;
        parent = parent;
        dated = dated;
        state = old.interp;
        count = old.count;
        course = course;
        whole = whole;
        rest = behind;
        publishes = publishes;
        front = front;
      }

  -- a cut block was added
  keeps_cut : (may : Type 0) (request : Envelope) (old new : Parts I P S W)
      → KeepsBlocks world old
      → HandlesCut world may request old new
      → KeepsBlocks world new
  keeps_cut may request old new keeps cut =
      let next = cut.next in
      let rises : number_past cut.block ≤ new.publishing.next = omega (arith, next) in
      keeps_added cut.block old new keeps cut.adds
      (left_cut may request cut.block old new cut.parent cut.adds.dated cut.left) rises
      (cut_count world on may request old new keeps.counted cut)
      cut.last

  -- only the idle that was owed was published
  keeps_paid : (old new : Parts I P S W) → KeepsBlocks world old
      → world.sink.items new.publishing.sink ≡ world.sink.items old.publishing.sink ++ owed_items old.owed
      → new.owed ≡ None
      → new.side ≡ old.side → new.publishing.signer ≡ old.publishing.signer
      → world.stamp.meaning new.publishing.stamp ≡ world.stamp.meaning old.publishing.stamp
      → new.publishing.next ≡ old.publishing.next → new.count ≡ old.count
      → KeepsBlocks world new
  keeps_paid old new keeps items owed side signer meant next count =
      let sealing = sealing_of world.stamp old.publishing in
      let seals : sealing_of world.stamp new.publishing ≡ sealing =
      sealing_by world on new.publishing old.publishing signer
      meant in
      let was = keeps.blocked in
      let front = front_of sealing was.history.started in
      let blocks = paid old.owed was.history.blocks in
      let dated = world.stamp.is_date (world.stamp.meaning old.publishing.stamp) in
      let counted = keeps.counted in
      let last = keeps.last in
      record {
        blocked = record {
          history = record { started = was.history.started; blocks = blocks };
          items_are = subst (λ s. world.sink.items new.publishing.sink
              ≡ map item_of (said_behind s (front_of s was.history.started) blocks)) (sym seals)
              (items ∙ ap (λ l. l ++ owed_items old.owed) was.items_are
              ∙ sym (said_paid sealing front old.owed was.history.blocks was.owes));
          began = subst (λ s. Began (world.stamp.is_date (world.stamp.meaning new.publishing.stamp)) s
              was.history.started) (sym side)
              (subst (λ by. Began (world.stamp.is_date by) old.side was.history.started) (sym meant) was.began);
          cuts = subst (λ s. AreCuts world.language (world.stamp.is_date (world.stamp.meaning new.publishing.stamp)) s
              blocks) (sym side)
              (subst (λ by. AreCuts world.language (world.stamp.is_date by) old.side blocks) (sym meant)
              (cuts_paid world.language dated old.side old.owed was.history.blocks was.cuts));
          rise = subst (λ n. Rise (first_number was.history.started) blocks n) (sym next)
              (rise_paid old.owed was.history.blocks _ _ was.rise);
          owes = subst (λ o. Owes (sealing_of world.stamp new.publishing) o blocks) (sym owed)
              (closed_paid sealing old.owed was.history.blocks was.owes);
        };
        refused = subst (λ o. IfSome o (λ owed. world.sink.may_refuse new.publishing.sink)) (sym owed) tt;
        counted = omega (arith, counted, next, count);
        last = omega (arith, last, next);
      }

  -- nothing of the request was published
  keeps_not : (old new : Parts I P S W) → KeepsBlocks world old
      → HandlesNot world old new
      → KeepsBlocks world new
  keeps_not old new keeps none = keeps_paid old new keeps none.items
      (ap (λ (p : Parts I P S W). p.owed) none.rest) (ap (λ (p : Parts I P S W). p.side) none.rest)
      (ap (λ (p : Parts I P S W). p.publishing.signer) none.rest) none.meant
      (ap (λ (p : Parts I P S W). p.publishing.next) none.rest) (ap (λ (p : Parts I P S W). p.count) none.rest)

  -- an owed idle was published
  pub keeps_pays : (old new : Parts I P S W) → KeepsBlocks world old
      → Pays world.sink old new → KeepsBlocks world new
  keeps_pays old new keeps pays = keeps_paid old new keeps pays.items
      (ap (λ (p : Parts I P S W). p.owed) pays.rest) (ap (λ (p : Parts I P S W). p.side) pays.rest)
      (ap (λ (p : Parts I P S W). p.publishing.signer) pays.rest)
      (ap (λ (p : Parts I P S W). world.stamp.meaning p.publishing.stamp) pays.rest)
      (ap (λ (p : Parts I P S W). p.publishing.next) pays.rest) (ap (λ (p : Parts I P S W). p.count) pays.rest)

  -- the sink may refuse, whether an idle is owed or not
  still_refused : (owed : Option (Event W)) (new : Parts I P S W) → world.sink.may_refuse new.publishing.sink
      → IfSome owed (λ o. world.sink.may_refuse new.publishing.sink)
  still_refused None new may = tt
  still_refused (Some owed) new may = may

  -- only the sink was asked, in vain
  pub keeps_unpaid : (old new : Parts I P S W) → KeepsBlocks world old
      → PaysNot world.sink old new → KeepsBlocks world new
  keeps_unpaid old new keeps vain =
      let asked = vain.asked in
      let was = keeps.blocked in
      subst (λ (p : Parts I P S W). KeepsBlocks world p) (sym asked.rest)
      (record {
        blocked = record {
          history = was.history;
          items_are = asked.items ∙ was.items_are;
          began = was.began;
          cuts = was.cuts;
          rise = was.rise;
          owes = was.owes;
        };
        refused = still_refused old.owed new (stays _ _ asked.same vain.refused);
        counted = keeps.counted;
        last = keeps.last;
      })

  -- a request was refused
  pub keeps_err : (may : Type 0) (request : Envelope) (old new : Parts I P S W) (fault : EngineFault)
      → KeepsBlocks world old
      → HandlesErr world may request old fault new
      → KeepsBlocks world new
  keeps_err may request old new (OwedIdle back) keeps err = keeps_unpaid old new keeps err.owes
  keeps_err may request old new Memory keeps (inl none) = keeps_not old new keeps none
  keeps_err may request old new Memory keeps (inr cut) = keeps_cut may request old new keeps cut
  keeps_err may request old new Worn keeps (worn, same) =
      subst (λ (p : Parts I P S W). KeepsBlocks world p) (sym same) keeps

  -- a request was handled, or it was refused
  pub keeps_handled : (may : Type 0) (request : Envelope) (old new : Parts I P S W)
      (result : Result Response EngineFault) → KeepsBlocks world old
      → MatchResult result
      (λ handled. HandlesOk world may request old handled new)
      (λ fault. HandlesErr world may request old fault new)
      → KeepsBlocks world new
  keeps_handled may request old new (Ok handled) keeps ok = keeps_ok may request old new handled keeps ok
  keeps_handled may request old new (Err fault) keeps err = keeps_err may request old new fault keeps err

  -- a request whose idle goes behind a word was handled, or it was refused
  pub keeps_last : (publisher : P → queue.Publishing (Event W)) (word : List (Entry (Event W))) (may : Type 0)
      (request : Envelope) (old new : Parts I P S W) (result : Result Response EngineFault) → KeepsBlocks world old
      → MatchResult result
      (λ handled. HandlesLast world publisher may request word old handled new)
      (λ fault. HandlesLastErr world publisher may request word old fault new)
      → KeepsBlocks world new
  keeps_last publisher word may request old new (Ok handled) keeps ok =
      keeps_ok may request old new handled keeps ok.handles
  keeps_last publisher word may request old new (Err (OwedIdle back)) keeps err = keeps_unpaid old new keeps err.owes
  keeps_last publisher word may request old new (Err Memory) keeps (inl none) = keeps_not old new keeps none
  keeps_last publisher word may request old new (Err Memory) keeps (inr last) =
      keeps_cut may request old new keeps last.cut
  keeps_last publisher word may request old new (Err Worn) keeps (worn, same) =
      subst (λ (p : Parts I P S W). KeepsBlocks world p) (sym same) keeps

  -- an owed idle was tried once more
  pub keeps_closed : (old new : Parts I P S W) (done : Bool)
      → KeepsBlocks world old
      → MatchBool done (Pays world.sink old new) (PaysNot world.sink old new)
      → KeepsBlocks world new
  keeps_closed old new true keeps pays = keeps_pays old new keeps pays
  keeps_closed old new false keeps vain = keeps_unpaid old new keeps vain
