-- A session of an engine, as its definition tells it: each step of the engine is one of the session, for some course
-- and date.
use Rattle.std.proofs.Common.{◌≡◌, ◌⊎◌, inl, inr, ℕ, ◌+◌, List, [], ◌∷◌, ◌++◌, length, Bool, true, false, Option}
use Rattle.std.proofs.Common.{Some, None, Result, Ok, Err, refl, sym, ◌∙◌, ap, subst, append_assoc, map, arith}
use Rattle.std.proofs.Common.{length-append}
use Rattle.std.proofs.lemmas.List.{append-nil, map-append}
use Rattle.zmtp_wire.specs.declared.handshake.socket_type.SocketType.TheVariants.{Router}
use Rattle.zmtp_wire.specs.declared.traffic.Traffic.{Traffic}
use Rattle.zmtp_wire.specs.declared.traffic.Traffic.TheVariants as traffic
use Rattle.zmtp_wire.specs.Ping.{pong_to}
use Rattle.zmtp_connection.specs.declared.end.ConnectionEnd.{ConnectionEnd}
use Rattle.zmtp_connection.specs.declared.end.ConnectionEnd.TheVariants as ended
use Rattle.zmtp_connection.specs.declared.end.Ending.{Ending}
use Rattle.zmtp_connection.specs.declared.end.Ending.TheVariants.{Connection, Host}
use Rattle.zmtp_connection.specs.declared.fault.ConnectionFault.TheVariants.{Write}
use Rattle.zmtp_connection.specs.Ending.{of_connection}
use Rattle.iopub_event.specs.declared.event.Event.{Event}
use Rattle.iopub_event.specs.declared.event.Event.TheVariants as events
use Rattle.jmsg_envelope.specs.Stamp.{StampMeaning}
use Rattle.jmsg_envelope.specs.Stamp.{Stamping}
use Rattle.kernel_engine.specs.declared.response.Response.{Response}
use Rattle.kernel_engine.specs.declared.parts.Parts.{Parts}
use Rattle.kernel_engine.specs.declared.side.Side.{Side}
use Rattle.kernel_engine.specs.Block.{Message, block, idle, opened_block, reply_message}
use Rattle.kernel_engine.specs.Growth.{item_of, sealing_of}
use Rattle.kernel_engine.specs.Handles.{answer_with, owed_items}
use Rattle.kernel_engine.specs.Opens.{ids_of_reply}
use Rattle.kernel_engine.specs.WellBlocked.{heading_of, number_past, where_published}
use Rattle.kernel_engine.specs.World.{World}
use Rattle.kernel_engine.specs.Orders.{ends}
use Rattle.kernel_session.specs.declared.end.SessionEnd.{SessionEnd}
use Rattle.kernel_session.specs.declared.end.SessionEnd.TheVariants.{Shutdown, Failed}
use Rattle.zmtp_connection.specs.declared.server.Answered.{Answered}
use Rattle.zmtp_connection.specs.declared.server.Answered.TheVariants.{Done, Dropped}
use Rattle.zmtp_connection.specs.Exchange.{Devices, Exchange}
use Rattle.zmtp_connection.specs.Laws.{IsDone}
use Rattle.zmtp_connection.specs.Listen.{RunsOut}
use Rattle.zmtp_connection.specs.Server.{Serving, Treats, GoesOn, AnswersAll, IsLast, IsServed, Serves, ServesPeer}
use Rattle.zmtp_connection.specs.Server.{BreaksIn, begins, marked, told_ending}
use Rattle.kernel_session.specs.Session.{DoesMessage, IsToldWhole, Performs, Run, Setting, EngineStanding}
use Rattle.kernel_session.specs.Session.{heading_by, number_behind, reply_text}
use Rattle.kernel_session.specs.Work.{TellsSession, Works, WorksOne, all_items, setting_of}
use Rattle.kernel_session.specs.Work.{standing_of}
use Rattle.zmtp_connection.specs.Steps.{TurnsAway}
use Rattle.zmtp_connection.proofs.ServeOnce.{undropped, unmarked}

-- what was published of a block, and its idle where that is owed, is all of the block
block_items : {W : Type 0} (front owed : List (Option (Event W))) (opening : List Message) (last : Message)
    (closed : Bool) (items : List (Option (Event W))) (owes : Option (Event W))
    → items ≡ front ++ (owed ++ map item_of (opening ++ where_published closed last))
    → ((closed ≡ true) × (owes ≡ None)) ⊎ ((closed ≡ false) × (owes ≡ Some (events.Message last)))
    → items ++ owed_items owes ≡ (front ++ owed) ++ map item_of (opening ++ last ∷ [])
block_items {W} front owed opening last true items owes is (inl (closed, none)) =
    ap (λ o. items ++ owed_items o) none ∙ append-nil items ∙ is
    ∙ sym (append_assoc front owed (map item_of (opening ++ last ∷ [])))
block_items {W} front owed opening last false items owes is (inr (isnt, some)) =
    ap (λ o. items ++ owed_items o) some
    ∙ ap (λ i. i ++ item_of last ∷ []) (is ∙ ap (λ o. front ++ (owed ++ map item_of o)) (append-nil opening))
    ∙ ap (λ i. i ++ item_of last ∷ []) (sym (append_assoc front owed (map item_of opening)))
    ∙ append_assoc (front ++ owed) (map item_of opening) (item_of last ∷ [])
    ∙ ap (λ i. (front ++ owed) ++ i) (sym (map-append item_of opening (last ∷ [])))
block_items {W} front owed opening last true items owes is (inr (isnt, some)) = absurd (let e = isnt in cc)
block_items {W} front owed opening last false items owes is (inl (closed, none)) = absurd (let e = closed in cc)

-- what stays, by its parts
abbrev setting_by : {S : Type 0} → Stamping S → Side → List ℕ → StampMeaning → Setting
setting_by stamp side key by = record {
  side = side;
  sealing = record { key = key; session = by.session; id = stamp.id_text by };
  is_date = stamp.is_date by;
}

same_setting : {S : Type 0} (stamp : Stamping S) (side other : Side) (key also : List ℕ) (by same : StampMeaning)
    → side ≡ other → key ≡ also → by ≡ same → setting_by stamp side key by ≡ setting_by stamp other also same
same_setting stamp side other key also by same a b c =
    ap (λ s. setting_by stamp s key by) a ∙ ap (λ k. setting_by stamp other k by) b
    ∙ ap (λ t. setting_by stamp other also t) c

-- a write doesn't fail in nothing
no_break : (before reply written : List ℕ) → BreaksIn before reply written → reply ≡ [] → ⊥
no_break before reply written (front, lost, split, some, wrote) none =
    omega (arith, some, ap length (sym split ∙ none), length-append front lost)

-- a message that wasn't dropped was done
answered_done : (answered : Answered) → IsDone {End = SessionEnd} (λ end. true) (Ok answered) → answered ≡ Done
answered_done Done done = refl
answered_done Dropped done = absurd done

module _ {I P S W Cell : Type 0} (world : World I P S W Cell) (may : Type 0) where
  -- a message was done as a request by a run, and what was published is this
  record WasRun (old : Parts I P S W) (message : Message) (handled : Response) (reply : List ℕ) (new : Parts I P S W)
      : Type 0 where
    run : Run I
    messages : List Message
    listed : all_items world.sink new ≡ all_items world.sink old ++ map item_of messages
    stays : setting_of world.stamp new ≡ setting_of world.stamp old
    does : (published : List Message) (later : List (Run I))
        → (done : DoesMessage world.language may (setting_of world.stamp old) (standing_of old published (run ∷ later))
        message reply (standing_of new (published ++ messages) later))
        × (done.answer.order ≡ handled.order)

  is_done : (old : Parts I P S W) (message : Message) (handled : Response) (reply : List ℕ) (new : Parts I P S W)
      → Works world may old message handled new
      → reply ≡ reply_text handled.reply → WasRun old message handled reply new
  is_done old message handled reply new works is =
      let ok = works.does in
      let request = works.request in
      let sealing = sealing_of world.stamp old.publishing in
      let publications = ok.block.publications in
      let run : Run I = record { course = ok.course; date = ok.block.date } in
      let headed : heading_of ok.block ≡ heading_by run request =
      ap (λ p. record { date = ok.block.date; parent = p }) ok.parent in
      let next : number_past ok.block ≡ number_behind old.publishing.next publications =
      ap (λ n. number_behind n publications) ok.adds.number in
      let whole : block sealing (heading_of ok.block) ok.block.number publications
      ≡ block sealing (heading_by run request) old.publishing.next publications =
      ap (λ h. block sealing h ok.block.number publications) headed
      ∙ ap (λ n. block sealing (heading_by run request) n publications) ok.adds.number in
      record {
        run = run;
        messages = block sealing (heading_by run request) old.publishing.next publications;
        listed = block_items (world.sink.items old.publishing.sink) (owed_items old.owed)
            (opened_block sealing (heading_of ok.block) ok.block.number publications)
            (idle sealing (heading_of ok.block) ok.block.number) ok.block.closed (world.sink.items new.publishing.sink)
            new.owed ok.adds.items (elim ok.adds.owed [
              | inl closed ↦ inl closed
              | inr (isnt, owed, refused) ↦ inr (isnt, owed)
            ])
            ∙ ap (λ b. all_items world.sink old ++ map item_of b) whole;
        stays = same_setting world.stamp new.side old.side new.publishing.signer old.publishing.signer
            (world.stamp.meaning new.publishing.stamp) (world.stamp.meaning old.publishing.stamp) ok.adds.side
            ok.adds.signer ok.adds.meant;
        does = λ published later. (
          record {
            request = request;
            opened = works.opened;
            answer = answer_with handled ok.reply new;
            does = record {
              run = run;
              runs = refl;
              dated = ok.adds.dated;
              ending = ok.ending;
              publications = publications;
              publishes = ok.publishes;
              answers = ok.answers;
              replied = is ∙ ap reply_text (ok.replied
                  ∙ ap (λ h. reply_message sealing h request.identities
                  (number_past ok.block) request.msg_type ok.reply)
                  headed
                  ∙ ap (λ n. reply_message sealing (heading_by run request) request.identities n request.msg_type
                  ok.reply) next);
              became = ap (λ n. record {
                state = new.interp;
                count = new.count;
                next = n;
                published = published ++ block sealing (heading_by run request) old.publishing.next publications;
                runs = later;
              }) (ok.next ∙ ap (λ n. n + ids_of_reply ok.reply) next);
            };
          },
          refl,
        );
      }

  -- an engine in a session in which nothing was dropped, as the session tells it
  abbrev tells : Parts I P S W → List Message → List (Run I) → Serving (EngineStanding I)
  tells parts published runs = record { server = standing_of parts published runs; dropped = false }

  -- traffic was treated by some runs, and what was published is this
  record IsTreated (old : Parts I P S W) (items : List Traffic) (replies : List ℕ) (new : Parts I P S W) : Type 0 where
    runs : List (Run I)
    messages : List Message
    listed : all_items world.sink new ≡ all_items world.sink old ++ map item_of messages
    stays : setting_of world.stamp new ≡ setting_of world.stamp old
    all : (published : List Message) (later : List (Run I))
        → AnswersAll (GoesOn (Performs world.language may (setting_of world.stamp old)))
        (tells old published (runs ++ later)) items replies (tells new (published ++ messages) later)

  treated_none : (old new : Parts I P S W) (replies : List ℕ) → replies ≡ [] → new ≡ old
      → IsTreated old [] replies new
  treated_none old new replies none same = record {
    runs = [];
    messages = [];
    listed = ap (all_items world.sink) same ∙ sym (append-nil (all_items world.sink old));
    stays = ap (setting_of world.stamp) same;
    all = λ published later. (
      none,
      ap (λ (e : Parts I P S W). tells e (published ++ []) later) same
          ∙ ap (λ p. tells old p later) (append-nil published),
    );
  }

  -- the engine stayed at the first, and treated the others
  treated_past : (old middle new : Parts I P S W) (first : Traffic) (items : List Traffic)
      (reply later replies : List ℕ) → middle ≡ old
      → ((standing : EngineStanding I)
      → Treats (Performs world.language may (setting_of world.stamp old)) standing first
      reply standing (Ok Done))
      → IsTreated middle items later new → replies ≡ reply ++ later → IsTreated old (first ∷ items) replies new
  treated_past old middle new first items reply later replies same stay rest is =
      let next = subst (λ (e : Parts I P S W). IsTreated e items later new) same rest in
      record {
        runs = next.runs;
        messages = next.messages;
        listed = next.listed;
        stays = next.stays;
        all = λ published more. (
          tells old published (next.runs ++ more),
          reply,
          later,
          (Done, stay (standing_of old published (next.runs ++ more)), refl),
          next.all published more,
          is,
        );
      }

  -- the first was done as a request, and the others were treated
  treated_on : (old middle new : Parts I P S W) (message : Message) (items : List Traffic)
      (reply later replies : List ℕ) (handled : Response) → WasRun old message handled reply middle
      → ends handled.order ≡ None → IsTreated middle items later new → replies ≡ reply ++ later
      → IsTreated old (traffic.Message message ∷ items) replies new
  treated_on old middle new message items reply later replies handled one goes rest is = record {
    runs = one.run ∷ rest.runs;
    messages = one.messages ++ rest.messages;
    listed = rest.listed ∙ ap (λ o. o ++ map item_of rest.messages) one.listed
        ∙ append_assoc (all_items world.sink old) (map item_of one.messages) (map item_of rest.messages)
        ∙ ap (λ o. all_items world.sink old ++ o) (sym (map-append item_of one.messages rest.messages));
    stays = rest.stays ∙ one.stays;
    all = λ published more.
        let (done, order_is) = one.does published (rest.runs ++ more) in (
          tells middle (published ++ one.messages) (rest.runs ++ more),
          reply,
          later,
          (Done, inr (done, ap ends order_is ∙ goes), refl),
          subst (λ p. AnswersAll (GoesOn (Performs world.language may (setting_of world.stamp old)))
              (tells middle (published ++ one.messages) (rest.runs ++ more)) items later (tells new p more))
              (append_assoc published one.messages rest.messages)
              (subst (λ s. AnswersAll (GoesOn (Performs world.language may s)) (tells middle (published ++ one.messages)
              (rest.runs ++ more)) items later (tells new ((published ++ one.messages) ++ rest.messages) more))
              one.stays (rest.all (published ++ one.messages) more)),
          is,
        );
  }

  treated_one : (old middle new : Parts I P S W) (first : Traffic) (items : List Traffic)
      (reply later replies : List ℕ) (answered : Answered)
      → Treats (WorksOne world may) old first reply middle (Ok answered)
      → answered ≡ Done → IsTreated middle items later new → replies ≡ reply ++ later
      → IsTreated old (first ∷ items) replies new
  treated_one old middle new (traffic.Message message) items reply later replies Done (inl ignores) done rest is =
      treated_past old middle new (traffic.Message message) items reply later replies ignores.same
      (λ standing. inl (ignores.refused, ignores.silent, refl)) rest is
  treated_one old middle new (traffic.Message message) items reply later replies Done (inr through) done rest is =
      treated_on old middle new message items reply later replies through.handled
      (is_done old message through.handled reply middle through.works through.replied) through.end rest is
  treated_one old middle new (traffic.Message message) items reply later replies Dropped step done rest is =
      absurd (let e = done in cc)
  treated_one old middle new (traffic.Command name said) items reply later replies answered (pong, same, goes) done rest
      is =
      treated_past old middle new (traffic.Command name said) items reply later replies same
      (λ standing. (pong, refl, refl)) rest is

  treated_all : (old new : Serving (Parts I P S W)) (items : List Traffic) (replies : List ℕ)
      → AnswersAll (GoesOn (WorksOne world may)) old items replies new
      → new.dropped ≡ false → IsTreated old.server items replies new.server
  treated_all old new [] replies (none, same) kept =
      treated_none old.server new.server replies none (ap (λ (s : Serving (Parts I P S W)). s.server) same)
  treated_all old new (first ∷ items) replies (middle, reply, later, (answered, step, mark), rest, is) kept =
      let calm = undropped (WorksOne world may) middle new items later
      rest kept in
      let (before, done) = unmarked {End = SessionEnd} (λ end. true) old.dropped answered middle.dropped mark calm in
      treated_one old.server middle.server new.server first items reply later replies answered step
      (answered_done answered done) (treated_all middle new items later rest kept) is

  -- a peer that was turned away
  told_away : (old new : Parts I P S W) (octets written : List ℕ) (ending : Ending SessionEnd) (end : ConnectionEnd)
      → ending ≡ Connection end → TurnsAway Router end octets written → new ≡ old
      → TellsSession world may old octets written new ending
  told_away old new octets written ending end is away same = record {
    runs = [];
    published = [];
    session = inl (end, is, away, ap (λ (e : Parts I P S W). standing_of e [] []) same, refl);
    listed = ap (all_items world.sink) same ∙ sym (append-nil (all_items world.sink old));
    stays = ap (setting_of world.stamp) same;
  }

  -- a session at the end of which the engine is as it was once all whole traffic was treated
  told_treated : (old new : Parts I P S W) (octets written : List ℕ) (ending : Ending SessionEnd)
      (served : IsServed false (WorksOne world may) Router old octets written new ending)
      (treated : IsTreated old served.converses.traffic served.converses.replies new)
      → ((end : ConnectionEnd) × (ending ≡ Connection end) × RunsOut served.converses.rest end
      × (served.replies ≡ served.converses.replies) × (tells new treated.messages [] ≡ tells new treated.messages []))
      ⊎ IsLast (Performs world.language may (setting_of world.stamp old)) (tells new treated.messages [])
      served.converses.rest served.converses.replies served.replies (tells new treated.messages []) ending
      → TellsSession world may old octets written new ending
  told_treated old new octets written ending served treated ends =
      let talk = served.converses in
      record {
        runs = treated.runs ++ [];
        published = treated.messages;
        session = inr (record {
          opening = served.opening;
          peer = served.peer;
          behind = served.behind;
          replies = served.replies;
          is_open = served.is_open;
          converses = record {
            traffic = talk.traffic;
            rest = talk.rest;
            read = talk.read;
            calm = talk.calm;
            now = tells new treated.messages [];
            replies = talk.replies;
            answered = treated.all [] [];
            ends = ends;
          };
          all = served.all;
        });
        listed = treated.listed;
        stays = treated.stays;
      }

  -- a session that ended with what was read
  told_out : (old new : Parts I P S W) (octets written : List ℕ) (ending : Ending SessionEnd)
      (served : IsServed false (WorksOne world may) Router old octets written new ending) (end : ConnectionEnd)
      → ending ≡ Connection end → RunsOut served.converses.rest end → served.replies ≡ served.converses.replies
      → served.converses.now ≡ record { server = new; dropped = false }
      → TellsSession world may old octets written new ending
  told_out old new octets written ending served end ends runs wrote is =
      let talk = served.converses in
      let became : talk.now.server ≡ new = ap (λ (s : Serving (Parts I P S W)). s.server) is in
      let treated = subst (λ e. IsTreated old talk.traffic talk.replies e) became
      (treated_all (begins old) talk.now talk.traffic talk.replies talk.answered
      (ap (λ (s : Serving (Parts I P S W)). s.dropped) is)) in
      told_treated old new octets written ending served treated (inl (end, ends, runs, wrote, refl))

  -- a session that ended at one message, which was done as a request
  told_at : (old new : Parts I P S W) (octets written : List ℕ) (ending : Ending SessionEnd)
      (served : IsServed false (WorksOne world may) Router old octets written new ending)
      (last : IsLast (WorksOne world may) served.converses.now
      served.converses.rest served.converses.replies served.replies (record { server = new; dropped = false }) ending)
      → (message : Message) → last.last ≡ traffic.Message message → served.converses.now.dropped ≡ false
      → (handled : Response)
      → Works world may served.converses.now.server message handled new
      → last.reply ≡ reply_text handled.reply → (answered : Result Answered SessionEnd)
      → ((one two : EngineStanding I)
      (done : DoesMessage world.language may (setting_of world.stamp served.converses.now.server) one message last.reply
      two) → done.answer.order ≡ handled.order
      → Performs world.language may (setting_of world.stamp served.converses.now.server) one message last.reply two
      answered)
      → false ≡ marked {End = SessionEnd} false answered
      → ((end : SessionEnd) × (answered ≡ Err end) × (ending ≡ Host end)
      × (served.replies ≡ served.converses.replies ++ last.reply))
      ⊎ ((ending ≡ Connection (ended.Failed Write)) × BreaksIn served.converses.replies last.reply served.replies)
      → TellsSession world may old octets written new ending
  told_at old new octets written ending served last message named kept handled works replied answered performs mark
      how =
      let talk = served.converses in
      let treated = treated_all (begins old) talk.now talk.traffic talk.replies talk.answered kept in
      let one = is_done talk.now.server message handled last.reply new works replied in
      let before = standing_of talk.now.server treated.messages (one.run ∷ []) in
      let after = standing_of new (treated.messages ++ one.messages) [] in
      let (done, order_is) = one.does treated.messages [] in
      record {
        runs = treated.runs ++ one.run ∷ [];
        published = treated.messages ++ one.messages;
        session = inr (record {
          opening = served.opening;
          peer = served.peer;
          behind = served.behind;
          replies = served.replies;
          is_open = served.is_open;
          converses = record {
            traffic = talk.traffic;
            rest = talk.rest;
            read = talk.read;
            calm = talk.calm;
            now = tells talk.now.server treated.messages (one.run ∷ []);
            replies = talk.replies;
            answered = treated.all [] (one.run ∷ []);
            ends = inr (record {
              last = last.last;
              comes = last.comes;
              harmless = last.harmless;
              reply = last.reply;
              answered = answered;
              step = subst (λ t. Treats (Performs world.language may (setting_of world.stamp old)) before t last.reply
                  after answered) (sym named)
                  (subst (λ s. Performs world.language may s before message last.reply after answered) treated.stays
                  (performs before after done order_is));
              mark = mark;
              how = how;
            });
          };
          all = served.all;
        });
        listed = one.listed ∙ ap (λ o. o ++ map item_of one.messages) treated.listed
            ∙ append_assoc (all_items world.sink old) (map item_of treated.messages) (map item_of one.messages)
            ∙ ap (λ o. all_items world.sink old ++ o) (sym (map-append item_of treated.messages one.messages));
        stays = one.stays ∙ treated.stays;
      }

  -- a session that ended where a PONG couldn't be written
  told_unponged : (old new : Parts I P S W) (octets written : List ℕ) (ending : Ending SessionEnd)
      → ending ≡ Connection (ended.Failed Write)
      → (served : IsServed false (WorksOne world may) Router old octets written new ending)
      (last : IsLast (WorksOne world may) served.converses.now
      served.converses.rest served.converses.replies served.replies (record { server = new; dropped = false }) ending)
      → (name rest : List ℕ) → last.last ≡ traffic.Command name rest
      → last.reply ≡ pong_to (traffic.Command name rest) → new ≡ served.converses.now.server
      → served.converses.now.dropped ≡ false → BreaksIn served.converses.replies last.reply served.replies
      → TellsSession world may old octets written new ending
  told_unponged old new octets written ending is served last name rest named pong same kept breaks =
      let talk = served.converses in
      let treated = subst (λ e. IsTreated old talk.traffic talk.replies e) (sym same)
      (treated_all (begins old) talk.now talk.traffic talk.replies talk.answered kept) in
      let now = standing_of new treated.messages [] in
      told_treated old new octets written ending served treated (inr (record {
        last = last.last;
        comes = last.comes;
        harmless = last.harmless;
        reply = last.reply;
        answered = Ok Done;
        step = subst (λ t. Treats (Performs world.language may (setting_of world.stamp old)) now t last.reply now
            (Ok Done)) (sym named) (pong, refl, refl);
        mark = refl;
        how = inr (is, breaks);
      }))

  -- a session that ended where the reply to one traffic couldn't be written
  told_cut : (old new : Parts I P S W) (octets written : List ℕ) (ending : Ending SessionEnd)
      → ending ≡ Connection (ended.Failed Write)
      → (served : IsServed false (WorksOne world may) Router old octets written new ending)
      (last : IsLast (WorksOne world may) served.converses.now
      served.converses.rest served.converses.replies served.replies (record { server = new; dropped = false }) ending)
      → (item : Traffic) → last.last ≡ item → (answered : Result Answered SessionEnd)
      → Treats (WorksOne world may) served.converses.now.server item
      last.reply new answered → false ≡ marked served.converses.now.dropped answered
      → BreaksIn served.converses.replies last.reply served.replies
      → TellsSession world may old octets written new ending
  told_cut old new octets written ending is served last (traffic.Command name rest) named answered
      (pong, same, goes) mark breaks =
      told_unponged old new octets written ending is served last name rest named pong same
      (sym (mark ∙ ap (marked served.converses.now.dropped) goes)) breaks
  told_cut old new octets written ending is served last (traffic.Message message) named (Ok Done) (inl ignores) mark
      breaks =
      absurd (no_break served.converses.replies last.reply served.replies breaks ignores.silent)
  told_cut old new octets written ending is served last (traffic.Message message) named (Ok Done) (inr through) mark
      breaks =
      told_at old new octets written ending served last message named (sym mark) through.handled through.works
      through.replied (Ok Done) (λ one two done order_is. inr (done, ap ends order_is ∙ through.end)) refl
      (inr (is, breaks))
  told_cut old new octets written ending is served last (traffic.Message message) named (Ok Dropped) loses mark breaks =
      absurd (let e = mark in cc)
  told_cut old new octets written ending is served last (traffic.Message message) named (Err (Shutdown restart))
      through mark breaks =
      told_at old new octets written ending served last message named (sym mark) through.handled through.works
      through.replied (Err (Shutdown restart))
      (λ one two done order_is. (done, restart, ap ends order_is ∙ through.end, refl)) refl
      (inr (is, breaks))
  told_cut old new octets written ending is served last (traffic.Message message) named (Err (Failed fault))
      (inl refuses)
      mark breaks =
      absurd (no_break served.converses.replies last.reply served.replies breaks refuses.silent)
  told_cut old new octets written ending is served last (traffic.Message message) named (Err (Failed fault))
      (inr (inl vain))
      mark breaks =
      absurd (no_break served.converses.replies last.reply served.replies breaks vain.silent)
  told_cut old new octets written ending is served last (traffic.Message message) named (Err (Failed fault))
      (inr (inr lost))
      mark breaks =
      absurd (no_break served.converses.replies last.reply served.replies breaks lost.silent)

  -- a session that the engine ended at one traffic
  told_last : (old new : Parts I P S W) (octets written : List ℕ) (ending : Ending SessionEnd) → IsToldWhole ending
      → (served : IsServed false (WorksOne world may) Router old octets written new ending)
      (last : IsLast (WorksOne world may) served.converses.now
      served.converses.rest served.converses.replies served.replies (record { server = new; dropped = false }) ending)
      → (end : SessionEnd) → ending ≡ Host end → (item : Traffic) → last.last ≡ item → last.answered ≡ Err end
      → Treats (WorksOne world may) served.converses.now.server item
      last.reply new (Err end) → served.replies ≡ served.converses.replies ++ last.reply
      → TellsSession world may old octets written new ending
  told_last old new octets written ending settled served last (Failed fault) host item named is step wrote =
      absurd (subst IsToldWhole host settled)
  told_last old new octets written ending settled served last (Shutdown restart) host (traffic.Command name rest) named
      is (none, same, goes) wrote =
      absurd (let e = goes in cc)
  told_last old new octets written ending settled served last (Shutdown restart) host (traffic.Message message) named
      is through wrote =
      told_at old new octets written ending served last message named
      (sym (last.mark ∙ ap (marked served.converses.now.dropped) is)) through.handled through.works through.replied
      (Err (Shutdown restart))
      (λ one two done order_is. (done, restart, ap ends order_is ∙ through.end, refl)) refl
      (inl (Shutdown restart, refl, host, wrote))

  told_served : (old new : Parts I P S W) (octets written : List ℕ) (ending : Ending SessionEnd) → IsToldWhole ending
      → Serves false (WorksOne world may) Router old octets written new ending
      → TellsSession world may old octets written new ending
  told_served old new octets written ending settled (inl (end, is, away, same, none)) =
      told_away old new octets written ending end is away same
  told_served old new octets written ending settled (inr served) = elim served.converses.ends [
    | inl (end, ends, runs, wrote, is) ↦ told_out old new octets written ending served end ends runs wrote is
    | inr last ↦ elim last.how [
      | inl (end, is, host, wrote) ↦
          told_last old new octets written ending settled served last end host last.last refl is
          (subst (λ a. Treats (WorksOne world may)
          served.converses.now.server last.last last.reply new a) is last.step) wrote
      | inr (is, breaks) ↦
          told_cut old new octets written ending is served last last.last refl last.answered last.step last.mark breaks
    ]
  ]

  -- what is told of a session, from what the engine made of each message
  pub tells_session : (old new : Parts I P S W) (one : Devices) (two : ℕ → Devices) (given : Ending SessionEnd)
      → (left : ℕ) × (dropped : Bool) × (ended : Ending SessionEnd)
      × ServesPeer dropped (WorksOne world may) Router old one (two left) new ended
      × (given ≡ told_ending dropped ended)
      → IsToldWhole given
      → (left : ℕ) × Exchange (λ octets written. TellsSession world may old octets written new given) one (two left)
      (of_connection given)
  tells_session old new one two given (left, true, ended, peer, is) settled = absurd (subst IsToldWhole is settled)
  tells_session old new one two given (left, false, ended, peer, is) settled =
      let e = peer.exchange in (
        left,
        subst (λ end. Exchange (λ octets written. TellsSession world may old octets written new end) one (two left)
            (of_connection end)) (sym is) (record {
              read = e.read;
              written = e.written;
              reading = e.reading;
              puts = e.puts;
              outcome = told_served old new e.read e.written ended (subst IsToldWhole is settled) e.outcome;
            }),
      )
