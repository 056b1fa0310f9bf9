-- What a replay makes of the session of its engine.
use Rattle.std.proofs.Common.{◌≡◌, ◌≢◌, ◌⊎◌, inl, inr, ℕ, List, [], ◌∷◌, ◌++◌, Option, Some, None, Result}
use Rattle.std.proofs.Common.{Bool, Ok, Err, IfOk, refl, sym, ◌∙◌, ap, subst, map}
use Rattle.std.proofs.lemmas.List.{append-nil}
use Rattle.std.proofs.lemmas.Slice.Eq.{bytes_eq-Decides}
use Rattle.std.specs.Global.{Vec}
use Rattle.std.specs.List.{flat_map}
use Rattle.std.specs.Io.KnownBytes.{Appends, Consumes, IsAtEnd}
use Rattle.std.specs.Prelude.{bytes_eq, codes}
use Rattle.zmtp_wire.specs.Device.{Inflow, Outflow}
use Rattle.zmtp_wire.specs.Frame.{text}
use Rattle.interp_core.specs.Interpreter.{Meaning}
use Rattle.iopub_event.specs.declared.event.Event.{Event}
use Rattle.iopub_event.specs.declared.event.Event.TheVariants as events
use Rattle.iopub_queue.specs.Sink.{list_sink}
use Rattle.jmsg_envelope.specs.Stamp.{StampMeaning, Stamping, numbered}
use Rattle.kernel_replay.specs.declared.replay.ReplayFault.{ReplayFault}
use Rattle.kernel_engine.specs.declared.parts.Parts.{Parts}
use Rattle.kernel_engine.specs.declared.side.Side.TheVariants.{Shell}
use Rattle.kernel_engine.specs.Block.{Message, starting}
use Rattle.kernel_engine.specs.Growth.{item_of}
use Rattle.kernel_engine.specs.Starts.{SaysNothing, SaysStarting}
use Rattle.kernel_engine.specs.World.{world_of}
use Rattle.kernel_session.specs.declared.end.SessionEnd.{SessionEnd}
use Rattle.kernel_session.specs.declared.end.SessionEnd.TheVariants.{Shutdown, Failed}
use Rattle.zmtp_connection.specs.declared.end.ConnectionEnd.TheVariants.{Eof, Wire}
use Rattle.zmtp_connection.specs.declared.end.ConnectionEnd.TheVariants as closed
use Rattle.zmtp_connection.specs.declared.end.Ending.{Ending}
use Rattle.zmtp_connection.specs.declared.end.Ending.TheVariants.{Connection, Host}
use Rattle.zmtp_connection.specs.Ending.{of_connection}
use Rattle.zmtp_connection.specs.Exchange.{Exchange, ReadingOf, Source, devices_at}
use Rattle.zmtp_connection.specs.Laws.{IsFinal}
use Rattle.kernel_session.specs.Laws.{SessionIsSettled, SessionStays}
use Rattle.kernel_session.specs.Session.{IsSession, IsToldWhole, Run}
use Rattle.kernel_session.specs.Work.{TellsSession, all_items}
use Rattle.kernel_replay.specs.Lines.{ending_text, event_text, printed_lines}
use Rattle.kernel_replay.specs.Replay.{PrintsAll, PrintsPeer}
use Rattle.kernel_replay.specs.Session.{IsPrinted, begun, begun_engine, with_starting}
use Rattle.kernel_replay.specs.Stamp.{replay_date, replay_sealing, replay_setting, replay_session}

-- the meaning of a replay's stamp
abbrev replay_meaning : {S : Type 0} → S → StampMeaning
replay_meaning stamp = record { session = codes "replay"; label = codes "replay_s" }

-- which texts are its dates
abbrev replay_dates : StampMeaning → List ℕ → Bool
replay_dates meaning text = bytes_eq text (codes "2000-01-01T00:00:00.000000Z")

-- a replay's stamp
abbrev replay_stamp : {S : Type 0} → Stamping S
replay_stamp = record { meaning = replay_meaning; id_text = numbered; is_date = replay_dates }

-- lists are equal where they are, as what a sink published
some_once : {A : Type 0} (one other : List A) → map Some one ≡ map Some other → one ≡ other
some_once [] [] is = refl
some_once [] (second ∷ more) is = absurd (let e = is in cc)
some_once (first ∷ others) [] is = absurd (let e = is in cc)
some_once (first ∷ others) (second ∷ more) is =
    let heads : first ≡ second = let e = is in cc in
    let tails : map Some others ≡ map Some more = let e = is in cc in
    ap (λ x. x ∷ others) heads ∙ ap (λ xs. second ∷ xs) (some_once others more tails)

-- the texts of events that are these messages
texts_of : {W : Type 0} (events : List (Event W)) (messages : List Message) → map Some events ≡ map item_of messages
    → flat_map event_text events ≡ flat_map text messages
texts_of [] [] is = refl
texts_of [] (second ∷ more) is = absurd (let e = is in cc)
texts_of (first ∷ others) [] is = absurd (let e = is in cc)
texts_of {W} (first ∷ others) (second ∷ more) is =
    let heads : first ≡ events.Message second = let e = is in cc in
    let tails : map Some others ≡ map item_of more = let e = is in cc in
    ap (λ (e : Event W). event_text e ++ flat_map event_text others) heads
    ∙ ap (λ o. text second ++ o) (texts_of others more tails)

-- an engine of the shell that published nothing, and has started
pub begun_as : {State S W : Type 0} (state : State) (key : List ℕ) (stamp : S)
    (fresh started : Parts State (List (Event W)) S W)
    → fresh ≡ record {
      side = Shell;
      interp = state;
      count = 0;
      publishing = record { sink = []; signer = key; stamp = stamp; next = 1 };
      owed = None;
    }
    → SaysStarting list_sink replay_stamp fresh started
    ⊎ SaysNothing list_sink replay_stamp fresh started
    → started ≡ begun_engine state key started.publishing.stamp
begun_as {State} {S} {W} state key stamp fresh started is (inr nothing) = elim nothing.other [
  | inl control ↦ absurd (let e = sym (ap (λ (p : Parts State (List (Event W)) S W). p.side) is) ∙ control in cc)
  | inr some ↦ absurd (some (ap (λ (p : Parts State (List (Event W)) S W). map Some p.publishing.sink) is))
]
begun_as {State} {S} {W} state key stamp fresh started is (inl says) =
    let s = says.starts in
    let dated : s.date ≡ replay_date = (bytes_eq-Decides s.date replay_date).0 s.dated in
    let sink : started.publishing.sink ≡ events.Message (starting (replay_sealing key) replay_date) ∷ [] =
    some_once started.publishing.sink (events.Message (starting (replay_sealing key) replay_date) ∷ [])
    (s.items
    ∙ ap (λ (p : Parts State (List (Event W)) S W). map Some p.publishing.sink
    ++ item_of (starting (record { key = p.publishing.signer; session = replay_session; id = (replay_sealing key).id })
    s.date) ∷ []) is
    ∙ ap (λ d. item_of (starting (replay_sealing key) d) ∷ []) dated) in
    says.rest
    ∙ ap (λ p. record fresh { publishing = p }) s.rest
    ∙ ap (λ (p : Parts State (List (Event W)) S W). record p {
      publishing = record p.publishing {
        sink = started.publishing.sink;
        stamp = started.publishing.stamp;
        next = 2;
      };
    }) is
    ∙ ap (λ (k : List (Event W)). record {
      side = Shell;
      interp = state;
      count = 0;
      publishing = record { sink = k; signer = key; stamp = started.publishing.stamp; next = 2 };
      owed = None;
    }) sink

-- an ending that is printed is told
told_of : (end : Ending SessionEnd) → SessionIsSettled end → IsToldWhole end
told_of (Connection Eof) settled = tt
told_of (Connection (Wire fault)) settled = settled
told_of (Connection (closed.Failed fault)) settled = absurd settled
told_of (Host (Shutdown restart)) settled = tt
told_of (Host (Failed fault)) settled = absurd (let e = settled in cc)

-- what was read was taken from what was left
was_taken : (one two : Source) (octets : List ℕ) (ending : Ending SessionEnd)
    → ReadingOf one two octets (of_connection ending) → Consumes one.inflow.left two.inflow.left octets
was_taken one two octets (Connection end) reading = reading.draws.taken
was_taken one two octets (Host end) leg = leg.draws.taken

-- nothing is left where the peer's last octet ended it
was_read_out : (one two : Source) (octets : List ℕ) (ending : Ending SessionEnd)
    → ReadingOf one two octets (of_connection ending) → ending ≡ Connection Eof → IsAtEnd two.inflow.left
was_read_out one two octets (Connection end) reading is = reading.read_out (let e = is in cc)
was_read_out one two octets (Host end) leg is = absurd (let e = is in cc)

-- an ending that is settled, and not by the peer's last octet, is for good
final_of : (ending : Ending SessionEnd) → SessionIsSettled ending → ending ≢ Connection Eof → IsFinal ending
final_of (Connection end) settled other = (settled, λ eof. other (ap Connection eof))
final_of (Host end) settled other = tt

module _ {State Cell : Type 0} (m : Meaning State Cell) (state : State) where
  -- the lines of the session with the peer whose octets were read
  pub prints_peer : {S W : Type 0} (key : List ℕ) (begun_with after : Parts State (List (Event W)) S W)
      (one two : Inflow) (out last : Outflow) (turns : ℕ) (shell output words : List ℕ) (events : List (Event W))
      (end : Ending SessionEnd) → begun_with ≡ begun_engine state key begun_with.publishing.stamp
      → (IsToldWhole end → (left : ℕ) × Exchange (λ octets written.
      TellsSession (world_of m list_sink replay_stamp) ⊥ begun_with octets written after end)
      (devices_at one turns out) (devices_at two left last) (of_connection end))
      → out.written ≡ Some [] → last.written ≡ Some shell → map Some events ≡ all_items list_sink after
      → SessionIsSettled end → words ≡ ending_text end → output ≡ printed_lines shell (flat_map event_text events) words
      → PrintsPeer m state key one.left two.left output
  prints_peer {S} {W} key begun_with after one two out last turns shell output words events end is tells fresh stands
      published settled worded printed =
      let (left, e) = subst (λ (b : Parts State (List (Event W)) S W). (left : ℕ) × Exchange (λ octets written.
      TellsSession (world_of m list_sink replay_stamp) ⊥ b octets written after end)
      (devices_at one turns out) (devices_at two left last) (of_connection end)) is
      (tells (told_of end settled)) in
      let told = e.outcome in
      let wrote : shell ≡ e.written = subst (λ w. Appends (Some []) w e.written) stands
      (subst (λ w. Appends w last.written e.written) fresh e.puts.added) in
      let texts = texts_of events (with_starting key told.published) (published ∙ told.listed) in
      record {
        runs = told.runs;
        octets = e.read;
        taken = was_taken _ _ e.read end e.reading;
        printed = record {
          written = e.written;
          left = record {
            state = after.interp;
            count = after.count;
            next = after.publishing.next;
            published = told.published;
            runs = [];
          };
          ending = end;
          settled = settled;
          session = told.session;
          used = refl;
          printed = printed ∙ ap (λ w. printed_lines w (flat_map event_text events) words) wrote
              ∙ ap (λ o. printed_lines e.written o words) texts
              ∙ ap (printed_lines e.written (flat_map text (with_starting key told.published))) worded;
        };
        read_out = was_read_out _ _ e.read end e.reading;
      }

  -- a session that ended holds of all that its peer sends
  prints_on : {T : Type 0} (stop : T) → SessionStays m (λ (t : T). ⊥) → (key : List ℕ)
      (runs : List (Run State)) (octets output rest read : List ℕ) → octets ≡ read ++ rest
      → (p : IsPrinted m state key runs read output) → p.ending ≢ Connection Eof
      → IsPrinted m state key runs octets output
  prints_on stop stays key runs octets output rest read is p ended = record {
    written = p.written;
    left = p.left;
    ending = p.ending;
    settled = p.settled;
    session = subst (λ o. IsSession m ⊥ (replay_setting key) (begun state runs) o
        p.written p.left p.ending) (sym is)
        (stays stop (replay_setting key) (begun state runs) p.left read rest p.written p.ending
        (final_of p.ending p.settled ended) p.session);
    used = p.used;
    printed = p.printed;
  }

  prints_rest : {T : Type 0} (stop : T) → SessionStays m (λ (t : T). ⊥) → (key : List ℕ)
      (runs : List (Run State)) (octets output rest read : List ℕ) → octets ≡ read ++ rest
      → (p : IsPrinted m state key runs read output) (end : Ending SessionEnd) → p.ending ≡ end
      → (p.ending ≡ Connection Eof → rest ≡ []) → IsPrinted m state key runs octets output
  prints_rest stop stays key runs octets output rest read is p (Connection Eof) ends read_out =
      let whole : octets ≡ read = is ∙ ap (λ o. read ++ o) (read_out ends) ∙ append-nil read in
      subst (λ o. IsPrinted m state key runs o output) (sym whole) p
  prints_rest stop stays key runs octets output rest read is p (Connection (Wire fault)) ends read_out =
      prints_on stop stays key runs octets output rest read is p (λ eof. let e = sym ends ∙ eof in cc)
  prints_rest stop stays key runs octets output rest read is p (Connection (closed.Failed fault)) ends read_out =
      prints_on stop stays key runs octets output rest read is p (λ eof. let e = sym ends ∙ eof in cc)
  prints_rest stop stays key runs octets output rest read is p (Host end) ends read_out =
      prints_on stop stays key runs octets output rest read is p (λ eof. let e = sym ends ∙ eof in cc)

  -- the lines of the session with a peer that sends these octets
  prints_all : {T : Type 0} (stop : T) → SessionStays m (λ (t : T). ⊥) → (key octets output : List ℕ)
      (left' : Option (List ℕ)) → PrintsPeer m state key (Some octets) left' output
      → PrintsAll m state key octets output
  prints_all stop stays key octets output None p = absurd p.taken
  prints_all stop stays key octets output (Some rest) p = (
    p.runs,
    prints_rest stop stays key p.runs octets output rest p.octets p.taken p.printed p.printed.ending refl p.read_out,
  )

  pub prints_all_ok : {T : Type 0} (stop : T) → SessionStays m (λ (t : T). ⊥) → (key octets : List ℕ)
      (left' : Option (List ℕ)) (answer : Result (Vec ℕ) ReplayFault)
      → IfOk answer (λ lines. PrintsPeer m state key (Some octets) left' lines.items)
      → IfOk answer (λ lines. PrintsAll m state key octets lines.items)
  prints_all_ok stop stays key octets left' (Ok lines) p = prints_all stop stays key octets lines.items left' p
  prints_all_ok stop stays key octets left' (Err fault) p = tt
