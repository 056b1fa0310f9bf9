-- The heartbeat: each message is its own answer.
use Rattle.std.proofs.Common.{◌≡◌, ◌⊎◌, inl, inr, ℕ, List, [], ◌∷◌, ◌++◌, Bool, false, Result, Ok, Err, Some, sym, ◌∙◌}
use Rattle.std.proofs.Common.{ap, subst, append_assoc, length-append, arith}
use Rattle.std.specs.List.{flat_map}
use Rattle.std.specs.declared.alloc.AllocError.{AllocError}
use Rattle.std.proofs.lemmas.List.{append-nil}
use Rattle.zmtp_wire.specs.declared.handshake.socket_type.SocketType.TheVariants.{Rep}
use Rattle.zmtp_wire.specs.declared.traffic.Traffic.{Traffic}
use Rattle.zmtp_wire.specs.declared.traffic.Traffic.TheVariants as traffic
use Rattle.zmtp_wire.specs.Frame.{text}
use Rattle.zmtp_connection.specs.declared.fault.ConnectionFault.TheVariants.{Memory}
use Rattle.zmtp_connection.specs.declared.end.ConnectionEnd.{ConnectionEnd}
use Rattle.zmtp_connection.specs.declared.end.ConnectionEnd.TheVariants.{Failed}
use Rattle.zmtp_connection.specs.declared.end.Ending.{Ending}
use Rattle.zmtp_connection.specs.declared.end.Ending.TheVariants.{Connection, Host}
use Rattle.zmtp_connection.specs.declared.server.Answered.{Answered}
use Rattle.zmtp_connection.specs.declared.server.Answered.TheVariants.{Done, Dropped}
use Rattle.zmtp_connection.specs.Ending.{of_connection}
use Rattle.zmtp_connection.specs.Exchange.{Devices, Exchange}
use Rattle.zmtp_connection.specs.Steps.{TurnsAway}
use Rattle.zmtp_connection.specs.Listen.{RunsOut}
use Rattle.zmtp_connection.specs.Server.{Answering, AnswersAll, BreaksIn, Converses, GoesOn, IsLast, Serves, ServesPeer}
use Rattle.zmtp_connection.specs.Server.{Serving, Treats, begins, marked, told_ending}
use Rattle.zmtp_connection.specs.Echo.{Echoes, EchoesOne, IsCutShort, echo_of}
use Rattle.zmtp_connection.proofs.Legs.{decided, memory_decided}

-- what the heartbeat answers
abbrev pub echoes : {Server End : Type 0} → Answering Server End
echoes old message reply new answered = EchoesOne message reply answered

-- traffic that came back, and the heartbeat goes on
went_back : {Server : Type 0} (old new : Server) (item : Traffic) (reply : List ℕ) (answered : Answered)
    (before after : Bool) → Treats (echoes {End = AllocError}) old item reply new (Ok answered)
    → after ≡ marked {End = AllocError} before (Ok answered) → (reply ≡ echo_of item) × (after ≡ before)
went_back old new (traffic.Message message) reply Done before after same mark = (same, mark)
went_back old new (traffic.Message message) reply Dropped before after never mark = absurd never
went_back old new (traffic.Command name rest) reply Done before after (pong, stays, is) mark = (pong, mark)
went_back old new (traffic.Command name rest) reply Dropped before after (pong, stays, is) mark =
    absurd (let e = is in cc)

came_back : {Server : Type 0} (old new : Serving Server) (items : List Traffic) (replies : List ℕ)
    → AnswersAll (GoesOn (echoes {End = AllocError})) old items replies new
    → (replies ≡ flat_map echo_of items) × (new.dropped ≡ old.dropped)
came_back old new [] replies (none, same) = (none, ap (λ (s : Serving _). s.dropped) same)
came_back old new (first ∷ items) replies (middle, reply, later, (answered, one, mark), rest, is) =
    let (back, stays) = went_back old.server middle.server first reply answered old.dropped middle.dropped one mark in
    let (others, keeps) = came_back middle new items later rest in (
      is ∙ ap (λ o. o ++ later) back ∙ ap (λ o. echo_of first ++ o) others,
      keeps ∙ stays,
    )

-- what was replied to the last traffic is a front of it
back_front : {Server : Type 0} (old new : Server) (last : Traffic) (reply : List ℕ)
    (answered : Result Answered AllocError) → Treats echoes old last reply new answered
    → (more : List ℕ) × (echo_of last ≡ reply ++ more)
back_front old new (traffic.Message message) reply (Ok Done) same = ([], sym same ∙ sym (append-nil reply))
back_front old new (traffic.Message message) reply (Ok Dropped) never = absurd never
back_front old new (traffic.Message message) reply (Err error) none =
    (text message, ap (λ o. o ++ text message) (sym none))
back_front old new (traffic.Command name rest) reply answered (pong, stays, is) =
    ([], sym pong ∙ sym (append-nil reply))

-- where the heartbeat ended it, it replied nothing
gave_up : {Server : Type 0} (old new : Server) (last : Traffic) (reply : List ℕ)
    (answered : Result Answered AllocError) (error : AllocError) → Treats echoes old last reply new answered
    → answered ≡ Err error → reply ≡ []
gave_up old new (traffic.Message message) reply (Ok answered) error step is = absurd (let e = is in cc)
gave_up old new (traffic.Message message) reply (Err found) error none is = none
gave_up old new (traffic.Command name rest) reply answered error (pong, stays, done) is =
    absurd (let e = sym done ∙ is in cc)

-- no message is dropped
last_kept : {Server : Type 0} (old new : Server) (last : Traffic) (reply : List ℕ)
    (answered : Result Answered AllocError) (before after : Bool) → Treats echoes old last reply new answered
    → after ≡ marked before answered → after ≡ before
last_kept old new (traffic.Message message) reply (Ok Done) before after step mark = mark
last_kept old new (traffic.Message message) reply (Ok Dropped) before after never mark = absurd never
last_kept old new (traffic.Message message) reply (Err error) before after step mark = mark
last_kept old new (traffic.Command name rest) reply answered before after (pong, stays, done) mark =
    mark ∙ ap (marked before) done

-- how the heartbeat is told to end: where a message found no memory, for want of it
abbrev pub told_as : Ending AllocError → ConnectionEnd
told_as (Connection end) = end
told_as (Host error) = Failed Memory

-- a write that failed in a beginning of what is due failed in that
breaks_in : (opening all replies written reply more due : List ℕ) → replies ≡ all → due ≡ reply ++ more
    → BreaksIn replies reply written → BreaksIn (opening ++ all) due (opening ++ written)
breaks_in opening all replies written reply more due same back (front, lost, split, some, wrote) = (
  front,
  lost ++ more,
  back ∙ ap (λ o. o ++ more) split ∙ append_assoc front lost more,
  omega (arith, some, length-append lost more),
  ap (λ o. opening ++ o) (wrote ∙ ap (λ o. o ++ front) same) ∙ sym (append_assoc opening all front),
)

cut_short : {Server : Type 0} (now new : Serving Server) (opening : List ℕ) (items : List Traffic)
    (rest replies written : List ℕ) (ending : Ending AllocError) → replies ≡ flat_map echo_of items
    → IsLast echoes now rest replies written new ending
    → IsCutShort opening items rest (opening ++ written) (told_as ending)
cut_short now new opening items rest replies written ending same last = record {
  last = last.last;
  comes = last.comes;
  harmless = last.harmless;
  how = elim last.how [
    | inl (error, is, ends, wrote) ↦
        let none = gave_up now.server new.server last.last last.reply last.answered error last.step is in
        inl (
          ap told_as ends,
          ap (λ o. opening ++ o)
              (wrote ∙ ap (λ o. replies ++ o) none ∙ append-nil replies ∙ same),
        )
    | inr (is, breaks) ↦
        let (more, back) = back_front now.server new.server last.last last.reply last.answered last.step in
        inr (
          ap told_as is,
          breaks_in opening (flat_map echo_of items) replies written last.reply more (echo_of last.last) same back
              breaks,
        )
  ];
}

-- what the heartbeat makes of a peer, and that nothing was dropped
echoed_ends : {Server : Type 0} (dropped : Bool) (old new : Server) (octets written opening : List ℕ)
    (ending : Ending AllocError) (talk : Converses dropped echoes old octets written new ending)
    → ((RunsOut talk.rest (told_as ending) × (opening ++ written ≡ opening ++ flat_map echo_of talk.traffic))
    ⊎ IsCutShort opening talk.traffic talk.rest (opening ++ written) (told_as ending)) × (dropped ≡ false)
echoed_ends dropped old new octets written opening ending talk =
    let (back, kept) = came_back (begins old) talk.now talk.traffic talk.replies talk.answered in
    elim talk.ends [
      | inl (end, ends, runs, wrote, is) ↦ (
        inl (subst (RunsOut talk.rest) (sym (ap told_as ends)) runs, ap (λ o. opening ++ o) (wrote ∙ back)),
        ap (λ (s : Serving _). s.dropped) (sym is) ∙ kept,
      )
      | inr last ↦ (
        inr (cut_short talk.now (record { server = new; dropped = dropped }) opening talk.traffic talk.rest talk.replies
            written ending back last),
        last_kept talk.now.server new last.last last.reply last.answered talk.now.dropped dropped last.step last.mark
            ∙ kept,
      )
    ]

-- the outcome of the heartbeat, and that nothing was dropped
echo_outcome : {Server : Type 0} (dropped : Bool) (old new : Server) (octets written : List ℕ)
    (ending : Ending AllocError) → Serves dropped echoes Rep old octets written new ending
    → Echoes (told_as ending) octets written × (dropped ≡ false)
echo_outcome dropped old new octets written ending (inl (end, ends, away, stays, none)) =
    (inl (subst (λ e. TurnsAway Rep e octets written) (sym (ap told_as ends)) away), none)
echo_outcome dropped old new octets written ending (inr served) =
    let talk = served.converses in
    let (ends, none) = echoed_ends dropped old new served.behind served.replies served.opening ending talk in (
      subst (Echoes (told_as ending) octets) (sym served.all) (inr (record {
        opening = served.opening;
        peer = served.peer;
        behind = served.behind;
        is_open = served.is_open;
        traffic = talk.traffic;
        rest = talk.rest;
        read = talk.read;
        calm = talk.calm;
        ends = ends;
      })),
      none,
    )

-- an exchange of the heartbeat, as it is told to end
told_exchange : (ending : Ending AllocError) (Comes : List ℕ → List ℕ → Type 0) (one two : Devices)
    → Exchange Comes one two (of_connection ending) → Exchange Comes one two (Some (told_as ending))
told_exchange (Connection end) Comes one two exchange = exchange
told_exchange (Host error) Comes one two exchange = record {
  read = exchange.read;
  written = exchange.written;
  reading = decided one.source two.source exchange.read (Failed Memory) memory_decided exchange.reading;
  puts = exchange.puts;
  outcome = exchange.outcome;
}

pub echo_served : {Server : Type 0} (dropped : Bool) (old new : Server) (one two : Devices)
    (ending result : Ending AllocError) → ServesPeer dropped echoes Rep old one two new ending
    → result ≡ told_ending dropped ending → Exchange (Echoes (told_as result)) one two (Some (told_as result))
echo_served dropped old new one two ending result served is =
    let e = served.exchange in
    let (echoed, none) = echo_outcome dropped old new e.read e.written ending e.outcome in
    let same : result ≡ ending = is ∙ ap (λ d. told_ending d ending) none in
    rw same (told_exchange ending (Echoes (told_as ending)) one two (record {
      read = e.read;
      written = e.written;
      reading = e.reading;
      puts = e.puts;
      outcome = echoed;
    }))
