-- A server that hears a peer at its writer.
use Rattle.std.proofs.Common.{◌≡◌, ◌⊎◌, inl, inr, ℕ, List, [], ◌∷◌, ◌++◌, Result, Ok, Err}
use Rattle.std.proofs.Common.{◌<◌, length, refl, sym, ap, subst}
use Rattle.zmtp_wire.specs.declared.traffic.Traffic.{Traffic}
use Rattle.zmtp_wire.specs.Device.{Outflow, Puts}
use Rattle.zmtp_connection.specs.declared.fault.ConnectionFault.TheVariants.{Write}
use Rattle.zmtp_connection.specs.declared.end.ConnectionEnd.{ConnectionEnd}
use Rattle.zmtp_connection.specs.declared.end.ConnectionEnd.TheVariants.{Failed}
use Rattle.zmtp_connection.specs.declared.end.Ending.{Ending}
use Rattle.zmtp_connection.specs.declared.end.Ending.TheVariants.{Connection, Host}
use Rattle.zmtp_connection.specs.declared.server.Answered.{Answered}
use Rattle.zmtp_connection.specs.Ending.{of_connection}
use Rattle.zmtp_connection.specs.Exchange.{Leg, ReadingOf, Source, failed_writes, failed_writes_of}
use Rattle.zmtp_connection.specs.Steps.{IsPrompt}
use Rattle.zmtp_connection.specs.Listen.{HearsAll, IsBrokenOff, IsHeardOut, Listens, RunsOut}
use Rattle.zmtp_connection.specs.Server.{Answering, AnswersAll, BreaksIn, GoesOn, Treats, begins, marked}
use Rattle.zmtp_connection.specs.Respond.{ConversesOn, Responds, Seen, Writes, flat}
use Rattle.zmtp_connection.proofs.Legs.{decided, write_decided, puts_none, puts_on, over}
use Rattle.zmtp_connection.proofs.SeenLemmas.{listens_seen}

-- a step behind which the session goes on
went_on : {Server End : Type 0} (answers : Answering Server End) (old : Seen Server) (traffic : Traffic)
    (new : Seen Server) (reply : List ℕ) (answered : Result Answered End)
    → Treats answers old.serving.server traffic reply new.serving.server answered
    → new.serving.dropped ≡ marked old.serving.dropped answered
    → Writes old.outflow new.outflow reply answered (Ok tt)
    → GoesOn answers old.serving traffic reply new.serving × Puts old.outflow new.outflow reply 0
went_on answers old traffic new reply (Ok answered) step mark (inl (puts, is)) = ((answered, step, mark), puts)
went_on answers old traffic new reply (Err end) step mark (inl (puts, is)) = absurd (let e = is in cc)
went_on answers old traffic new reply answered step mark (inr (is, written)) = absurd (let e = is in cc)

-- what was written of traffic that was responded to, and none of it ended the session
record Responded {Server End : Type 0} (answers : Answering Server End) (old : Seen Server) (traffic : List Traffic)
    (new : Seen Server) : Type 0 where
  replies : List ℕ
  answered : AnswersAll (GoesOn answers) old.serving traffic replies new.serving
  puts : Puts old.outflow new.outflow replies 0

responded_all : {Server End : Type 0} (answers : Answering Server End) (old new : Seen Server)
    (traffic : List Traffic) → HearsAll (Responds answers) old traffic new → Responded answers old traffic new
responded_all answers old new [] same = record {
  replies = [];
  answered = (refl, ap (λ (s : Seen _). s.serving) same);
  puts = subst (λ o. Puts old.outflow o [] 0) (ap (λ (s : Seen _). s.outflow) (sym same)) (puts_none old.outflow);
}
responded_all answers old new (first ∷ others) (middle, one, rest) =
    let (step, puts) = went_on answers old first middle one.reply one.answered one.step one.mark one.writes in
    let later = responded_all answers middle new others rest in
    record {
      replies = one.reply ++ later.replies;
      answered = (middle.serving, one.reply, later.replies, step, later.answered, refl);
      puts = puts_on old.outflow middle.outflow new.outflow one.reply later.replies 0 puts later.puts;
    }

-- what was written of the step that ended the session
record Ended {Server End : Type 0} (answers : Answering Server End) (now : Seen Server) (last : Traffic)
    (new : Seen Server) (ending : Ending End) : Type 0 where
  more : List ℕ
  reply : List ℕ
  answered : Result Answered End
  step : Treats answers now.serving.server last reply new.serving.server answered
  mark : new.serving.dropped ≡ marked now.serving.dropped answered
  how : ((end : End) × (answered ≡ Err end) × (ending ≡ Host end) × (more ≡ reply))
      ⊎ ((ending ≡ Connection (Failed Write)) × BreaksIn [] reply more)
  puts : Puts now.outflow new.outflow more (failed_writes_of (of_connection ending))
  reading : (old after : Source) (octets : List ℕ) → Leg old after octets
      → ReadingOf old after octets (of_connection ending)

-- a session that the server ended, with its reply written
left : {Server End : Type 0} (answers : Answering Server End) (now : Seen Server) (last : Traffic)
    (new : Seen Server) (end : End) (reply : List ℕ)
    → Treats answers now.serving.server last reply new.serving.server (Err end)
    → new.serving.dropped ≡ now.serving.dropped → Puts now.outflow new.outflow reply 0
    → Ended answers now last new (Host end)
left answers now last new end reply step mark puts = record {
  more = reply;
  reply = reply;
  answered = Err end;
  step = step;
  mark = mark;
  how = inl (end, refl, refl, refl);
  puts = puts;
  reading = λ old after octets leg. leg;
}

-- a session that a write ended, which failed in the reply
broken : {Server End : Type 0} (answers : Answering Server End) (now : Seen Server) (last : Traffic)
    (new : Seen Server) (reply : List ℕ) (answered : Result Answered End)
    → Treats answers now.serving.server last reply new.serving.server answered
    → new.serving.dropped ≡ marked now.serving.dropped answered → (front lost : List ℕ) → reply ≡ front ++ lost
    → 0 < length lost → Puts now.outflow new.outflow front 1
    → Ended answers now last new (Connection (Failed Write))
broken answers now last new reply answered step mark front lost split some puts = record {
  more = front;
  reply = reply;
  answered = answered;
  step = step;
  mark = mark;
  how = inr (refl, (front, lost, split, some, refl));
  puts = puts;
  reading = λ old after octets leg. decided old after octets (Failed Write) write_decided leg;
}

ended : {Server End : Type 0} (answers : Answering Server End) (now : Seen Server) (last : Traffic)
    (new : Seen Server) (ending : Ending End) (reply : List ℕ) (answered : Result Answered End)
    → Treats answers now.serving.server last reply new.serving.server answered
    → new.serving.dropped ≡ marked now.serving.dropped answered
    → Writes now.outflow new.outflow reply answered (Err ending) → Ended answers now last new ending
ended answers now last new ending reply (Ok answered) step mark (inl (puts, is)) = absurd (let e = is in cc)
ended {End = End} answers now last new ending reply (Err end) step mark (inl (puts, is)) =
    let same : ending ≡ Host end = let e = is in cc in
    subst (λ (e : Ending End). Ended answers now last new e) (sym same)
    (left answers now last new end reply step mark puts)
ended {End = End} answers now last new ending reply answered step mark (inr (is, (front, lost, split, some, puts))) =
    let same : ending ≡ Connection (Failed Write) = let e = is in cc in
    subst (λ (e : Ending End). Ended answers now last new e) (sym same)
    (broken answers now last new reply answered step mark front lost split some puts)

-- how the last step came about, behind what was written before
how_behind : {Server End : Type 0} (answers : Answering Server End) (now : Seen Server) (last : Traffic)
    (new : Seen Server) (ending : Ending End) (replies : List ℕ) (e : Ended answers now last new ending)
    → ((end : End) × (e.answered ≡ Err end) × (ending ≡ Host end) × (replies ++ e.more ≡ replies ++ e.reply))
    ⊎ ((ending ≡ Connection (Failed Write)) × BreaksIn replies e.reply (replies ++ e.more))
how_behind answers now last new ending replies e = elim e.how [
  | inl (end, is, ends, same) ↦ inl (end, is, ends, ap (λ o. replies ++ o) same)
  | inr (is, (front, lost, split, some, wrote)) ↦
      inr (is, (front, lost, split, some, ap (λ o. replies ++ o) wrote))
]

-- no write failed where listening ended with what was heard
out_writes : (rest : List ℕ) (end : ConnectionEnd) → RunsOut rest end → failed_writes end ≡ 0
out_writes rest end (inl (inl (inl is), unfinished)) = ap failed_writes is
out_writes rest end (inl (inl (inr (inl is)), unfinished)) = ap failed_writes is
out_writes rest end (inl (inl (inr (inr is)), unfinished)) = ap failed_writes is
out_writes rest end (inl (inr is, unfinished)) = ap failed_writes is
out_writes rest end (inr (fault, is, why)) = ap failed_writes is

-- a writer and a server at the beginning of a session
abbrev pub opens : {Server : Type 0} → Outflow → Server → Seen Server
opens outflow server = record { outflow = outflow; serving = begins server }

-- all that was heard was responded to
out_responded : {Server End : Type 0} (answers : Answering Server End) (out : Outflow) (old : Server)
    (before : List ℕ) (source source' : Source) (new : Seen Server) (end : ConnectionEnd)
    → IsHeardOut (Responds answers) (opens out old) before source source' new end
    → ConversesOn new.serving.dropped answers old before (over source out) (over source' new.outflow)
    new.serving.server (Connection end)
out_responded answers out old before source source' new end heard =
    let all = responded_all answers (opens out old) new heard.heard.traffic heard.heard.handed in
    record {
      exchange = record {
        read = heard.octets;
        written = all.replies;
        reading = heard.reading;
        puts = subst (Puts out new.outflow all.replies) (sym (out_writes heard.heard.rest end heard.ends)) all.puts;
        outcome = record {
          traffic = heard.heard.traffic;
          rest = heard.heard.rest;
          read = heard.heard.read;
          calm = heard.heard.calm;
          now = new.serving;
          replies = all.replies;
          answered = all.answered;
          ends = inl (end, refl, heard.ends, refl, refl);
        };
      };
      prompt = tt;
    }

-- nothing was read at one traffic, or nothing once it had come
prompt_behind : (source source' : Source) (octets behind : List ℕ) → Leg source source' octets
    → (octets ≡ []) ⊎ IsPrompt source source' octets behind
    → ((octets ≡ []) × Leg source source' []) ⊎ IsPrompt source source' octets behind
prompt_behind source source' octets behind leg (inl none) = inl (none, subst (Leg source source') none leg)
prompt_behind source source' octets behind leg (inr prompt) = inr prompt

-- the session was ended at one traffic
off_responded : {Server End : Type 0} (answers : Answering Server End) (out : Outflow) (old : Server)
    (before : List ℕ) (source source' : Source) (new : Seen Server) (ending : Ending End)
    → IsBrokenOff (Responds answers) (opens out old) before source source' new ending
    → ConversesOn new.serving.dropped answers old before (over source out) (over source' new.outflow)
    new.serving.server ending
off_responded answers out old before source source' new ending off =
    let all = responded_all answers (opens out old) off.now off.heard.traffic off.heard.handed in
    let one = off.ends in
    let e = ended answers off.now off.last new ending one.reply one.answered one.step one.mark one.writes in
    record {
      exchange = record {
        read = off.octets;
        written = all.replies ++ e.more;
        reading = e.reading source source' off.octets off.leg;
        puts = puts_on out off.now.outflow new.outflow all.replies e.more (failed_writes_of (of_connection ending))
            all.puts e.puts;
        outcome = record {
          traffic = off.heard.traffic;
          rest = off.heard.rest;
          read = off.heard.read;
          calm = off.heard.calm;
          now = off.now.serving;
          replies = all.replies;
          answered = all.answered;
          ends = inr (record {
            last = off.last;
            comes = off.comes;
            harmless = off.harmless;
            reply = e.reply;
            answered = e.answered;
            step = e.step;
            mark = e.mark;
            how = how_behind answers off.now off.last new ending all.replies e;
          });
        };
      };
      prompt = prompt_behind source source' off.octets off.comes.behind off.leg off.prompt;
    }

-- what a peer says was responded to
responded : {Server End : Type 0} (answers : Answering Server End) (out : Outflow) (old : Server) (before : List ℕ)
    (source source' : Source) (new : Seen Server) (ending : Ending (Ending End))
    → Listens (Responds answers) (opens out old) before source source' new ending
    → ConversesOn new.serving.dropped answers old before (over source out) (over source' new.outflow)
    new.serving.server (flat ending)
responded answers out old before source source' new (Connection end) heard =
    out_responded answers out old before source source' new end heard
responded answers out old before source source' new (Host ending) off =
    off_responded answers out old before source source' new ending off

-- the same of a listener that is seen as a writer and a server
pub responds_seen : {Listener Server End : Type 0} (answers : Answering Server End) (view : Listener → Seen Server)
    (old : Listener) (out : Outflow) (server : Server) → view old ≡ opens out server
    → (before : List ℕ) (source source' : Source) (new : Listener) (outflow : Outflow) (state : Server)
    → outflow ≡ (view new).outflow → state ≡ (view new).serving.server → (ending : Ending (Ending End))
    → Listens (λ a traffic b result. Responds answers (view a) traffic (view b) result) old before source source' new
    ending
    → ConversesOn (view new).serving.dropped answers server before (over source out) (over source' outflow) state
    (flat ending)
responds_seen answers view old out server opened before source source' new outflow state wrote became ending heard =
    let seen = listens_seen view (λ a traffic b result. Responds answers (view a) traffic (view b) result)
    (Responds answers) (λ a b traffic result one. one) old before source source' new ending heard in
    rw (wrote, became) (responded answers out server before source source' (view new) ending
    (subst (λ s. Listens (Responds answers) s before source source' (view new) ending) opened seen))
