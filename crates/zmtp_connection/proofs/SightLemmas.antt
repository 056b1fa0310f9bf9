-- Serving a peer, by what is seen of the server.
use Rattle.std.proofs.Common.{◌≡◌, inl, inr, ℕ, List, [], ◌∷◌, Bool, false, Result, Ok, ap, subst, sym}
use Rattle.std.specs.Prelude.{◌⊎◌, ⊤}
use Rattle.zmtp_wire.specs.declared.handshake.socket_type.SocketType.{SocketType}
use Rattle.zmtp_wire.specs.declared.traffic.Traffic.{Traffic}
use Rattle.zmtp_wire.specs.declared.traffic.Traffic.TheVariants as traffic
use Rattle.zmtp_wire.specs.declared.traffic.message.Message.{Message}
use Rattle.zmtp_connection.specs.declared.end.ConnectionEnd.{ConnectionEnd}
use Rattle.zmtp_connection.specs.declared.end.Ending.{Ending}
use Rattle.zmtp_connection.specs.declared.end.Ending.TheVariants.{Connection}
use Rattle.zmtp_connection.specs.declared.server.Answered.{Answered}
use Rattle.zmtp_connection.specs.Exchange.{Devices, Source}
use Rattle.zmtp_connection.specs.Steps.{IsPrompt}
use Rattle.zmtp_connection.specs.Listen.{RunsOut}
use Rattle.zmtp_connection.specs.Server.{Answering, AnswersAll, GoesOn, IsLast, IsServed, Serves, ServesPeer, Serving}
use Rattle.zmtp_connection.specs.Server.{Treats, told_ending}

-- Each step of a server is a step of what is seen of it, while this holds of the server.
pub record Sight {Server Other End : Type 0} (answers : Answering Server End)
    (sees : Answering Other End) : Type 1 where
  pub view : Server → Other
  pub holds : Server → Type 0
  pub steps : (old new : Server) (message : Message) (reply : List ℕ) (answered : Result Answered End)
      → holds old → answers old message reply new answered
      → holds new × sees (view old) message reply (view new) answered

treats_seen : {Server Other End : Type 0} {answers : Answering Server End} {sees : Answering Other End}
    (s : Sight answers sees) (old new : Server) (item : Traffic) (reply : List ℕ) (answered : Result Answered End)
    → s.holds old
    → Treats answers old item reply new answered
    → s.holds new × Treats sees (s.view old) item reply (s.view new) answered
treats_seen s old new (traffic.Message message) reply answered holds step =
    s.steps old new message reply answered holds step
treats_seen s old new (traffic.Command name rest) reply answered holds (pong, same, done) =
    (subst s.holds (sym same) holds, (pong, ap s.view same, done))

-- what is seen of a server in a session
abbrev seen : {Server Other End : Type 0} {answers : Answering Server End} {sees : Answering Other End}
    → Sight answers sees
    → Serving Server → Serving Other
seen s serving = record { server = s.view serving.server; dropped = serving.dropped }

all_seen : {Server Other End : Type 0} {answers : Answering Server End} {sees : Answering Other End}
    (s : Sight answers sees) (old new : Serving Server) (items : List Traffic) (replies : List ℕ) → s.holds old.server
    → AnswersAll (GoesOn answers) old items replies new
    → s.holds new.server × AnswersAll (GoesOn sees) (seen s old) items replies (seen s new)
all_seen s old new [] replies holds (none, same) =
    (subst (λ (e : Serving _). s.holds e.server) (sym same) holds, (none, ap (seen s) same))
all_seen s old new (first ∷ others) replies holds (middle, reply, later, (answered, step, mark), rest, is) =
    let (kept, one) = treats_seen s old.server middle.server first reply (Ok answered) holds step in
    let (last, all) = all_seen s middle new others later kept rest in
    (last, (seen s middle, reply, later, (answered, one, mark), all, is))

abbrev last_seen : {Server Other End : Type 0} {answers : Answering Server End} {sees : Answering Other End}
    (s : Sight answers sees) (now : Serving Server) (rest replies written : List ℕ) (new : Serving Server)
    (end : Ending End) → s.holds now.server → IsLast answers now rest replies written new end
    → IsLast sees (seen s now) rest replies written (seen s new) end
last_seen s now rest replies written new end holds last = record {
  last = last.last;
  comes = last.comes;
  harmless = last.harmless;
  reply = last.reply;
  answered = last.answered;
  step = (treats_seen s now.server new.server last.last last.reply last.answered holds last.step).1;
  mark = last.mark;
  how = last.how;
}

-- how a session ends
abbrev Ends : {Server End : Type 0} → Answering Server End → Serving Server → List ℕ → List ℕ → List ℕ
    → Serving Server → Ending End → Type 0
Ends answers now rest replies written new end =
    ((out : ConnectionEnd) × (end ≡ Connection out) × RunsOut rest out × (written ≡ replies) × (now ≡ new))
    ⊎ IsLast answers now rest replies written new end

abbrev ends_seen : {Server Other End : Type 0} {answers : Answering Server End} {sees : Answering Other End}
    (s : Sight answers sees) (now : Serving Server) (rest replies written : List ℕ) (new : Serving Server)
    (end : Ending End) → s.holds now.server → Ends answers now rest replies written new end
    → Ends sees (seen s now) rest replies written (seen s new) end
ends_seen s now rest replies written new end holds (inl (out, is, runs, wrote, same)) =
    inl (out, is, runs, wrote, ap (seen s) same)
ends_seen s now rest replies written new end holds (inr last) =
    inr (last_seen s now rest replies written new end holds last)

abbrev served_seen : {Server Other End : Type 0} {answers : Answering Server End} {sees : Answering Other End}
    (s : Sight answers sees) (dropped : Bool) (ours : SocketType) (old : Server) (octets written : List ℕ)
    (new : Server) (end : Ending End) → s.holds old → IsServed dropped answers ours old octets written new end
    → IsServed dropped sees ours (s.view old) octets written (s.view new) end
served_seen s dropped ours old octets written new end holds served =
    let talk = served.converses in
    let all = all_seen s (record { server = old; dropped = false }) talk.now talk.traffic talk.replies holds
    talk.answered in
    record {
      opening = served.opening;
      peer = served.peer;
      behind = served.behind;
      replies = served.replies;
      is_open = served.is_open;
      converses = record {
        traffic = talk.traffic;
        rest = talk.rest;
        read = talk.read;
        calm = talk.calm;
        now = seen s talk.now;
        replies = talk.replies;
        answered = all.1;
        ends = ends_seen s talk.now talk.rest talk.replies served.replies
            (record { server = new; dropped = dropped }) end all.0 talk.ends;
      };
      all = served.all;
    }

abbrev serves_seen : {Server Other End : Type 0} {answers : Answering Server End} {sees : Answering Other End}
    (s : Sight answers sees) (dropped : Bool) (ours : SocketType) (old : Server) (octets written : List ℕ)
    (new : Server) (end : Ending End) → s.holds old → Serves dropped answers ours old octets written new end
    → Serves dropped sees ours (s.view old) octets written (s.view new) end
serves_seen s dropped ours old octets written new end holds (inl (out, is, away, same, none)) =
    inl (out, is, away, ap s.view same, none)
serves_seen s dropped ours old octets written new end holds (inr served) =
    inr (served_seen s dropped ours old octets written new end holds served)

-- nothing was read once the traffic had come that ended a session
prompt_ends : {Server Other End : Type 0} {answers : Answering Server End} {sees : Answering Other End}
    (s : Sight answers sees) (now : Serving Server) (rest replies written : List ℕ) (new : Serving Server)
    (end : Ending End)
    (holds : s.holds now.server) (one two : Source) (octets : List ℕ)
    (ends : Ends answers now rest replies written new end)
    → elim ends as (λ _. Type 0) [
      | inl out ↦ ⊤
      | inr last ↦ IsPrompt one two octets last.comes.behind
    ]
    → elim (ends_seen s now rest replies written new end holds ends) as (λ _. Type 0) [
      | inl out ↦ ⊤
      | inr last ↦ IsPrompt one two octets last.comes.behind
    ]
prompt_ends s now rest replies written new end holds one two octets (inl out) prompt = tt
prompt_ends s now rest replies written new end holds one two octets (inr last) prompt = prompt

-- what a peer comes to, by what is seen of the server
abbrev Prompt : {Server End : Type 0} (answers : Answering Server End) (dropped : Bool) (ours : SocketType)
    (old : Server)
    (octets written : List ℕ) (new : Server) (end : Ending End) → Source → Source
    → Serves dropped answers ours old octets written new end → Type 0
Prompt answers dropped ours old octets written new end one two outcome = elim outcome as (λ _. Type 0) [
  | inl away ↦ ⊤
  | inr served ↦ elim served.converses.ends as (λ _. Type 0) [
    | inl out ↦ ⊤
    | inr last ↦ IsPrompt one two octets last.comes.behind
  ]
]

prompt_seen : {Server Other End : Type 0} {answers : Answering Server End} {sees : Answering Other End}
    (s : Sight answers sees) (dropped : Bool) (ours : SocketType) (old : Server) (octets written : List ℕ)
    (new : Server) (end : Ending End)
    (holds : s.holds old) (one two : Source)
    (outcome : Serves dropped answers ours old octets written new end)
    → Prompt answers dropped ours old octets written new end one two outcome
    → Prompt sees dropped ours (s.view old) octets written (s.view new) end one two
    (serves_seen s dropped ours old octets written new end holds outcome)
prompt_seen s dropped ours old octets written new end holds one two (inl away) prompt = tt
prompt_seen s dropped ours old octets written new end holds one two (inr served) prompt =
    let talk = served.converses in
    prompt_ends s talk.now talk.rest talk.replies served.replies (record { server = new; dropped = dropped }) end
    (all_seen s (record { server = old; dropped = false }) talk.now talk.traffic talk.replies holds
    talk.answered).0 one two octets talk.ends prompt

peer_seen : {Server Other End : Type 0} {answers : Answering Server End} {sees : Answering Other End}
    (s : Sight answers sees) (dropped : Bool) (ours : SocketType) (old new : Server) (one two : Devices)
    (end : Ending End) → s.holds old → ServesPeer dropped answers ours old one two new end
    → ServesPeer dropped sees ours (s.view old) one two (s.view new) end
peer_seen s dropped ours old new one two end holds peer =
    let e = peer.exchange in
    record {
      exchange = record {
        read = e.read;
        written = e.written;
        reading = e.reading;
        puts = e.puts;
        outcome = serves_seen s dropped ours old e.read e.written new end holds e.outcome;
      };
      prompt = prompt_seen s dropped ours old e.read e.written new end holds one.source two.source e.outcome
          peer.prompt;
    }

-- the same, of one that is equal to what is seen of the server at the end
pub peer_seen_as : {Server Other End : Type 0} {answers : Answering Server End} {sees : Answering Other End}
    (s : Sight answers sees) (ours : SocketType) (old new : Server) (became : Other) (one : Devices) (two : ℕ → Devices)
    (given : Ending End) → s.holds old → s.view new ≡ became
    → (left : ℕ) × (dropped : Bool) × (ended : Ending End)
    × ServesPeer dropped answers ours old one (two left) new ended × (given ≡ told_ending dropped ended)
    → (left : ℕ) × (dropped : Bool) × (ended : Ending End)
    × ServesPeer dropped sees ours (s.view old) one (two left) became ended
    × (given ≡ told_ending dropped ended)
peer_seen_as {Other = Other} {sees = sees} s ours old new became one two given holds is
    (left, dropped, ended, peer, told_so) = (
      left,
      dropped,
      ended,
      subst (λ (o : Other). ServesPeer dropped sees ours (s.view old) one (two left) o ended) is
          (peer_seen s dropped ours old new one (two left) ended holds peer),
      told_so,
    )
