-- Shaking hands with a peer, and then responding to it.
use Rattle.std.proofs.Common.{◌≡◌, ◌⊎◌, inl, inr, ℕ, ◌+◌, ◌<◌, List, [], ◌++◌, Bool, false, length, Some, refl, sym}
use Rattle.std.proofs.Common.{◌∙◌, ap, subst}
use Rattle.std.proofs.Common.{arith, length-append}
use Rattle.std.specs.Prelude.{⊤}
use Rattle.std.proofs.lemmas.List.{append-nil}
use Rattle.zmtp_wire.specs.declared.handshake.socket_type.SocketType.{SocketType}
use Rattle.zmtp_wire.specs.declared.traffic.Traffic.{Traffic}
use Rattle.zmtp_wire.specs.Limits.{usual_limits}
use Rattle.zmtp_wire.specs.Grammar.{ReadsUpTo}
use Rattle.zmtp_connection.specs.declared.end.ConnectionEnd.{ConnectionEnd}
use Rattle.zmtp_connection.specs.declared.end.Ending.{Ending}
use Rattle.zmtp_connection.specs.declared.end.Ending.TheVariants.{Connection}
use Rattle.zmtp_connection.specs.Ending.{of_connection}
use Rattle.zmtp_connection.specs.Peer.{BeginsWith}
use Rattle.zmtp_connection.specs.Exchange.{Devices, Exchange, Leg, Source, failed_writes_of}
use Rattle.zmtp_connection.specs.Steps.{IsPrompt, TurnsAway}
use Rattle.zmtp_connection.specs.Open.{ShakesHands, Open}
use Rattle.zmtp_connection.specs.Server.{Answering, IsLast, ServesPeer, Serving}
use Rattle.zmtp_connection.specs.Respond.{ConversesOn}
use Rattle.zmtp_connection.proofs.Legs.{leg_on, reading_of_on, puts_on}
use Rattle.zmtp_connection.proofs.OpenLemmas.{open_more}
use Rattle.zmtp_connection.proofs.PromptLemmas.{prompt_on}

-- what stands behind traffic that was read is no longer than all of it
rest_short : (octets behind : List ℕ) (traffic : List Traffic) (rest : List ℕ) (last : Traffic)
    → ReadsUpTo usual_limits octets traffic rest → (comes : BeginsWith rest last) → (more : ℕ)
    → length octets < more → length comes.behind < more
rest_short octets behind traffic rest last (read, is, reads) comes more short = omega (
  arith,
  short,
  ap length is,
  length-append read rest,
  ap length comes.split,
  length-append comes.front comes.behind,
)

-- the last read is that which brought the peer's READY
prompt_first : (one two three : Source) (octets behind after : List ℕ) → IsPrompt one two octets behind
    → Leg two three [] → ((more : ℕ) → length behind < more → length after < more) → IsPrompt one three octets after
prompt_first one two three octets behind after prompt leg shorter =
    let last = prompt.last in
    let none = leg.few in
    let e = leg.counted in
    record {
      last = record {
        front = last.front;
        piece = last.piece;
        split = last.split;
        middle = last.middle;
        before = last.before;
        read = subst (Leg last.middle three) (append-nil last.piece)
            (leg_on last.middle two three last.piece [] last.read leg);
        one = let same : two.turns ≡ three.turns = omega (arith, none, e) in last.one ∙ ap (λ n. n + 1) same;
      };
      needed = shorter (length last.piece) prompt.needed;
    }

-- nothing was read once the traffic had come that ended it, behind a peer's READY and then in all
prompt_all : {Server End : Type 0} (answers : Answering Server End) (now : Serving Server) (traffic : List Traffic)
    (rest replies written : List ℕ) (new : Serving Server) (ending : Ending End) (out : Type 0)
    (one two three : Source) (octets before more : List ℕ)
    (ends : out ⊎ IsLast answers now rest replies written new ending)
    → ReadsUpTo usual_limits (before ++ more) traffic rest
    → Leg one two octets → IsPrompt one two octets before
    → elim ends as (λ _. Type 0) [
      | inl ended ↦ ⊤
      | inr last ↦ ((more ≡ []) × Leg two three []) ⊎ IsPrompt two three more last.comes.behind
    ]
    → elim ends as (λ _. Type 0) [
      | inl ended ↦ ⊤
      | inr last ↦ IsPrompt one three (octets ++ more) last.comes.behind
    ]
prompt_all answers now traffic rest replies written new ending out one two three octets before more (inl ended) read
    leg first prompt = tt
prompt_all answers now traffic rest replies written new ending out one two three octets before more (inr last) read
    leg first (inl (none, stays)) =
    let whole : octets ≡ octets ++ more = sym (ap (λ o. octets ++ o) none ∙ append-nil octets) in
    let read' : ReadsUpTo usual_limits before traffic rest =
    subst (λ o. ReadsUpTo usual_limits o traffic rest) (ap (λ o. before ++ o) none ∙ append-nil before) read in
    subst (λ o. IsPrompt one three o last.comes.behind) whole
    (prompt_first one two three octets before last.comes.behind first stays
    (λ more short. rest_short before before traffic rest last.last read' last.comes more short))
prompt_all answers now traffic rest replies written new ending out one two three octets before more (inr last) read
    leg first (inr prompt) =
    prompt_on one two three octets more last.comes.behind leg prompt

-- a peer was open, and responded to
pub serve_open : {Server End : Type 0} (dropped : Bool) (answers : Answering Server End) (ours : SocketType)
    (old new : Server) (peer : Open) (one two three : Devices) (ending : Ending End)
    (meets : ShakesHands ours one two peer)
    → ConversesOn dropped answers old meets.behind two three new ending
    → ServesPeer dropped answers ours old one three new ending
serve_open dropped answers ours old new peer one two three ending meets said =
    let e = said.exchange in
    let talk = e.outcome in
    record {
      exchange = record {
        read = meets.read ++ e.read;
        written = meets.written ++ e.written;
        reading = reading_of_on one.source two.source three.source meets.read e.read (of_connection ending) meets.leg
            e.reading;
        puts = puts_on one.outflow two.outflow three.outflow meets.written e.written
            (failed_writes_of (of_connection ending)) meets.puts e.puts;
        outcome = inr (record {
          opening = meets.written;
          peer = peer.socket;
          behind = meets.behind ++ e.read;
          replies = e.written;
          is_open = open_more ours meets.read e.read meets.written peer.socket meets.behind meets.is_open;
          converses = talk;
          all = refl;
        });
      };
      prompt = prompt_all answers talk.now talk.traffic talk.rest talk.replies e.written
          (record { server = new; dropped = dropped }) ending _ one.source two.source three.source meets.read
          meets.behind e.read talk.ends talk.read meets.leg meets.prompt said.prompt;
    }

-- a peer wasn't open
pub serve_away : {Server End : Type 0} (answers : Answering Server End) (ours : SocketType) (old : Server)
    (one two : Devices) (end : ConnectionEnd) → Exchange (TurnsAway ours end) one two (Some end)
    → ServesPeer false answers ours old one two old (Connection end)
serve_away answers ours old one two end away = record {
  exchange = record {
    read = away.read;
    written = away.written;
    reading = away.reading;
    puts = away.puts;
    outcome = inl (end, refl, away.outcome, refl, refl);
  };
  prompt = tt;
}
