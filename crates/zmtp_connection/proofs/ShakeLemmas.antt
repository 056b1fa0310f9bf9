-- Shaking hands, step by step.
use Rattle.std.proofs.Common.{◌≡◌, inl, inr, ℕ, ◌<◌, List, [], ◌∷◌, ◌++◌, length, take, drop, Option, Some, None}
use Rattle.std.proofs.Common.{Result, Ok, Err, IfOk, IfErr, refl, sym, ◌∙◌, ap, subst, arith, append_assoc}
use Rattle.std.proofs.Common.{length-append}
use Rattle.std.proofs.lemmas.List.{append-nil, take_at, drop_at}
use Rattle.zmtp_wire.specs.declared.fault.WireFault.{WireFault}
use Rattle.zmtp_wire.specs.declared.traffic.Traffic.{Traffic}
use Rattle.zmtp_wire.specs.declared.handshake.socket_type.SocketType.{SocketType}
use Rattle.zmtp_wire.specs.Limits.{usual_limits}
use Rattle.zmtp_wire.specs.Grammar.{Spells, IsFaulty, IsUnfinished}
use Rattle.zmtp_wire.specs.Greeting.{greeting_octets, IsGreeting, IsRefusedGreeting}
use Rattle.zmtp_wire.specs.Ready.{IsIdentity, IsReady, ready_octets}
use Rattle.zmtp_wire.specs.Decoding.{Decoding, Feeds}
use Rattle.zmtp_wire.specs.Device.{Outflow, Puts}
use Rattle.zmtp_wire.specs.declared.traffic.decoder.Fed.{Fed}
use Rattle.zmtp_connection.specs.declared.fault.ConnectionFault.TheVariants.{Memory, Write}
use Rattle.zmtp_connection.specs.declared.end.ConnectionEnd.{ConnectionEnd}
use Rattle.zmtp_connection.specs.declared.end.ConnectionEnd.TheVariants.{Eof, Failed, Wire}
use Rattle.zmtp_connection.specs.declared.shaking.Unheard.{Unheard}
use Rattle.zmtp_connection.specs.Peer.{IsGreeted, IsTurnedAway}
use Rattle.zmtp_connection.specs.Exchange.{ComesToByEnd, Exchange, Leg, Reading, Source, failed_writes}
use Rattle.zmtp_connection.specs.Steps.{BringsNothing, ComesLate, IsFed, IsNotMet, IsPrompt, IsStop, PutsAll}
use Rattle.zmtp_connection.specs.Steps.{TurnsAway, fresh}
use Rattle.zmtp_connection.specs.Open.{IsLeft, ShakesHands, Open}
use Rattle.zmtp_connection.proofs.Legs.{leg_none, leg_on, reading_on, decided, wire_decided, memory_decided}
use Rattle.zmtp_connection.proofs.Legs.{write_decided, puts_on, over}
use Rattle.zmtp_connection.proofs.PromptLemmas.{piece_needed, prompt_on}
use Rattle.zmtp_connection.proofs.Unfinished.{nothing_unfinished}

-- reading that stopped leaves what was due
stop_outcome : (Comes : List ℕ → List ℕ → ConnectionEnd → Type 0) (octets written : List ℕ) (end : ConnectionEnd)
    → IsStop end → Comes octets written Eof → ComesToByEnd Comes octets written end
stop_outcome Comes octets written end (inl is) comes = rw is comes
stop_outcome Comes octets written end (inr (inl is)) comes = rw is comes
stop_outcome Comes octets written end (inr (inr is)) comes = rw is comes

stop_puts : (before after : Outflow) (octets : List ℕ) (end : ConnectionEnd) → IsStop end → Puts before after octets 0
    → Puts before after octets (failed_writes end)
stop_puts before after octets end (inl is) puts = rw is puts
stop_puts before after octets end (inr (inl is)) puts = rw is puts
stop_puts before after octets end (inr (inr is)) puts = rw is puts

-- a peer of whom less than a greeting was read
silent : (ours : SocketType) (octets opening : List ℕ) → length octets < 64 → opening ≡ greeting_octets
    → IsTurnedAway ours octets opening Eof
silent ours octets opening short is = inl (record { short = short; greets = is; ends = refl })

-- our greeting couldn't be written
pub greeting_unsent : (ours : SocketType) (source : Source) (before after : Outflow) (octets : List ℕ)
    (end : ConnectionEnd) → octets ≡ greeting_octets → PutsAll before after octets (Err end)
    → Exchange (TurnsAway ours end) (over source before) (over source after) (Some end)
greeting_unsent ours source before after octets end same
    (failed, (front, lost, is, some, puts)) = rw failed (record {
      read = [];
      written = front;
      reading = decided source source [] (Failed Write) write_decided (leg_none source);
      puts = puts;
      outcome = (
        lost,
        some,
        record {
          front = [];
          behind = [];
          split = refl;
          so_far = silent ours [] (front ++ lost) (omega arith) (sym is ∙ same);
        },
      );
    })

-- no whole greeting was read
pub greeting_stopped : (ours : SocketType) (source source' : Source) (before after : Outflow)
    (octets : List ℕ) (end : ConnectionEnd) → Puts before after greeting_octets 0
    → IsStop end → length octets < 64 → Reading source source' octets end
    → Exchange (TurnsAway ours end) (over source before) (over source' after) (Some end)
greeting_stopped ours source source' before after octets end puts stop short reading = record {
  read = octets;
  written = greeting_octets;
  reading = reading;
  puts = stop_puts before after greeting_octets end stop puts;
  outcome = stop_outcome (IsTurnedAway ours) octets greeting_octets end stop
      (silent ours octets greeting_octets short refl);
}

-- the greeting at the front of what was read
pub front_64 : (opening octets : List ℕ) → length opening ≡ 64 → take 64 (opening ++ octets) ≡ opening
front_64 opening octets whole = take_at opening octets 64 whole

pub behind_64 : (opening octets : List ℕ) → length opening ≡ 64 → drop 64 (opening ++ octets) ≡ octets
behind_64 opening octets whole = drop_at opening octets 64 whole

-- the peer's greeting was refused
pub greeting_refused : (ours : SocketType) (source source' : Source) (before after : Outflow)
    (opening : List ℕ) (fault : WireFault) → Puts before after greeting_octets 0
    → length opening ≡ 64 → Leg source source' opening → IsRefusedGreeting opening fault
    → Exchange (TurnsAway ours (Wire fault)) (over source before) (over source' after) (Some (Wire fault))
greeting_refused ours source source' before after opening fault puts whole leg refused =
    let same : take 64 opening ≡ opening = ap (take 64) (sym (append-nil opening)) ∙ front_64 opening [] whole in
    record {
      read = opening;
      written = greeting_octets;
      reading = decided source source' opening (Wire fault) (wire_decided fault) leg;
      puts = puts;
      outcome = inr (inr (inl (record {
        fault = fault;
        whole = omega (arith, whole);
        refused = subst (λ o. IsRefusedGreeting o fault) (sym same) refused;
        greets = refl;
        ends = refl;
      })));
    }

-- there was no memory for our READY
pub ready_refused : (ours : SocketType) (source source' : Source) (before after : Outflow)
    (opening : List ℕ) → Puts before after greeting_octets 0
    → Leg source source' opening → Exchange (TurnsAway ours (Failed Memory)) (over source before) (over source' after)
    (Some (Failed Memory))
ready_refused ours source source' before after opening puts leg = record {
  read = opening;
  written = greeting_octets;
  reading = decided source source' opening (Failed Memory) memory_decided leg;
  puts = puts;
  outcome = record {
    front = [];
    behind = opening;
    split = refl;
    so_far = silent ours [] greeting_octets (omega arith) refl;
  };
}

-- a peer whose greeting is accepted, and what stands behind it
greeted : (ours : SocketType) (opening octets written : List ℕ) → length opening ≡ 64 → IsGreeting opening → written
    ≡ greeting_octets ++ ready_octets ours → IsGreeted ours (opening ++ octets) written
greeted ours opening octets written whole accepted is = record {
  whole = omega (arith, whole, length-append opening octets);
  accepted = subst IsGreeting (sym (front_64 opening octets whole)) accepted;
  greets = is;
}

-- nothing whole stands behind the peer's greeting
not_ready : (ours : SocketType) (opening octets written : List ℕ) → length opening ≡ 64 → IsGreeting opening → written
    ≡ greeting_octets ++ ready_octets ours → IsUnfinished usual_limits octets
    → IsTurnedAway ours (opening ++ octets) written Eof
not_ready ours opening octets written whole accepted is unfinished = inr (inr (inl (record {
  greeted = greeted ours opening octets written whole accepted is;
  ends = subst (IsUnfinished usual_limits) (sym (behind_64 opening octets whole)) unfinished;
})))

-- our READY was written, or it couldn't be
pub ready_unsent : (result : Result Unit ConnectionEnd) (ours : SocketType) (source source' : Source)
    (before middle after : Outflow)
    (opening octets : List ℕ) → octets ≡ ready_octets ours → Puts before middle greeting_octets 0
    → length opening ≡ 64 → Leg source source' opening → IsGreeting opening
    → PutsAll middle after octets result
    → IfErr result (λ end. Exchange (TurnsAway ours end) (over source before) (over source' after) (Some end))
ready_unsent (Ok done) ours source source' before middle after opening octets same puts whole leg accepted
    put = tt
ready_unsent (Err end) ours source source' before middle after opening octets same puts whole leg accepted
    (failed, (front, lost, is, some, put)) = rw failed (record {
      read = opening;
      written = greeting_octets ++ front;
      reading = decided source source' opening (Failed Write) write_decided leg;
      puts = puts_on before middle after greeting_octets front 1 puts put;
      outcome = (
        lost,
        some,
        record {
          front = opening ++ [];
          behind = [];
          split = sym (append-nil (opening ++ []) ∙ append-nil opening);
          so_far = not_ready ours opening [] ((greeting_octets ++ front) ++ lost) whole accepted
              (append_assoc greeting_octets front lost ∙ ap (λ o. greeting_octets ++ o) (sym is ∙ same))
              (nothing_unfinished usual_limits);
        },
      );
    })

-- a peer that was greeted, and what was read and written by then
pub record Opened (ours : SocketType) (source source' : Source) (before after : Outflow)
    (opening : List ℕ) : Type 0 where
  pub whole : length opening ≡ 64
  pub leg : Leg source source' opening
  pub accepted : IsGreeting opening
  pub puts : Puts before after (greeting_octets ++ ready_octets ours) 0

pub opened : (ours : SocketType) (source source' : Source) (before after : Outflow)
    (opening : List ℕ) → length opening ≡ 64 → Leg source source' opening
    → IsGreeting opening → Puts before after (greeting_octets ++ ready_octets ours) 0
    → Opened ours source source' before after opening
opened ours source source' before after opening whole leg accepted puts = record {
  whole = whole;
  leg = leg;
  accepted = accepted;
  puts = puts;
}

-- our READY was written behind our greeting
pub ready_sent : (result : Result Unit ConnectionEnd) (ours : SocketType) (source source' : Source)
    (before middle after : Outflow)
    (opening octets : List ℕ) → octets ≡ ready_octets ours → Puts before middle greeting_octets 0
    → length opening ≡ 64 → Leg source source' opening → IsGreeting opening
    → PutsAll middle after octets result
    → IfOk result (λ _. (o : List ℕ) × (length o ≡ 64) × IsGreeting o × Leg source source' o
    × Puts before after (greeting_octets ++ ready_octets ours) 0)
ready_sent (Err end) ours source source' before middle after opening octets same puts whole leg accepted
    failed = tt
ready_sent (Ok done) ours source source' before middle after opening octets same puts whole leg accepted
    put = (
      opening,
      whole,
      accepted,
      leg,
      puts_on before middle after greeting_octets (ready_octets ours) 0 puts
          (subst (λ o. Puts middle after o 0) same put),
    )

brings_puts : (before after : Outflow) (written octets : List ℕ) (end : ConnectionEnd) → BringsNothing octets end
    → Puts before after written 0 → Puts before after written (failed_writes end)
brings_puts before after written octets end (inl (stop, unfinished)) puts = stop_puts before after written end stop puts
brings_puts before after written octets end (inr (fault, is, refused)) puts = rw is puts

brings_outcome : (ours : SocketType) (opening octets : List ℕ) (end : ConnectionEnd) → length opening ≡ 64
    → IsGreeting opening → BringsNothing octets end
    → TurnsAway ours end (opening ++ octets) (greeting_octets ++ ready_octets ours)
brings_outcome ours opening octets end whole accepted (inl (stop, unfinished)) =
    stop_outcome (IsTurnedAway ours) (opening ++ octets) (greeting_octets ++ ready_octets ours) end stop
    (not_ready ours opening octets (greeting_octets ++ ready_octets ours) whole accepted refl unfinished)
brings_outcome ours opening octets end whole accepted (inr (fault, is, inl memory)) = rw is (inl (
  memory,
  record {
    front = opening ++ [];
    behind = octets;
    split = ap (λ o. o ++ octets) (sym (append-nil opening));
    so_far = not_ready ours opening [] (greeting_octets ++ ready_octets ours) whole accepted refl
        (nothing_unfinished usual_limits);
  },
))
brings_outcome ours opening octets end whole accepted (inr (fault, is, inr faulty)) =
    rw is (inr (inr (inr (inl (record {
      greeted = greeted ours opening octets (greeting_octets ++ ready_octets ours) whole accepted refl;
      ends = subst (λ o. IsFaulty usual_limits o fault) (sym (behind_64 opening octets whole)) faulty;
    })))))

-- nothing whole came behind the peer's greeting
pub nothing_came : (ours : SocketType) (one two three : Source) (before after : Outflow)
    (opening octets : List ℕ) (end : ConnectionEnd)
    → Opened ours one two before after opening → BringsNothing octets end
    → Reading two three octets end
    → Exchange (TurnsAway ours end) (over one before) (over three after) (Some end)
nothing_came ours one two three before after opening octets end o brings reading = record {
  read = opening ++ octets;
  written = greeting_octets ++ ready_octets ours;
  reading = reading_on one two three opening octets end o.leg reading;
  puts = brings_puts before after (greeting_octets ++ ready_octets ours) octets end brings o.puts;
  outcome = brings_outcome ours opening octets end o.whole o.accepted brings;
}

-- the first traffic of octets that were fed, and what stands behind it
record Split (octets : List ℕ) (first : Traffic) (others : List Traffic) (fault : Option WireFault) (decoder : Decoding)
    : Type 0 where
  front : List ℕ
  behind : List ℕ
  split : octets ≡ front ++ behind
  spelled : Spells usual_limits front first
  feeds : Feeds fresh behind others fault decoder

split_first : (octets : List ℕ) (first : Traffic) (others : List Traffic) (fault : Option WireFault)
    (decoder : Decoding) → Feeds fresh octets (first ∷ others) fault decoder → Split octets first others fault decoder
split_first octets first others None decoder ((read, is, (head, tail, split, spelled, reads)), unfinished, alive) =
    record {
      front = head;
      behind = tail ++ decoder.kept;
      split = is ∙ ap (λ o. o ++ decoder.kept) split ∙ append_assoc head tail decoder.kept;
      spelled = spelled;
      feeds = ((tail, refl, reads), unfinished, alive);
    }
split_first octets first others (Some fault) decoder (
  (rest, (read, is, (head, tail, split, spelled, reads)), refused),
  spent,
) = record {
  front = head;
  behind = tail ++ rest;
  split = is ∙ ap (λ o. o ++ rest) split ∙ append_assoc head tail rest;
  spelled = spelled;
  feeds = ((rest, (tail, refl, reads), refused), spent);
}

-- nothing was read behind what comes first
ready_prompt : (old new : Source) (octets : List ℕ) (first : Traffic) (front behind : List ℕ)
    → ComesLate old new octets → octets ≡ front ++ behind → Spells usual_limits front first
    → IsPrompt old new octets behind
ready_prompt old new octets first front behind late split spelled = record {
  last = late.last;
  needed = piece_needed late.last.front late.last.piece (late.last.front ++ late.last.piece) [] first late.nothing
      ([], refl, refl)
      (record { front = front; behind = behind; split = sym late.last.split ∙ split; spelled = spelled });
}

-- the peer was open
peer_open : (ours : SocketType) (one two three : Source) (before after : Outflow)
    (opening octets : List ℕ) (fed fed' : Fed) (decoder : Decoding) (first : Traffic) (peer : Open)
    → Opened ours one two before after opening → Leg two three octets
    → ComesLate two three octets → IsFed fed decoder octets → fed.traffic ≡ first ∷ fed'.traffic
    → fed'.fault ≡ fed.fault → peer.unheard ≡ Some (record { fed = fed'; decoder = decoder })
    → IsReady first ours (Ok (record { peer = peer.socket })) → IsIdentity first peer.identity
    → ShakesHands ours (over one before) (over three after) peer
peer_open ours one two three before after opening octets fed fed' decoder first peer o leg late
    (feeds, limits) traffic_is fault_is unheard_is accepted identified =
    let feeds' : Feeds fresh octets (first ∷ fed'.traffic) fed'.fault decoder =
    subst (λ t. Feeds fresh octets t fed'.fault decoder) traffic_is
    (subst (λ f. Feeds fresh octets fed.traffic f decoder) (sym fault_is) feeds) in
    let s = split_first octets first fed'.traffic fed'.fault decoder feeds' in
    record {
      read = opening ++ octets;
      written = greeting_octets ++ ready_octets ours;
      behind = s.behind;
      leg = leg_on one two three opening octets o.leg leg;
      puts = o.puts;
      is_open = record {
        greeted = greeted ours opening octets (greeting_octets ++ ready_octets ours) o.whole o.accepted refl;
        first = first;
        comes = record { front = s.front; split = behind_64 opening octets o.whole ∙ s.split; spelled = s.spelled };
        accepted = accepted;
      };
      identified = identified;
      holds = (record { fed = fed'; decoder = decoder }, unheard_is, (s.feeds, limits));
      prompt = prompt_on one two three opening octets s.behind o.leg
          (ready_prompt two three octets first s.front s.behind late s.split s.spelled);
    }

-- the peer's first traffic was refused
peer_refused : (ours : SocketType) (one two three : Source) (before after : Outflow)
    (opening octets : List ℕ) (fed : Fed) (decoder : Decoding) (first : Traffic) (others : List Traffic)
    (fault : WireFault)
    → Opened ours one two before after opening → Leg two three octets
    → IsFed fed decoder octets → fed.traffic ≡ first ∷ others
    → IsReady first ours (Err fault) → Exchange (TurnsAway ours (Wire fault)) (over one before) (over three after)
    (Some (Wire fault))
peer_refused ours one two three before after opening octets fed decoder first others fault o leg
    (feeds, limits) traffic_is refused =
    let s = split_first octets first others fed.fault decoder
    (subst (λ t. Feeds fresh octets t fed.fault decoder) traffic_is feeds) in
    record {
      read = opening ++ octets;
      written = greeting_octets ++ ready_octets ours;
      reading = decided one three (opening ++ octets) (Wire fault) (wire_decided fault)
          (leg_on one two three opening octets o.leg leg);
      puts = o.puts;
      outcome = inr (inr (inr (inr (record {
        greeted = greeted ours opening octets (greeting_octets ++ ready_octets ours) o.whole o.accepted refl;
        first = first;
        behind = s.behind;
        comes = record { front = s.front; split = behind_64 opening octets o.whole ∙ s.split; spelled = s.spelled };
        fault = fault;
        refused = refused;
        ends = refl;
      }))));
    }

-- what is left behind the first traffic is left of some octets
pub left_behind : (fed : Fed) (decoder : Decoding) (first : Traffic) (others : List Traffic)
    → (octets : List ℕ) × IsFed fed decoder octets → fed.traffic ≡ first ∷ others
    → IsLeft (Some (record { fed = record { traffic = others; fault = fed.fault }; decoder = decoder }))
left_behind fed decoder first others (octets, (feeds, limits)) traffic_is =
    let s = split_first octets first others fed.fault decoder
    (subst (λ t. Feeds fresh octets t fed.fault decoder) traffic_is feeds) in (s.behind, (s.feeds, limits))

-- a peer whose READY was accepted was open
pub judged_open : (result : Result Open ConnectionEnd) (ours : SocketType) (one two three : Source)
    (before after : Outflow) (opening octets : List ℕ) (fed : Fed) (decoder : Decoding)
    → Opened ours one two before after opening → Leg two three octets
    → ComesLate two three octets → IsFed fed decoder octets
    → IfOk result (λ peer. (first : Traffic) × (unheard : Unheard) × (peer.unheard ≡ Some unheard)
    × (fed.traffic ≡ first ∷ unheard.fed.traffic) × (unheard.fed.fault ≡ fed.fault) × (unheard.decoder ≡ decoder)
    × IsReady first ours (Ok (record { peer = peer.socket })) × IsIdentity first peer.identity)
    → IfOk result (λ peer. ShakesHands ours (over one before) (over three after) peer)
judged_open (Err end) ours one two three before after opening octets fed decoder o leg late is judged
    = tt
judged_open (Ok peer) ours one two three before after opening octets fed decoder o leg late is
    (first, unheard, unheard_is, traffic_is, fault_is, decoder_is, accepted, identified) =
    peer_open ours one two three before after opening octets fed unheard.fed decoder first peer
    o leg late is traffic_is fault_is
    (unheard_is ∙ ap (λ (d : Decoding). Some (record { fed = unheard.fed; decoder = d })) decoder_is) accepted
    identified

-- there was no memory for what the peer's READY says
peer_forgotten : (ours : SocketType) (one two three : Source) (before after : Outflow) (opening octets : List ℕ)
    → Opened ours one two before after opening → Leg two three octets
    → Exchange (TurnsAway ours (Failed Memory)) (over one before) (over three after) (Some (Failed Memory))
peer_forgotten ours one two three before after opening octets o leg = record {
  read = opening ++ octets;
  written = greeting_octets ++ ready_octets ours;
  reading = decided one three (opening ++ octets) (Failed Memory) memory_decided
      (leg_on one two three opening octets o.leg leg);
  puts = o.puts;
  outcome = record {
    front = opening ++ [];
    behind = octets;
    split = ap (λ o. o ++ octets) (sym (append-nil opening));
    so_far = not_ready ours opening [] (greeting_octets ++ ready_octets ours) o.whole o.accepted refl
        (nothing_unfinished usual_limits);
  };
}

-- a peer that wasn't met was turned away
pub judged_refused : (result : Result Open ConnectionEnd) (ours : SocketType) (one two three : Source)
    (before after : Outflow) (opening octets : List ℕ) (fed : Fed) (decoder : Decoding)
    → Opened ours one two before after opening → Leg two three octets
    → IsFed fed decoder octets
    → IfErr result (λ end. (first : Traffic) × (others : List Traffic) × (fed.traffic ≡ first ∷ others)
    × IsNotMet ours first end)
    → IfErr result (λ end. Exchange (TurnsAway ours end) (over one before) (over three after) (Some end))
judged_refused (Ok peer) ours one two three before after opening octets fed decoder o leg is
    judged = tt
judged_refused (Err end) ours one two three before after opening octets fed decoder o leg is
    (first, others, traffic_is, inl (fault, end_is, refused)) = rw end_is
    (peer_refused ours one two three before after opening octets fed decoder first others fault o leg
    is traffic_is refused)
judged_refused (Err end) ours one two three before after opening octets fed decoder o leg is
    (first, others, traffic_is, inr end_is) = rw end_is
    (peer_forgotten ours one two three before after opening octets o leg)
