-- Listening to a peer, piece by piece.
use Rattle.std.proofs.Common.{◌≡◌, ◌⊎◌, inl, inr, ℕ, ◌+◌, ◌<◌, List, [], ◌++◌, length, false}
use Rattle.std.proofs.Common.{Option, Some, None, Result, Ok, Err, refl, sym, ◌∙◌, subst}
use Rattle.std.proofs.Common.{append_assoc}
use Rattle.std.proofs.lemmas.List.{append-nil}
use Rattle.zmtp_wire.specs.declared.fault.WireFault.{WireFault}
use Rattle.zmtp_wire.specs.declared.fault.WireFault.TheVariants.{OutOfMemory}
use Rattle.zmtp_wire.specs.declared.traffic.Traffic.{Traffic}
use Rattle.zmtp_wire.specs.declared.traffic.decoder.Fed.{Fed}
use Rattle.zmtp_wire.specs.Limits.{usual_limits}
use Rattle.zmtp_wire.specs.Grammar.{ReadsUpTo, IsUnfinished}
use Rattle.zmtp_wire.specs.Traffic.{is_error}
use Rattle.zmtp_wire.specs.Decoding.{Decoding, Feeds, IsFaultOf}
use Rattle.zmtp_connection.specs.declared.fault.ConnectionFault.TheVariants.{Memory}
use Rattle.zmtp_connection.specs.declared.end.ConnectionEnd.{ConnectionEnd}
use Rattle.zmtp_connection.specs.declared.end.ConnectionEnd.TheVariants.{Failed, Wire}
use Rattle.zmtp_connection.specs.declared.end.Ending.{Ending}
use Rattle.zmtp_connection.specs.declared.end.Ending.TheVariants.{Connection, Host}
use Rattle.zmtp_connection.specs.Peer.{BeginsWith, EndsBehind, IsCalm}
use Rattle.zmtp_connection.specs.Exchange.{Leg, Reading, Source}
use Rattle.zmtp_connection.specs.Steps.{IsPrompt, IsStop, fresh}
use Rattle.zmtp_connection.specs.Open.{IsLeftOf}
use Rattle.zmtp_connection.specs.Listen.{Heard, Hearing, HearsAll, IsBrokenOff, IsHeardOut, Listens}
use Rattle.zmtp_connection.specs.Handing.{HandsFed, HandsFront, HandsPiece, HearsPiece}
use Rattle.zmtp_connection.proofs.Legs.{leg_none, leg_on, stop_on, decided, wire_decided, memory_decided}
use Rattle.zmtp_connection.proofs.FirstLemmas.{fed_all}
use Rattle.zmtp_connection.proofs.PromptLemmas.{piece_needed, last_read}
use Rattle.zmtp_connection.proofs.TrafficLemmas.{calm_on, hears_on, reads_on, reads_front}
use Rattle.zmtp_connection.proofs.Unfinished.{nothing_unfinished}

-- what was heard so far, and what the decoder keeps
pub record HeardSoFar {Listener End : Type 0} (hears : Hearing Listener End) (old now : Listener) (decoder : Decoding)
    (octets : List ℕ) : Type 0 where
  pub traffic : List Traffic
  pub read : ReadsUpTo usual_limits octets traffic decoder.kept
  pub unfinished : IsUnfinished usual_limits decoder.kept
  pub alive : decoder.spent ≡ false
  pub limits : decoder.limits ≡ usual_limits
  pub calm : IsCalm traffic
  pub handed : HearsAll hears old traffic now

heard_none : {Listener End : Type 0} (hears : Hearing Listener End) (old : Listener) → HeardSoFar hears old old fresh []
heard_none hears old = record {
  traffic = [];
  read = ([], refl, refl);
  unfinished = nothing_unfinished usual_limits;
  alive = refl;
  limits = refl;
  calm = tt;
  handed = refl;
}

-- a piece that was handed on whole
heard_more : {Listener End : Type 0} (hears : Hearing Listener End) (old now new : Listener)
    (decoder decoder' : Decoding)
    (octets piece : List ℕ) (more : List Traffic) (fault : Option WireFault)
    → HeardSoFar hears old now decoder octets → Feeds decoder piece more fault decoder'
    → decoder'.limits ≡ decoder.limits → HandsFed hears now more fault new (Ok tt)
    → HeardSoFar hears old new decoder' (octets ++ piece)
heard_more hears old now new decoder decoder' octets piece more (Some fault) heard feeds same (none, (calm, handed)) =
    absurd (let e = none in cc)
heard_more hears old now new decoder decoder' octets piece more None heard feeds same (none, (calm, handed)) =
    let (read, unfinished, alive) = fed_all decoder decoder' piece more None heard.limits feeds in
    record {
      traffic = heard.traffic ++ more;
      read = reads_on usual_limits octets heard.traffic more decoder.kept piece decoder'.kept heard.read read;
      unfinished = unfinished;
      alive = alive;
      limits = same ∙ heard.limits;
      calm = calm_on heard.traffic more heard.calm calm;
      handed = hears_on hears old now new heard.traffic more heard.handed handed;
    }

-- a piece ended listening by what it brought
record EndsOut {Listener End : Type 0} (hears : Hearing Listener End) (old : Listener) (octets : List ℕ)
    (new : Listener) (end : ConnectionEnd) : Type 0 where
  heard : Heard hears old octets new
  fault : WireFault
  is : end ≡ Wire fault
  why : (fault ≡ OutOfMemory) ⊎ EndsBehind heard.rest end

-- the listener ended listening at traffic that this piece brought
record EndsOff {Listener End : Type 0} (hears : Hearing Listener End) (old : Listener) (octets piece : List ℕ)
    (new : Listener) (end : End) : Type 0 where
  now : Listener
  heard : Heard hears old octets now
  last : Traffic
  comes : BeginsWith heard.rest last
  harmless : is_error last ≡ false
  ends : hears now last new (Err end)
  needed : length comes.behind < length piece

abbrev PieceEnds : {Listener End : Type 0} → Hearing Listener End → Listener → List ℕ → List ℕ → Listener
    → Ending End → Type 0
PieceEnds hears old octets piece new (Connection end) = EndsOut hears old octets new end
PieceEnds hears old octets piece new (Host end) = EndsOff hears old octets piece new end

-- all that was fed is read up to some rest
fed_read : (decoder decoder' : Decoding) (piece : List ℕ) (more : List Traffic) (fault : Option WireFault)
    → decoder.limits ≡ usual_limits → Feeds decoder piece more fault decoder'
    → (rest : List ℕ) × ReadsUpTo usual_limits (decoder.kept ++ piece) more rest
fed_read decoder decoder' piece more None limits feeds =
    (decoder'.kept, (fed_all decoder decoder' piece more None limits feeds).0)
fed_read decoder decoder' piece more (Some fault) limits feeds =
    let ((rest, read, refused), spent) = fed_all decoder decoder' piece more (Some fault) limits feeds in (rest, read)

-- some of what a piece brought was handed on, and then one ends it
front_ends : {Listener End : Type 0} (hears : Hearing Listener End) (old now new : Listener)
    (decoder decoder' : Decoding) (octets piece : List ℕ) (more : List Traffic) (fault : Option WireFault)
    (ending : Ending End) → HeardSoFar hears old now decoder octets → Feeds decoder piece more fault decoder'
    → HandsFront hears now more new ending → PieceEnds hears old (octets ++ piece) piece new ending
front_ends hears old now new decoder decoder' octets piece more fault (Connection end) heard feeds
    (last, error, is, some) =
    let (rest, read) = fed_read decoder decoder' piece more fault heard.limits feeds in
    let front = reads_front (decoder.kept ++ piece) some.front last some.behind rest
    (subst (λ t. ReadsUpTo usual_limits (decoder.kept ++ piece) t rest) some.split read) in
    record {
      heard = record {
        traffic = heard.traffic ++ some.front;
        rest = front.rest;
        read = reads_on usual_limits octets heard.traffic some.front decoder.kept piece front.rest heard.read
            front.read;
        calm = calm_on heard.traffic some.front heard.calm some.calm;
        handed = hears_on hears old now new heard.traffic some.front heard.handed some.handed;
      };
      fault = _;
      is = is;
      why = inr (inl (is, (last, front.comes, error)));
    }
front_ends hears old now new decoder decoder' octets piece more fault (Host end) heard feeds
    (last, state, harmless, ends, some) =
    let (rest, read) = fed_read decoder decoder' piece more fault heard.limits feeds in
    let front = reads_front (decoder.kept ++ piece) some.front last some.behind rest
    (subst (λ t. ReadsUpTo usual_limits (decoder.kept ++ piece) t rest) some.split read) in
    record {
      now = state;
      heard = record {
        traffic = heard.traffic ++ some.front;
        rest = front.rest;
        read = reads_on usual_limits octets heard.traffic some.front decoder.kept piece front.rest heard.read
            front.read;
        calm = calm_on heard.traffic some.front heard.calm some.calm;
        handed = hears_on hears old now state heard.traffic some.front heard.handed some.handed;
      };
      last = last;
      comes = front.comes;
      harmless = harmless;
      ends = ends;
      needed = piece_needed decoder.kept piece front.rest some.front last heard.unfinished.no_traffic front.read
          front.comes;
    }

-- why a fault of the rest ends it
refused_why : (rest : List ℕ) (found : WireFault) → IsFaultOf usual_limits rest found
    → (found ≡ OutOfMemory) ⊎ EndsBehind rest (Wire found)
refused_why rest found (inl memory) = inl memory
refused_why rest found (inr faulty) = inr (inr faulty)

-- all of what a piece brought was handed on, and then its fault ends it
fault_ends : {Listener End : Type 0} (hears : Hearing Listener End) (old now new : Listener)
    (decoder decoder' : Decoding) (octets piece : List ℕ) (more : List Traffic) (found : WireFault)
    → HeardSoFar hears old now decoder octets → Feeds decoder piece more (Some found) decoder' → IsCalm more
    → HearsAll hears now more new → EndsOut hears old (octets ++ piece) new (Wire found)
fault_ends hears old now new decoder decoder' octets piece more found heard feeds calm handed =
    let ((rest, read, refused), spent) = fed_all decoder decoder' piece more (Some found) heard.limits feeds in
    record {
      heard = record {
        traffic = heard.traffic ++ more;
        rest = rest;
        read = reads_on usual_limits octets heard.traffic more decoder.kept piece rest heard.read read;
        calm = calm_on heard.traffic more heard.calm calm;
        handed = hears_on hears old now new heard.traffic more heard.handed handed;
      };
      fault = found;
      is = refl;
      why = refused_why rest found refused;
    }

piece_ends : {Listener End : Type 0} (hears : Hearing Listener End) (old now new : Listener)
    (decoder decoder' : Decoding) (octets piece : List ℕ) (more : List Traffic) (fault : Option WireFault)
    (ending : Ending End) → HeardSoFar hears old now decoder octets → Feeds decoder piece more fault decoder'
    → HandsFed hears now more fault new (Err ending) → PieceEnds hears old (octets ++ piece) piece new ending
piece_ends hears old now new decoder decoder' octets piece more fault ending heard feeds (inl front) =
    front_ends hears old now new decoder decoder' octets piece more fault ending heard feeds front
piece_ends {End = End} hears old now new decoder decoder' octets piece more fault ending heard feeds
    (inr (found, faulty, is, (calm, handed))) =
    subst (λ (e : Ending End). PieceEnds hears old (octets ++ piece) piece new e) (sym is)
    (fault_ends hears old now new decoder decoder' octets piece more found heard
    (subst (λ f. Feeds decoder piece more f decoder') faulty feeds) calm handed)

-- listening so far
pub record ListeningSoFar {Listener End : Type 0} (hears : Hearing Listener End) (old now : Listener)
    (decoder : Decoding) (source source' : Source) (before : List ℕ) : Type 0 where
  pub read : List ℕ
  pub leg : Leg source source' read
  pub heard : HeardSoFar hears old now decoder (before ++ read)

-- what came with READY was handed on, and listening goes on
pub listening_begins : {Listener End : Type 0} (hears : Hearing Listener End) (old new : Listener) (fed : Fed)
    (decoder : Decoding) (source : Source) (before : List ℕ)
    → IsLeftOf (record { fed = fed; decoder = decoder }) before
    → HandsFed hears old fed.traffic fed.fault new (Ok tt)
    → ListeningSoFar hears old new decoder source source before
listening_begins hears old new fed decoder source before (feeds, limits) handed = record {
  read = [];
  leg = leg_none source;
  heard = subst (HeardSoFar hears old new decoder) (sym (append-nil before))
      (heard_more hears old old new fresh decoder [] before fed.traffic fed.fault (heard_none hears old) feeds limits
      handed);
}

-- a piece was read, and what a decoder made of it was handed on
heard_if : {Listener End : Type 0} (hears : Hearing Listener End) (old new : Listener) (decoder decoder' : Decoding)
    (source source' : Source) (result : Result Unit (Ending End))
    → HandsPiece hears old new decoder decoder' source source' result
    → HearsPiece hears old new decoder decoder' source source' result
heard_if hears old new decoder decoder' source source' (Ok done) piece = piece
heard_if hears old new decoder decoder' source source' (Err ending) piece = inl piece

-- the same, where the decoder was fed what was read
pub heard_piece : {Listener End : Type 0} (hears : Hearing Listener End) (old new : Listener)
    (decoder decoder' : Decoding) (source source' : Source) (octets fed : List ℕ) (traffic : List Traffic)
    (fault : Option WireFault) (result : Result Unit (Ending End)) → Leg source source' octets
    → source.turns ≡ source'.turns + 1 → fed ≡ octets
    → (decoder.spent ≡ false → Feeds decoder fed traffic fault decoder') → decoder'.limits ≡ decoder.limits
    → HandsFed hears old traffic fault new result → HearsPiece hears old new decoder decoder' source source' result
heard_piece hears old new decoder decoder' source source' octets fed traffic fault result leg one is feeds same hands =
    heard_if hears old new decoder decoder' source source' result (record {
      octets = octets;
      traffic = traffic;
      fault = fault;
      leg = leg;
      one = one;
      fed = λ alive. subst (λ o. Feeds decoder o traffic fault decoder') is (feeds alive);
      same = same;
      hands = hands;
    })

-- one more piece, and listening goes on
pub listening_goes_on : {Listener End : Type 0} (hears : Hearing Listener End) (old now new : Listener)
    (decoder decoder' : Decoding) (one two three : Source) (before : List ℕ)
    → ListeningSoFar hears old now decoder one two before
    → HandsPiece hears now new decoder decoder' two three (Ok tt)
    → ListeningSoFar hears old new decoder' one three before
listening_goes_on hears old now new decoder decoder' one two three before so_far piece = record {
  read = so_far.read ++ piece.octets;
  leg = leg_on one two three so_far.read piece.octets so_far.leg piece.leg;
  heard = subst (HeardSoFar hears old new decoder') (append_assoc before so_far.read piece.octets)
      (heard_more hears old now new decoder decoder' (before ++ so_far.read) piece.octets piece.traffic piece.fault
      so_far.heard (piece.fed so_far.heard.alive) piece.same piece.hands);
}

-- what the octets that were read by then said ended listening
out_ends : {Listener End : Type 0} (hears : Hearing Listener End) (old new : Listener) (before octets : List ℕ)
    (source source' : Source) (end : ConnectionEnd) → Leg source source' octets
    → EndsOut hears old (before ++ octets) new end → IsHeardOut hears old before source source' new end
out_ends hears old new before octets source source' end leg out = record {
  octets = octets;
  reading = rw out.is (decided source source' octets (Wire out.fault) (wire_decided out.fault) leg);
  heard = out.heard;
  ends = inr (out.fault, out.is, out.why);
}

-- the listener ended listening at traffic that was read by then
off_ends : {Listener End : Type 0} (hears : Hearing Listener End) (old new : Listener) (before octets piece : List ℕ)
    (source source' : Source) (end : End) → Leg source source' octets
    → (off : EndsOff hears old (before ++ octets) piece new end)
    → (octets ≡ []) ⊎ IsPrompt source source' octets off.comes.behind
    → IsBrokenOff hears old before source source' new end
off_ends hears old new before octets piece source source' end leg off prompt = record {
  octets = octets;
  leg = leg;
  now = off.now;
  heard = off.heard;
  last = off.last;
  comes = off.comes;
  harmless = off.harmless;
  ends = off.ends;
  prompt = prompt;
}

-- what a piece brought ends listening, behind octets whose last part it is
piece_listened : {Listener End : Type 0} (hears : Hearing Listener End) (old new : Listener)
    (before octets piece : List ℕ) (source source' : Source) (ending : Ending End) → Leg source source' octets
    → ((behind : List ℕ) → length behind < length piece → (octets ≡ []) ⊎ IsPrompt source source' octets behind)
    → PieceEnds hears old (before ++ octets) piece new ending → Listens hears old before source source' new ending
piece_listened hears old new before octets piece source source' (Connection end) leg prompt out =
    out_ends hears old new before octets source source' end leg out
piece_listened hears old new before octets piece source source' (Host end) leg prompt off =
    off_ends hears old new before octets piece source source' end leg off (prompt off.comes.behind off.needed)

-- what came with READY ends listening
pub listening_ends_first : {Listener End : Type 0} (hears : Hearing Listener End) (old new : Listener) (fed : Fed)
    (decoder : Decoding) (source : Source) (before : List ℕ) (ending : Ending End)
    → IsLeftOf (record { fed = fed; decoder = decoder }) before
    → HandsFed hears old fed.traffic fed.fault new (Err ending)
    → Listens hears old before source source new ending
listening_ends_first hears old new fed decoder source before ending (feeds, limits) handed =
    piece_listened hears old new before [] before source source ending (leg_none source) (λ behind needed. inl refl)
    (subst (λ o. PieceEnds hears old o before new ending) (sym (append-nil before))
    (piece_ends hears old old new fresh decoder [] before fed.traffic fed.fault ending (heard_none hears old) feeds
    handed))

-- one more piece, and it ends listening
pub listening_ends : {Listener End : Type 0} (hears : Hearing Listener End) (old now new : Listener)
    (decoder decoder' : Decoding) (one two three : Source) (before : List ℕ) (ending : Ending End)
    → ListeningSoFar hears old now decoder one two before
    → HandsPiece hears now new decoder decoder' two three (Err ending)
    → Listens hears old before one three new ending
listening_ends hears old now new decoder decoder' one two three before ending so_far piece =
    let octets = so_far.read ++ piece.octets in
    piece_listened hears old new before octets piece.octets one three ending
    (leg_on one two three so_far.read piece.octets so_far.leg piece.leg)
    (λ behind needed. inr (record {
      last = last_read one two three so_far.read piece.octets so_far.leg piece.leg piece.one;
      needed = needed;
    }))
    (subst (λ o. PieceEnds hears old o piece.octets new ending) (append_assoc before so_far.read piece.octets)
    (piece_ends hears old now new decoder decoder' (before ++ so_far.read) piece.octets piece.traffic piece.fault ending
    so_far.heard (piece.fed so_far.heard.alive) piece.hands))

-- what was heard so far is all that was said so far
abbrev heard_so_far : {Listener End : Type 0} (hears : Hearing Listener End) (old now : Listener)
    (decoder : Decoding) (octets : List ℕ) → HeardSoFar hears old now decoder octets → Heard hears old octets now
heard_so_far hears old now decoder octets heard = record {
  traffic = heard.traffic;
  rest = decoder.kept;
  read = heard.read;
  calm = heard.calm;
  handed = heard.handed;
}

-- reading stopped
pub listening_stops : {Listener End : Type 0} (hears : Hearing Listener End) (old now : Listener)
    (decoder : Decoding) (one two three : Source) (before : List ℕ) (end : ConnectionEnd)
    → ListeningSoFar hears old now decoder one two before → IsStop end → Reading two three [] end
    → IsHeardOut hears old before one three now end
listening_stops hears old now decoder one two three before end so_far stop reading = record {
  octets = so_far.read;
  reading = stop_on one two three so_far.read end so_far.leg reading;
  heard = heard_so_far hears old now decoder (before ++ so_far.read) so_far.heard;
  ends = inl (inl stop, so_far.heard.unfinished);
}

-- one more piece ends listening, or reading stopped
pub listening_ended : {Listener End : Type 0} (hears : Hearing Listener End) (old now new : Listener)
    (decoder decoder' : Decoding) (one two three : Source) (before : List ℕ) (ending : Ending End)
    → ListeningSoFar hears old now decoder one two before
    → HearsPiece hears now new decoder decoder' two three (Err ending)
    → Listens hears old before one three new ending
listening_ended hears old now new decoder decoder' one two three before ending so_far (inl piece) =
    listening_ends hears old now new decoder decoder' one two three before ending so_far piece
listening_ended {Listener} {End} hears old now new decoder decoder' one two three before ending so_far
    (inr (end, is, stop, reading, same)) =
    subst (λ (e : Ending End). Listens hears old before one three new e) (sym is)
    (subst (λ (l : Listener). IsHeardOut hears old before one three l end) (sym same)
    (listening_stops hears old now decoder one two three before end so_far stop reading))

-- no room for pieces
pub listening_cut : {Listener End : Type 0} (hears : Hearing Listener End) (old now : Listener) (decoder : Decoding)
    (source : Source) (before : List ℕ) → ListeningSoFar hears old now decoder source source before
    → IsHeardOut hears old before source source now (Failed Memory)
listening_cut hears old now decoder source before so_far = record {
  octets = so_far.read;
  reading = decided source source so_far.read (Failed Memory) memory_decided so_far.leg;
  heard = heard_so_far hears old now decoder (before ++ so_far.read) so_far.heard;
  ends = inl (inr refl, so_far.heard.unfinished);
}
