-- How a peer is opened, turned away and ends its connection has one value, and stays, whatever the peer sends then.
use Rattle.std.proofs.Common.{◌≡◌, ◌≢◌, inl, inr, ℕ, ◌<◌, List, [], ◌∷◌, ◌++◌, take, drop}
use Rattle.std.proofs.Common.{true, false, Ok, Err, refl, sym, ◌∙◌, ap, subst, arith, append_assoc, length-append}
use Rattle.zmtp_wire.specs.declared.fault.WireFault.{WireFault}
use Rattle.zmtp_wire.specs.declared.fault.WireFault.TheVariants as faults
use Rattle.zmtp_wire.specs.declared.handshake.socket_type.SocketType.{SocketType}
use Rattle.zmtp_wire.specs.declared.traffic.Traffic.{Traffic}
use Rattle.zmtp_wire.specs.Limits.{usual_limits}
use Rattle.zmtp_wire.specs.Grammar.{ReadsUpTo, HasNoTraffic}
use Rattle.zmtp_wire.specs.Laws.{FrontHasOneReading, ReadingGoesOn, HasOneFault, FaultyHasNoTraffic, FaultStays}
use Rattle.zmtp_wire.specs.Greeting.{IsGreeting, IsRefusedGreeting, HasSignature, HasVersion, HasNullMechanism}
use Rattle.zmtp_wire.specs.Greeting.{major_version}
use Rattle.zmtp_wire.specs.Ready.{IsReady, ReadyHasOneOutcome}
use Rattle.zmtp_wire.specs.Traffic.{is_error}
use Rattle.zmtp_connection.specs.declared.end.ConnectionEnd.{ConnectionEnd}
use Rattle.zmtp_connection.specs.declared.end.ConnectionEnd.TheVariants.{Eof, Failed, Wire}
use Rattle.zmtp_connection.specs.Peer.{BeginsWithError, ComesFirst, EndsAs, EndsBehind, IsCalm, IsTurnedAway}
use Rattle.zmtp_connection.specs.Laws.{OpenOrTurnedAway}
use Rattle.zmtp_connection.proofs.OpenLemmas.{take_more, drop_more, greeted_more, first_more}

-- the laws of the layer below
pub record Laws : Type 0 where
  pub front : FrontHasOneReading
  pub goes_on : ReadingGoesOn
  pub fault : HasOneFault
  pub no_traffic : FaultyHasNoTraffic
  pub stays : FaultStays
  pub ready : ReadyHasOneOutcome

-- how a rest ends, which begins with no whole traffic then
ends_once : (laws : Laws) (rest : List ℕ) (one other : ConnectionEnd) → EndsAs rest one → EndsAs rest other
    → one ≡ other
ends_once laws rest Eof Eof first second = refl
ends_once laws rest Eof (Wire fault) first second = absurd (first.no_fault fault second)
ends_once laws rest (Wire fault) Eof first second = absurd (second.no_fault fault first)
ends_once laws rest (Wire fault) (Wire other) first second =
    ap Wire (laws.fault usual_limits rest fault other first second)
ends_once laws rest (Failed fault) other first second = absurd first
ends_once laws rest Eof (Failed fault) first second = absurd second
ends_once laws rest (Wire fault) (Failed other) first second = absurd second

pub ends_without : (laws : Laws) (rest : List ℕ) (end : ConnectionEnd) → EndsAs rest end
    → HasNoTraffic usual_limits rest
ends_without laws rest Eof h = h.no_traffic
ends_without laws rest (Wire fault) h = laws.no_traffic usual_limits rest fault h
ends_without laws rest (Failed fault) h = absurd h

-- octets that begin with no whole traffic are read as none
pub none_behind : (rest last : List ℕ) (more : List Traffic) → HasNoTraffic usual_limits rest
    → ReadsUpTo usual_limits rest more last → (more ≡ []) × (rest ≡ last)
none_behind rest last [] none (read, is, nothing) = (refl, is ∙ ap (λ o. o ++ last) nothing)
none_behind rest last (first ∷ more) none (read, is, (head, tail, split, spelled, reads)) =
    absurd (none first head (tail ++ last) (is ∙ ap (λ o. o ++ last) split ∙ append_assoc head tail last) spelled)

-- how octets end a connection is one: octets that begin with a command ERROR begin with whole traffic
pub error_ends : (laws : Laws) (rest : List ℕ) (end : ConnectionEnd) → BeginsWithError rest → EndsAs rest end → ⊥
error_ends laws rest end (last, comes, error) ends =
    ends_without laws rest end ends last comes.front comes.behind comes.split comes.spelled

pub behind_once : (laws : Laws) (rest : List ℕ) (one other : ConnectionEnd) → EndsBehind rest one
    → EndsBehind rest other
    → one ≡ other
behind_once laws rest one other (inl (is, error)) (inl (same, also)) = is ∙ sym same
behind_once laws rest one other (inl (is, error)) (inr ends) = absurd (error_ends laws rest other error ends)
behind_once laws rest one other (inr ends) (inl (is, error)) = absurd (error_ends laws rest one error ends)
behind_once laws rest one other (inr first) (inr second) = ends_once laws rest one other first second

-- behind traffic that ends a connection no more is read without a command ERROR
pub no_more : (laws : Laws) (rest last : List ℕ) (end : ConnectionEnd) (more : List Traffic) → EndsBehind rest end
    → ReadsUpTo usual_limits rest more last → IsCalm more → (more ≡ []) × (rest ≡ last)
no_more laws rest last end more (inr ends) reads calm = none_behind rest last more (ends_without laws rest end ends)
    reads
no_more laws rest last end [] (inl (is, error)) (read, split, none) calm = (refl, split ∙ ap (λ o. o ++ last) none)
no_more laws rest last end (first ∷ more) (inl (is, (head, comes, error)))
    (read, split, (front, tail, parts, spelled, reads)) (harmless, calm) =
    let (same, behind) = laws.front usual_limits rest comes.front front head first comes.behind (tail ++ last)
    comes.split comes.spelled (split ∙ ap (λ o. o ++ last) parts ∙ append_assoc front tail last) spelled in
    absurd (let e : true ≡ false = sym error ∙ ap is_error same ∙ harmless in cc)

-- the later part of traffic without a command ERROR has none either
pub calm_behind : (front more : List Traffic) → IsCalm (front ++ more) → IsCalm more
calm_behind [] more calm = calm
calm_behind (first ∷ front) more (harmless, calm) = calm_behind front more calm

-- a greeting that is refused isn't accepted, and is refused for one fault
refused_greeting : (octets : List ℕ) (fault : WireFault) → IsRefusedGreeting octets fault → IsGreeting octets → ⊥
refused_greeting octets faults.Signature refused accepted = refused accepted.signature
refused_greeting octets faults.Version refused accepted = let v = accepted.version in let low = refused.1 in
    absurd (omega arith)
refused_greeting octets faults.Mechanism refused accepted = refused.2 accepted.mechanism
refused_greeting octets _ refused accepted = refused

unsigned_greeting : (octets : List ℕ) (fault : WireFault) → ¬ (HasSignature octets) → IsRefusedGreeting octets fault
    → faults.Signature ≡ fault
unsigned_greeting octets faults.Signature unsigned refused = refl
unsigned_greeting octets faults.Version unsigned refused = absurd (unsigned refused.0)
unsigned_greeting octets faults.Mechanism unsigned refused = absurd (unsigned refused.0)
unsigned_greeting octets _ unsigned refused = absurd refused

old_greeting : (octets : List ℕ) (fault : WireFault) → HasSignature octets → major_version octets < 3
    → IsRefusedGreeting octets fault → faults.Version ≡ fault
old_greeting octets faults.Signature signed old refused = absurd (refused signed)
old_greeting octets faults.Version signed old refused = refl
old_greeting octets faults.Mechanism signed old refused = absurd (let v = refused.1 in omega arith)
old_greeting octets _ signed old refused = absurd refused

other_greeting : (octets : List ℕ) (fault : WireFault) → HasSignature octets → HasVersion octets
    → ¬ (HasNullMechanism octets) → IsRefusedGreeting octets fault → faults.Mechanism ≡ fault
other_greeting octets faults.Signature signed version other refused = absurd (refused signed)
other_greeting octets faults.Version signed version other refused = absurd (let v = refused.1 in omega arith)
other_greeting octets faults.Mechanism signed version other refused = refl
other_greeting octets _ signed version other refused = absurd refused

greeting_fault_once : (octets : List ℕ) (one other : WireFault) → IsRefusedGreeting octets one
    → IsRefusedGreeting octets other → one ≡ other
greeting_fault_once octets faults.Signature other first second = unsigned_greeting octets other first second
greeting_fault_once octets faults.Version other first second = old_greeting octets other first.0 first.1 second
greeting_fault_once octets faults.Mechanism other first second =
    other_greeting octets other first.0 first.1 first.2 second
greeting_fault_once octets _ other first second = absurd first

-- what comes first is one traffic
pub first_once : (laws : Laws) (octets : List ℕ) (one other : Traffic) (rest after : List ℕ)
    → ComesFirst octets one rest → ComesFirst octets other after → (one ≡ other) × (rest ≡ after)
first_once laws octets one other rest after first second =
    laws.front usual_limits (drop 64 octets) first.front second.front one other rest after first.split first.spelled
    second.split second.spelled

no_first : (laws : Laws) (octets : List ℕ) (first : Traffic) (rest : List ℕ) (end : ConnectionEnd)
    → ComesFirst octets first rest → EndsAs (drop 64 octets) end → ⊥
no_first laws octets first rest end comes ends = ends_without laws (drop 64 octets) end ends first comes.front rest
    comes.split comes.spelled

-- a peer that is turned away, in one way
pub away_once : (laws : Laws) (ours : SocketType) (octets opening other : List ℕ) (ending end : ConnectionEnd)
    → IsTurnedAway ours octets opening ending → IsTurnedAway ours octets other end → (opening ≡ other) × (ending ≡ end)
away_once laws ours octets opening other ending end (inl first) (inl second) =
    (first.greets ∙ sym second.greets, first.ends ∙ sym second.ends)
away_once laws ours octets opening other ending end (inl first) (inr (inl second)) =
    absurd (let a = first.short in let b = second.whole in omega arith)
away_once laws ours octets opening other ending end (inl first) (inr (inr (inl second))) =
    absurd (let a = first.short in let b = second.greeted.whole in omega arith)
away_once laws ours octets opening other ending end (inl first) (inr (inr (inr second))) =
    absurd (let a = first.short in let b = second.greeted.whole in omega arith)
away_once laws ours octets opening other ending end (inr (inl first)) (inl second) =
    absurd (let a = second.short in let b = first.whole in omega arith)
away_once laws ours octets opening other ending end (inr (inr (inl first))) (inl second) =
    absurd (let a = second.short in let b = first.greeted.whole in omega arith)
away_once laws ours octets opening other ending end (inr (inr (inr first))) (inl second) =
    absurd (let a = second.short in let b = first.greeted.whole in omega arith)
away_once laws ours octets opening other ending end (inr (inl first)) (inr (inl second)) = (
  first.greets ∙ sym second.greets,
  first.ends ∙ ap Wire
      (greeting_fault_once (take 64 octets) first.fault second.fault first.refused second.refused) ∙ sym second.ends,
)
away_once laws ours octets opening other ending end (inr (inl first)) (inr (inr (inl second))) =
    absurd (refused_greeting (take 64 octets) first.fault first.refused second.greeted.accepted)
away_once laws ours octets opening other ending end (inr (inl first)) (inr (inr (inr second))) =
    absurd (refused_greeting (take 64 octets) first.fault first.refused second.greeted.accepted)
away_once laws ours octets opening other ending end (inr (inr (inl first))) (inr (inl second)) =
    absurd (refused_greeting (take 64 octets) second.fault second.refused first.greeted.accepted)
away_once laws ours octets opening other ending end (inr (inr (inr first))) (inr (inl second)) =
    absurd (refused_greeting (take 64 octets) second.fault second.refused first.greeted.accepted)
away_once laws ours octets opening other ending end (inr (inr (inl first))) (inr (inr (inl second))) = (
  first.greeted.greets ∙ sym second.greeted.greets,
  ends_once laws (drop 64 octets) ending end first.ends
      second.ends,
)
away_once laws ours octets opening other ending end (inr (inr (inl first))) (inr (inr (inr second))) =
    absurd (no_first laws octets second.first second.behind ending second.comes first.ends)
away_once laws ours octets opening other ending end (inr (inr (inr first))) (inr (inr (inl second))) =
    absurd (no_first laws octets first.first first.behind end first.comes second.ends)
away_once laws ours octets opening other ending end (inr (inr (inr first))) (inr (inr (inr second))) =
    let (same, rest) = first_once laws octets first.first second.first first.behind second.behind first.comes
    second.comes in
    let refused : IsReady first.first ours (Err second.fault) =
    subst (λ t. IsReady t ours (Err second.fault)) (sym same) second.refused in
    let outcome = laws.ready first.first ours (Err first.fault) (Err second.fault) first.refused refused in
    let fault : first.fault ≡ second.fault = cc in
    (first.greeted.greets ∙ sym second.greeted.greets, first.ends ∙ ap Wire fault ∙ sym second.ends)

-- a peer that is open isn't turned away
pub open_away : Laws → OpenOrTurnedAway
open_away laws ours octets opening other peer behind end is_open (inl away) = let a = away.short in let b =
    is_open.greeted.whole in absurd (omega arith)
open_away laws ours octets opening other peer behind end is_open (inr (inl away)) =
    refused_greeting (take 64 octets) away.fault away.refused is_open.greeted.accepted
open_away laws ours octets opening other peer behind end is_open (inr (inr (inl away))) =
    no_first laws octets is_open.first behind end is_open.comes away.ends
open_away laws ours octets opening other peer behind end is_open (inr (inr (inr away))) =
    let (same, rest) = first_once laws octets is_open.first away.first behind away.behind is_open.comes away.comes in
    let refused : IsReady is_open.first ours (Err away.fault) =
    subst (λ t. IsReady t ours (Err away.fault)) (sym same) away.refused in
    let outcome = laws.ready is_open.first ours (Ok (record { peer = peer })) (Err away.fault) is_open.accepted
    refused in
    absurd cc

-- traffic and its rest, with more behind
pub reads_more : (octets after : List ℕ) (traffic : List Traffic) (rest : List ℕ)
    → ReadsUpTo usual_limits octets traffic rest → ReadsUpTo usual_limits (octets ++ after) traffic (rest ++ after)
reads_more octets after traffic rest (read, is, reads) =
    (read, ap (λ o. o ++ after) is ∙ append_assoc read rest after, reads)

rest_more : (laws : Laws) (rest after : List ℕ) (ending : ConnectionEnd) → ending ≢ Eof → EndsAs rest ending
    → EndsAs (rest ++ after) ending
rest_more laws rest after Eof ended ends = absurd (ended refl)
rest_more laws rest after (Wire fault) ended ends = laws.stays usual_limits rest after fault ends
rest_more laws rest after (Failed fault) ended ends = ends

-- how octets behind the last whole traffic end a connection, with more behind
pub ends_more : (laws : Laws) (rest after : List ℕ) (ending : ConnectionEnd) → ending ≢ Eof → EndsBehind rest ending
    → EndsBehind (rest ++ after) ending
ends_more laws rest after ending ended (inl (is, (last, comes, error))) = inl (
  is,
  (
    last,
    record {
      front = comes.front;
      behind = comes.behind ++ after;
      split = ap (λ o. o ++ after) comes.split ∙ append_assoc comes.front comes.behind after;
      spelled = comes.spelled;
    },
    error,
  ),
)
ends_more laws rest after ending ended (inr ends) = inr (rest_more laws rest after ending ended ends)

-- a peer that was turned away, whatever it sends then
pub away_more : Laws → (ours : SocketType) (octets after opening : List ℕ) (ending : ConnectionEnd) → ending ≢ Eof
    → IsTurnedAway ours octets opening ending → IsTurnedAway ours (octets ++ after) opening ending
away_more laws ours octets after opening ending ended (inl away) = absurd (ended away.ends)
away_more laws ours octets after opening ending ended (inr (inl away)) = inr (inl (record {
  fault = away.fault;
  whole = let w = away.whole in omega (arith, w, length-append octets after);
  refused = subst (λ o. IsRefusedGreeting o away.fault) (sym (take_more octets after away.whole)) away.refused;
  greets = away.greets;
  ends = away.ends;
}))
away_more laws ours octets after opening ending ended (inr (inr (inl away))) = inr (inr (inl (record {
  greeted = greeted_more ours octets after opening away.greeted;
  ends = subst (λ o. EndsAs o ending) (sym (drop_more octets after away.greeted.whole))
      (rest_more laws (drop 64 octets) after ending ended away.ends);
})))
away_more laws ours octets after opening ending ended (inr (inr (inr away))) = inr (inr (inr (record {
  greeted = greeted_more ours octets after opening away.greeted;
  first = away.first;
  behind = away.behind ++ after;
  comes = first_more octets after away.first away.behind away.greeted.whole away.comes;
  fault = away.fault;
  refused = away.refused;
  ends = away.ends;
})))
