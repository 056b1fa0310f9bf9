-- The outcome of READY: what its parts say, and that there is one at most.
use Rattle.std.proofs.Common.{◌≡◌, ◌≢◌, ◌⊎◌, true, ℕ, cond, eqb, List, [], ◌∷◌, Some, None, Ok, Err, Result, get_or}
use Rattle.std.proofs.Common.{refl, sym, ap, subst, ◌∙◌, inl, inr, ◌+◌, ◌<◌, ◌^◌, length, arith}
use Rattle.std.specs.Prelude.{codes, bytes_eq, IfOk, IfErr}
use Rattle.std.proofs.lemmas.Slice.Eq.{bytes_eq-Decides}
use Rattle.std.specs.Str.{str_to_ascii_lowercase}
use Rattle.std.proofs.lemmas.List.{append-nil}
use Rattle.zmtp_wire.specs.declared.fault.WireFault.{WireFault}
use Rattle.zmtp_wire.specs.declared.fault.WireFault.TheVariants as fault
use Rattle.zmtp_wire.specs.declared.handshake.ready.Ready.{Ready}
use Rattle.zmtp_wire.specs.declared.handshake.socket_type.SocketType.{SocketType}
use Rattle.zmtp_wire.specs.declared.handshake.socket_type.SocketType.TheVariants.{Req, Rep, Dealer, Router, Pub, Sub}
use Rattle.zmtp_wire.specs.declared.handshake.socket_type.SocketType.TheVariants.{Xsub}
use Rattle.zmtp_wire.specs.declared.traffic.Traffic.{Traffic}
use Rattle.zmtp_wire.specs.declared.traffic.Traffic.TheVariants.{Message, Command}
use Rattle.zmtp_wire.specs.SocketType.{type_name, NamesType, Pairs}
use Rattle.zmtp_wire.specs.Ready.{Property, Properties, property_octets, type_property, announced, AnnouncesIn}
use Rattle.zmtp_wire.specs.Ready.{Announces, AnnouncesNoneIn, Gives, GivesNoIdentity}
use Rattle.zmtp_wire.specs.Ready.{HasNoProperties, IsError, IsIdentity, IsNoReady, Accepts, AcceptsNone, IsReady}
use Rattle.zmtp_wire.proofs.PropertyLemmas.{one_reading}

-- a READY that announces a type: it is accepted, or it doesn't pair
pub judged_type : (name rest value : List ℕ) (ours : SocketType) (r : Result Ready WireFault) → name ≡ codes "READY"
    → AnnouncesIn (codes "Socket-Type") rest value → IfOk r (λ ready. Accepts ours value ready.peer)
    → IfErr r (λ e. (e ≡ fault.Pairing) × AcceptsNone ours value) → IsReady (Command name rest) ours r
judged_type name rest value ours (Ok ready) is announces ok err = (value, (is, announces), ok)
judged_type name rest value ours (Err e) is announces ok err = rw err.0 (value, (is, announces), err.1)

-- ---- the type that a value names

-- a type by the first and the third letter of its name
abbrev type_at : ℕ → SocketType
type_at n = cond (eqb n 227) Req (cond (eqb n 226) Rep (cond (eqb n 197) Dealer
    (cond (eqb n 231) Router (cond (eqb n 210) Pub (cond (eqb n 213) Sub Xsub)))))

-- the letters that tell the names apart
abbrev letters : List ℕ → ℕ
letters name = get_or name 0 0 + get_or name 2 0

letters_tell : (t : SocketType) → type_at (letters (str_to_ascii_lowercase (type_name t))) ≡ t
letters_tell Req = refl
letters_tell Rep = refl
letters_tell Dealer = refl
letters_tell Router = refl
letters_tell Pub = refl
letters_tell Sub = refl
letters_tell Xsub = refl

-- a value names one type at most
one_type : (value : List ℕ) (t u : SocketType) → NamesType value t → NamesType value u → t ≡ u
one_type value t u names_t names_u = sym (letters_tell t)
    ∙ ap (λ (name : List ℕ). type_at (letters name)) (sym names_t ∙ names_u) ∙ letters_tell u

-- ---- one outcome at most

-- the first of a name in one list of properties
one_value : (name rest : List ℕ) (ps qs : List Property) → Properties rest ps → Properties rest qs → announced name ps
    ≡ announced name qs
one_value name rest ps qs are_ps are_qs = ap (announced name) (one_reading rest ps qs are_ps are_qs)

same_in : (name rest v w : List ℕ) → AnnouncesIn name rest v → AnnouncesIn name rest w → v ≡ w
same_in name rest v w one other =
    let same : Some v ≡ Some w = sym one.2 ∙ one_value name rest one.0 other.0 one.1 other.1 ∙ other.2 in cc

none_in : (name rest v : List ℕ) → AnnouncesIn name rest v → ¬ (HasNoProperties rest ⊎ AnnouncesNoneIn name rest)
none_in name rest v one (inl broken) = broken one.0 one.1
none_in name rest v one (inr none) =
    let same : Some v ≡ None = sym one.2 ∙ one_value name rest one.0 none.0 one.1 none.1 ∙ none.2 in cc

same_given : (name : List ℕ) (first : Traffic) (v w : List ℕ) → Gives name first v → Gives name first w → v ≡ w
same_given property (Message _) v w one other = absurd one
same_given property (Command name rest) v w one other = same_in property rest v w one.1 other.1

same_value : (first : Traffic) (v w : List ℕ) → Announces first v → Announces first w → v ≡ w
same_value = same_given (codes "Socket-Type")

announces_ready : (first : Traffic) (v : List ℕ) → Announces first v → ¬ (IsNoReady first)
announces_ready (Message _) v one not = absurd one
announces_ready (Command name rest) v one (inl other) = other.0 one.0
announces_ready (Command name rest) v one (inr (_, none)) = none_in (codes "Socket-Type") rest v one.1 none

ready_no_error : (name : List ℕ) → name ≡ codes "READY" → name ≡ codes "ERROR" → ⊥
ready_no_error name is_ready is_error =
    let same : get_or (codes "READY") 0 0 ≡ get_or (codes "ERROR") 0 0 =
    ap (λ (t : List ℕ). get_or t 0 0) (sym is_ready ∙ is_error) in
    omega arith

error_named : (name : List ℕ) → bytes_eq name (codes "ERROR") ≡ true → name ≡ codes "ERROR"
error_named name is = (bytes_eq-Decides name (codes "ERROR")).0 is

announces_no_error : (first : Traffic) (v : List ℕ) → Announces first v → ¬ (IsError first)
announces_no_error (Message _) v one error = absurd one
announces_no_error (Command name rest) v one error = ready_no_error name one.0 (error_named name error)

no_ready_no_error : (first : Traffic) → IsNoReady first → ¬ (IsError first)
no_ready_no_error (Message bodies) not error = absurd (let e = error in cc)
no_ready_no_error (Command name rest) (inl other) error = other.1 (error_named name error)
no_ready_no_error (Command name rest) (inr (is, _)) error = ready_no_error name is (error_named name error)

-- the outcomes that there are
data ReadyOutcome (first : Traffic) (ours : SocketType) : Result Ready WireFault → Type 0 where
  accepts : (peer : SocketType) (v : List ℕ) → Announces first v → Accepts ours v peer
      → ReadyOutcome first ours (Ok (record { peer = peer }))
  pairs_not : (v : List ℕ) → Announces first v → AcceptsNone ours v → ReadyOutcome first ours (Err fault.Pairing)
  no_ready : IsNoReady first → ReadyOutcome first ours (Err fault.Command)
  error : IsError first → ReadyOutcome first ours (Err fault.PeerError)

outcome : (first : Traffic) (ours : SocketType) (r : Result Ready WireFault) → IsReady first ours r
    → ReadyOutcome first ours r
outcome first ours (Ok ready) is = accepts ready.peer is.0 is.1 is.2
outcome first ours (Err fault.Pairing) is = pairs_not is.0 is.1 is.2
outcome first ours (Err fault.Command) is = no_ready is
outcome first ours (Err fault.PeerError) is = error is
outcome first ours (Err _) is = absurd is

accepts_some : (first : Traffic) (ours peer : SocketType) (v w : List ℕ) → Announces first v → Accepts ours v peer
    → Announces first w → ¬ (AcceptsNone ours w)
accepts_some first ours peer v w one some other none = none peer
    (subst (λ (u : List ℕ). Accepts ours u peer) (same_value first v w one other) some)

one_outcome : (first : Traffic) (ours : SocketType) (r s : Result Ready WireFault) → ReadyOutcome first ours r
    → ReadyOutcome first ours s → r ≡ s
one_outcome first ours _ _ (accepts t v one some) (accepts u w other more) =
    ap (λ (p : SocketType). Ok (record { peer = p })) (one_type w t u
    (subst (λ (x : List ℕ). NamesType x t) (same_value first v w one other) some.0) more.0)
one_outcome first ours _ _ (accepts t v one some) (pairs_not w other none) =
    absurd (accepts_some first ours t v w one some other none)
one_outcome first ours _ _ (accepts t v one some) (no_ready not) = absurd (announces_ready first v one not)
one_outcome first ours _ _ (accepts t v one some) (error is) = absurd (announces_no_error first v one is)
one_outcome first ours _ _ (pairs_not w other none) (accepts t v one some) =
    absurd (accepts_some first ours t v w one some other none)
one_outcome first ours _ _ (pairs_not v one none) (pairs_not w other more) = refl
one_outcome first ours _ _ (pairs_not v one none) (no_ready not) = absurd (announces_ready first v one not)
one_outcome first ours _ _ (pairs_not v one none) (error is) = absurd (announces_no_error first v one is)
one_outcome first ours _ _ (no_ready not) (accepts t v one some) = absurd (announces_ready first v one not)
one_outcome first ours _ _ (no_ready not) (pairs_not v one none) = absurd (announces_ready first v one not)
one_outcome first ours _ _ (no_ready not) (no_ready more) = refl
one_outcome first ours _ _ (no_ready not) (error is) = absurd (no_ready_no_error first not is)
one_outcome first ours _ _ (error is) (accepts t v one some) = absurd (announces_no_error first v one is)
one_outcome first ours _ _ (error is) (pairs_not v one none) = absurd (announces_no_error first v one is)
one_outcome first ours _ _ (error is) (no_ready not) = absurd (no_ready_no_error first not is)
one_outcome first ours _ _ (error is) (error more) = refl

pub same_outcome : (first : Traffic) (ours : SocketType) (r s : Result Ready WireFault) → IsReady first ours r
    → IsReady first ours s → r ≡ s
same_outcome first ours r s one other = one_outcome first ours r s (outcome first ours r one)
    (outcome first ours s other)

-- ---- the identity

-- a message gives no identity
pub message_gives_none : (bodies : List (List ℕ)) → GivesNoIdentity (Message bodies)
message_gives_none bodies identity gives = gives.announced

-- a command that isn't READY gives none
pub other_gives_none : (name rest : List ℕ) → name ≢ codes "READY" → GivesNoIdentity (Command name rest)
other_gives_none name rest not identity gives = not gives.announced.0

-- a READY gives none whose list of properties is broken or has none
pub none_gives_none : (name rest : List ℕ) → HasNoProperties rest ⊎ AnnouncesNoneIn (codes "Identity") rest
    → GivesNoIdentity (Command name rest)
none_gives_none name rest none identity gives = none_in (codes "Identity") rest identity gives.announced.1 none

-- a READY gives none whose first is empty
pub empty_gives_none : (name rest : List ℕ) → AnnouncesIn (codes "Identity") rest []
    → GivesNoIdentity (Command name rest)
empty_gives_none name rest empty identity gives =
    gives.some (same_in (codes "Identity") rest identity [] gives.announced.1 empty)

-- a peer has one identity at most
pub one_identity : (first : Traffic) (one other : List ℕ) → IsIdentity first one → IsIdentity first other → one ≡ other
one_identity first one other (inl gives) (inl gives') =
    same_given (codes "Identity") first one other gives.announced gives'.announced
one_identity first one other (inl gives) (inr (none, is)) = absurd (none one gives)
one_identity first one other (inr (none, is)) (inl gives) = absurd (none other gives)
one_identity first one other (inr (none, is)) (inr (none', is')) = is ∙ sym is'

-- ---- our own READY

-- a short value is a property's
our_property : (t : SocketType) → Properties (property_octets (type_property t)) (type_property t ∷ [])
our_property t = (
  sym (append-nil (property_octets (type_property t))),
  (record { has_name = omega arith; name_fits = omega arith; value_fits = short t }, tt),
)
  where
    short : (t : SocketType) → length (type_name t) < 2 ^ 32
    short Req = omega arith
    short Rep = omega arith
    short Dealer = omega arith
    short Router = omega arith
    short Pub = omega arith
    short Sub = omega arith
    short Xsub = omega arith

pub our_ready : (ours peer : SocketType) → Pairs peer ours
    → IsReady (Command (codes "READY") (property_octets (type_property ours))) peer (Ok (record { peer = ours }))
our_ready ours peer pairs = (type_name ours, (refl, (type_property ours ∷ [], our_property ours, refl)), (refl, pairs))
