-- What the steps of a feed have read of the octets.
use Rattle.std.proofs.Common.{◌≡◌, inl, inr, ℕ, List, [], ◌∷◌, ◌++◌}
use Rattle.std.proofs.Common.{take, drop, Some, None, refl, sym, ◌∙◌, ap, subst, append_assoc}
use Rattle.std.proofs.lemmas.List.{append-nil, take-append-drop}
use Rattle.zmtp_wire.specs.declared.traffic.limits.Limits.{Limits}
use Rattle.zmtp_wire.specs.declared.traffic.pending.Pending.{Pending}
use Rattle.zmtp_wire.specs.declared.traffic.Traffic.{Traffic}
use Rattle.zmtp_wire.specs.declared.fault.WireFault.{WireFault}
use Rattle.zmtp_wire.specs.Grammar.{Spells, Reads, ReadsUpTo, IsFaulty, IsUnfinished}
use Rattle.zmtp_wire.specs.Pending.{pending_octets, IsPending, Keeps, Refuses}
use Rattle.zmtp_wire.specs.Decoding.{IsFaultOf}
use Rattle.zmtp_wire.proofs.Reading.{unfinished, faulty, found, ComesTo, comes_once}
use Rattle.zmtp_wire.proofs.ReadingLemmas.{spelled_comes, faulty_comes, pending_comes}

-- how far a feed has come: what it was given is what was read, what is kept, and what is left of the piece
pub record Fed (limits : Limits) (given : List ℕ) (traffic : List Traffic) (pending : Pending) (rest : List ℕ) : Type 0
  where
    pub same : pending.limits ≡ limits
    pub kept : IsPending pending
    pub read : ReadsUpTo limits given traffic (pending_octets pending ++ rest)

-- what is kept isn't finished
pub unfinished_pending : (pending : Pending) → IsPending pending → IsUnfinished pending.limits (pending_octets pending)
unfinished_pending pending h = record {
  no_traffic = λ whole front rest is spelled.
      let found_it : ComesTo pending.limits (pending_octets pending) (found whole rest) =
      subst (λ o. ComesTo pending.limits o (found whole rest)) (sym is)
      (spelled_comes pending.limits front whole rest spelled) in
      let both = comes_once pending.limits (pending_octets pending) unfinished (found whole rest)
      (pending_comes pending h) found_it in cc;
  no_fault = λ fault refused.
      let both = comes_once pending.limits (pending_octets pending) unfinished (faulty fault) (pending_comes pending h)
      (faulty_comes pending.limits (pending_octets pending) fault refused) in cc;
}

-- readings one after the other
pub reads_append : (limits : Limits) (octets : List ℕ) (traffic : List Traffic) (more : List ℕ) (others : List Traffic)
    → Reads limits octets traffic → Reads limits more others → Reads limits (octets ++ more) (traffic ++ others)
reads_append limits octets [] more others first second = subst (λ o. Reads limits (o ++ more) others) (sym first) second
reads_append limits octets (whole ∷ traffic) more others (front, rest, is, spelled, reads) second = (
  front,
  rest ++ more,
  ap (λ o. o ++ more) is ∙ append_assoc front rest more,
  spelled,
  reads_append limits rest traffic more others reads second,
)

-- one more spelling is read
pub read_more : (limits : Limits) (given : List ℕ) (traffic : List Traffic) (whole : Traffic)
    (octets rest kept : List ℕ)
    → ReadsUpTo limits given traffic kept → kept ≡ octets ++ rest → Spells limits octets whole
    → ReadsUpTo limits given (traffic ++ whole ∷ []) rest
read_more limits given traffic whole octets rest kept (read, is, reads) split spelled = (
  read ++ octets,
  is ∙ ap (λ o. read ++ o) split ∙ sym (append_assoc read octets rest),
  reads_append limits read traffic octets (whole ∷ []) reads (octets, [], sym (append-nil octets), spelled, refl),
)

-- a step that keeps its octets
pub fed_on : (limits : Limits) (given : List ℕ) (traffic : List Traffic) (old new : Pending) (taken : ℕ) (rest : List ℕ)
    → Fed limits given traffic old rest
    → Keeps old.limits (pending_octets old ++ take taken rest) new None → Fed limits given traffic new (drop taken rest)
fed_on limits given traffic old new taken rest fed kept = record {
  same = kept.same ∙ fed.same;
  kept = kept.pending;
  read = subst (ReadsUpTo limits given traffic)
      (ap (λ o. pending_octets old ++ o) (sym (take-append-drop taken rest))
      ∙ sym (append_assoc (pending_octets old) (take taken rest) (drop taken rest))
      ∙ ap (λ o. o ++ drop taken rest) (sym kept.kept))
      fed.read;
}

-- a step that makes traffic whole
pub fed_whole : (limits : Limits) (given : List ℕ) (traffic : List Traffic) (old new : Pending) (whole : Traffic)
    (taken : ℕ) (rest : List ℕ) → Fed limits given traffic old rest
    → Keeps old.limits (pending_octets old ++ take taken rest) new (Some whole)
    → Fed limits given (traffic ++ whole ∷ []) new (drop taken rest)
fed_whole limits given traffic old new whole taken rest fed kept = record {
  same = kept.same ∙ fed.same;
  kept = kept.pending;
  read = rw kept.kept.1 (read_more limits given traffic whole (pending_octets old ++ take taken rest) (drop taken rest)
      (pending_octets old ++ rest) fed.read
      (ap (λ o. pending_octets old ++ o) (sym (take-append-drop taken rest))
      ∙ sym (append_assoc (pending_octets old) (take taken rest) (drop taken rest)))
      (subst (λ l. Spells l (pending_octets old ++ take taken rest) whole) fed.same kept.kept.0));
}

-- a step that is refused
pub fed_fault : (limits : Limits) (given : List ℕ) (traffic : List Traffic) (old : Pending) (fault : WireFault)
    (rest : List ℕ) → Fed limits given traffic old rest
    → Refuses old.limits (pending_octets old ++ rest) fault → (end : List ℕ) × ReadsUpTo limits given traffic end
    × IsFaultOf limits end fault
fed_fault limits given traffic old fault rest fed (inl memory) = (pending_octets old ++ rest, fed.read, inl memory)
fed_fault limits given traffic old fault rest fed (inr refused) = (
  pending_octets old ++ rest,
  fed.read,
  inr (subst (λ l. IsFaulty l (pending_octets old ++ rest) fault) fed.same
      (subst (λ o. IsFaulty old.limits o fault) (append-nil (pending_octets old ++ rest)) (refused []))),
)
