-- No octets are unfinished traffic.
use Rattle.std.proofs.Common.{◌≡◌, ℕ, List, [], ◌∷◌, ◌++◌, false, refl, sym, ◌∙◌}
use Rattle.zmtp_wire.specs.declared.traffic.limits.Limits.{Limits}
use Rattle.zmtp_wire.specs.declared.traffic.Traffic.{Traffic}
use Rattle.zmtp_wire.specs.declared.traffic.Traffic.TheVariants as traffic
use Rattle.zmtp_wire.specs.declared.fault.WireFault.{WireFault}
use Rattle.zmtp_wire.specs.declared.fault.WireFault.TheVariants as faults
use Rattle.zmtp_wire.specs.Frame.{front_octets, frame_octets, bodies_of}
use Rattle.zmtp_wire.specs.Grammar.{Spells, IsRefused, IsUnfinished}

-- what has something in it isn't nothing
some_none : (front : List ℕ) (octet : ℕ) (rest : List ℕ) → [] ≡ front ++ octet ∷ rest → ⊥
some_none [] octet rest is = absurd cc
some_none (first ∷ front) octet rest is = absurd cc

front_none : (front rest : List ℕ) → [] ≡ front ++ rest → (front ≡ []) × (rest ≡ [])
front_none [] [] is = (refl, refl)
front_none [] (first ∷ rest) is = absurd cc
front_none (first ∷ front) rest is = absurd cc

no_spelling : (limits : Limits) (octets : List ℕ) (whole : Traffic) → octets ≡ [] → Spells limits octets whole → ⊥
no_spelling limits octets (traffic.Message bodies) none spelled = let last =
    front_none (front_octets spelled.front) (frame_octets false false spelled.last) (sym none ∙ spelled.spelled) in
    let e = last.1 in absurd cc
no_spelling limits octets (traffic.Command name rest) none spelled = let e = sym none ∙ spelled.spelled in absurd cc

no_refusal : (limits : Limits) (before : List (List ℕ)) (octets : List ℕ) (fault : WireFault) → octets ≡ []
    → IsRefused limits before octets fault → ⊥
no_refusal limits before octets faults.Flags none (flags, after, is, bad) = let e = sym none ∙ is in absurd cc
no_refusal limits before octets faults.TooManyFrames none (more, long, after, is, many) = let e = sym none ∙ is in
    absurd cc
no_refusal limits before octets faults.FrameTooLong none (more, long, command, size, after, is, said, allowed, over) =
    let e = sym none ∙ is in absurd cc
no_refusal limits before octets faults.MessageTooLong none (more, long, size, after, is, said, allowed, fits, over) =
    let e = sym none ∙ is in absurd cc
no_refusal limits before octets faults.Command none (frame, after, is, said, first, fits, bad) = let e = sym none
    ∙ is in absurd cc
no_refusal limits before octets faults.Signature none never = never
no_refusal limits before octets faults.Version none never = never
no_refusal limits before octets faults.Mechanism none never = never
no_refusal limits before octets faults.Pairing none never = never
no_refusal limits before octets faults.PeerError none never = never
no_refusal limits before octets faults.Spent none never = never
no_refusal limits before octets faults.OutOfMemory none never = never

pub nothing_unfinished : (limits : Limits) → IsUnfinished limits []
nothing_unfinished limits = record {
  no_traffic = λ whole front rest is spelled. no_spelling limits front whole (front_none front rest is).0 spelled;
  no_fault = λ fault h. no_refusal limits (bodies_of h.front) h.rest fault
      (front_none (front_octets h.front) h.rest h.spelled).1 h.refused;
}
