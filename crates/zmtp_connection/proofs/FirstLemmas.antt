-- What comes first behind a peer's greeting.
use Rattle.std.proofs.Common.{◌≡◌, ◌⊎◌, inl, inr, ℕ, ◌+◌, List, [], ◌++◌, false, Option, Some, None, refl, sym, ◌∙◌, ap}
use Rattle.std.proofs.Common.{subst}
use Rattle.zmtp_wire.specs.declared.fault.WireFault.{WireFault}
use Rattle.zmtp_wire.specs.declared.fault.WireFault.TheVariants.{OutOfMemory}
use Rattle.zmtp_wire.specs.declared.traffic.Traffic.{Traffic}
use Rattle.zmtp_wire.specs.Limits.{usual_limits}
use Rattle.zmtp_wire.specs.Grammar.{ReadsUpTo, IsFaulty, IsUnfinished}
use Rattle.zmtp_wire.specs.Decoding.{Decoding, Feeds, IsFaultOf}
use Rattle.zmtp_connection.specs.declared.end.ConnectionEnd.{ConnectionEnd}
use Rattle.zmtp_connection.specs.declared.end.ConnectionEnd.TheVariants.{Wire}
use Rattle.zmtp_connection.specs.Exchange.{Leg, Reading, Source}
use Rattle.zmtp_connection.specs.Steps.{BringsNothing, ComesLate, IsStop, fresh}
use Rattle.zmtp_connection.proofs.Legs.{leg_none, leg_on, stop_on, decided, wire_decided}
use Rattle.zmtp_connection.proofs.PromptLemmas.{last_read}
use Rattle.zmtp_connection.proofs.Unfinished.{nothing_unfinished}

-- no traffic came yet, and all that was read is kept
pub record NothingFirst (old now : Source) (decoder : Decoding) : Type 0 where
  pub leg : Leg old now decoder.kept
  pub unfinished : IsUnfinished usual_limits decoder.kept
  pub alive : decoder.spent ≡ false
  pub limits : decoder.limits ≡ usual_limits

pub none_first : (old : Source) (decoder : Decoding) → decoder ≡ fresh
    → NothingFirst old old decoder
none_first old decoder is = rw is (record {
  leg = leg_none old;
  unfinished = nothing_unfinished usual_limits;
  alive = refl;
  limits = refl;
})

-- reading stops
pub stopped_first : (one two three : Source) (decoder : Decoding) (end : ConnectionEnd)
    → NothingFirst one two decoder → IsStop end
    → Reading two three [] end → (octets : List ℕ) × BringsNothing octets end
    × Reading one three octets end
stopped_first one two three decoder end so_far stop reading = (
  decoder.kept,
  inl (stop, so_far.unfinished),
  stop_on one two three decoder.kept end so_far.leg reading,
)

-- a feed of what was kept is a feed of all
pub fed_all : (old new : Decoding) (piece : List ℕ) (traffic : List Traffic) (fault : Option WireFault) → old.limits
    ≡ usual_limits → Feeds old piece traffic fault new → Feeds fresh (old.kept ++ piece) traffic fault new
fed_all old new piece traffic None limits (read, unfinished, alive) = (
  subst (λ l. ReadsUpTo l (old.kept ++ piece) traffic new.kept) limits read,
  subst (λ l. IsUnfinished l new.kept) limits unfinished,
  alive,
)
fed_all old new piece traffic (Some found) limits ((rest, read, refused), spent) = (
  (
    rest,
    subst (λ l. ReadsUpTo l (old.kept ++ piece) traffic rest) limits read,
    subst (λ l. IsFaultOf l rest found) limits refused,
  ),
  spent,
)

pub came_first : (one two three : Source) (old new : Decoding) (piece : List ℕ)
    (traffic : List Traffic) (fault : Option WireFault)
    → NothingFirst one two old → Leg two three piece → Feeds old piece traffic fault new
    → new.limits ≡ old.limits → two.turns ≡ three.turns + 1
    → (octets : List ℕ) × (Feeds fresh octets traffic fault new × (new.limits ≡ usual_limits))
    × Leg one three octets × ComesLate one three octets
came_first one two three old new piece traffic fault so_far leg feeds same is = (
  old.kept ++ piece,
  (fed_all old new piece traffic fault so_far.limits feeds, same ∙ so_far.limits),
  leg_on one two three old.kept piece so_far.leg leg,
  record {
    last = last_read one two three old.kept piece so_far.leg leg is;
    nothing = so_far.unfinished.no_traffic;
  },
)

-- what is read of octets as no traffic is all of them
none_read : (octets rest : List ℕ) → ReadsUpTo usual_limits octets [] rest → octets ≡ rest
none_read octets rest (front, is, none) = is ∙ ap (λ o. o ++ rest) none

refused_brings : (octets rest : List ℕ) (fault : WireFault) → octets ≡ rest → IsFaultOf usual_limits rest fault
    → (fault ≡ OutOfMemory) ⊎ IsFaulty usual_limits octets fault
refused_brings octets rest fault is (inl memory) = inl memory
refused_brings octets rest fault is (inr faulty) = inr (subst (λ o. IsFaulty usual_limits o fault) (sym is) faulty)

pub refused_first : (one two three : Source) (old new : Decoding) (piece : List ℕ)
    (fault : WireFault)
    → NothingFirst one two old → Leg two three piece → Feeds old piece [] (Some fault) new
    → (octets : List ℕ) × BringsNothing octets (Wire fault) × Reading one three octets (Wire fault)
refused_first one two three old new piece fault so_far leg feeds =
    let ((rest, read, refused), spent) = fed_all old new piece [] (Some fault) so_far.limits feeds in
    let whole = leg_on one two three old.kept piece so_far.leg leg in (
      old.kept ++ piece,
      inr (
        fault,
        refl,
        refused_brings (old.kept ++ piece) rest fault (none_read (old.kept ++ piece) rest read) refused,
      ),
      decided one three (old.kept ++ piece) (Wire fault) (wire_decided fault) whole,
    )

-- nothing came in this piece either
pub nothing_first : (one two three : Source) (old new : Decoding) (piece : List ℕ)
    → NothingFirst one two old → Leg two three piece
    → Feeds old piece [] None new → new.limits ≡ old.limits → NothingFirst one three new
nothing_first one two three old new piece so_far leg feeds same =
    let (read, unfinished, alive) = fed_all old new piece [] None so_far.limits feeds in
    record {
      leg = subst (Leg one three) (none_read (old.kept ++ piece) new.kept read)
          (leg_on one two three old.kept piece so_far.leg leg);
      unfinished = unfinished;
      alive = alive;
      limits = same ∙ so_far.limits;
    }
