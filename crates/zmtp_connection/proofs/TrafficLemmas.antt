-- Traffic in turn.
use Rattle.std.proofs.Common.{ℕ, List, [], ◌∷◌, ◌++◌, refl, sym, ◌∙◌, ap, subst, append_assoc}
use Rattle.zmtp_wire.specs.declared.traffic.limits.Limits.{Limits}
use Rattle.zmtp_wire.specs.declared.traffic.Traffic.{Traffic}
use Rattle.zmtp_wire.specs.Limits.{usual_limits}
use Rattle.zmtp_wire.specs.Grammar.{ReadsUpTo}
use Rattle.zmtp_connection.specs.Peer.{BeginsWith, IsCalm}
use Rattle.zmtp_connection.specs.Listen.{Hearing, HearsAll}

-- traffic without a command ERROR, and more
pub calm_on : (front more : List Traffic) → IsCalm front → IsCalm more → IsCalm (front ++ more)
calm_on [] more calm after = after
calm_on (first ∷ front) more (harmless, calm) after = (harmless, calm_on front more calm after)

-- traffic heard in turn, and more
pub hears_on : {Listener End : Type 0} (hears : Hearing Listener End) (old middle new : Listener)
    (front more : List Traffic)
    → HearsAll hears old front middle → HearsAll hears middle more new → HearsAll hears old (front ++ more) new
hears_on hears old middle new [] more same after = subst (λ l. HearsAll hears l more new) same after
hears_on hears old middle new (first ∷ front) more (next, one, others) after =
    (next, one, hears_on hears next middle new front more others after)

-- traffic read in turn, and more
pub reads_on : (limits : Limits) (octets : List ℕ) (one more : List Traffic) (rest after last : List ℕ)
    → ReadsUpTo limits octets one rest → ReadsUpTo limits (rest ++ after) more last
    → ReadsUpTo limits (octets ++ after) (one ++ more) last
reads_on limits octets [] more rest after last (front, is, none) b =
    subst (λ o. ReadsUpTo limits (o ++ after) more last) (sym (is ∙ ap (λ o. o ++ rest) none)) b
reads_on limits octets (first ∷ one) more rest after last (front, is, (head, tail, split, spelled, reads)) b =
    let (read, later, others) = reads_on limits (tail ++ rest) one more rest after last (tail, refl, reads) b in (
      head ++ read,
      ap (λ o. o ++ after) (is ∙ ap (λ o. o ++ rest) split ∙ append_assoc head tail rest)
          ∙ append_assoc head (tail ++ rest) after ∙ ap (λ o. head ++ o) later ∙ sym (append_assoc head read last),
      (head, read, refl, spelled, others),
    )

-- octets that are read as some traffic and one more: behind the first of it they begin with that one
pub record FrontRead (octets : List ℕ) (some : List Traffic) (last : Traffic) : Type 0 where
  pub rest : List ℕ
  pub read : ReadsUpTo usual_limits octets some rest
  pub comes : BeginsWith rest last

pub reads_front : (octets : List ℕ) (some : List Traffic) (last : Traffic) (others : List Traffic) (rest : List ℕ)
    → ReadsUpTo usual_limits octets (some ++ last ∷ others) rest → FrontRead octets some last
reads_front octets [] last others rest (read, is, (head, tail, split, spelled, reads)) = record {
  rest = octets;
  read = ([], refl, refl);
  comes = record {
    front = head;
    behind = tail ++ rest;
    split = is ∙ ap (λ o. o ++ rest) split ∙ append_assoc head tail rest;
    spelled = spelled;
  };
}
reads_front octets (first ∷ some) last others rest (read, is, (head, tail, split, spelled, reads)) =
    let later = reads_front (tail ++ rest) some last others rest (tail, refl, reads) in
    let (front, same, reads') = later.read in
    record {
      rest = later.rest;
      read = (
        head ++ front,
        is ∙ ap (λ o. o ++ rest) split ∙ append_assoc head tail rest ∙ ap (λ o. head ++ o) same
            ∙ sym (append_assoc head front later.rest),
        (head, front, refl, spelled, reads'),
      );
      comes = later.comes;
    }
