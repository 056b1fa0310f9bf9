-- Traffic that is handed on, one after the other.
use Rattle.std.proofs.Common.{◌≡◌, List, [], ◌∷◌, ◌++◌, true, false, refl, sym, ◌∙◌, subst, append_assoc}
use Rattle.std.proofs.Common.{Ok, Err}
use Rattle.std.proofs.lemmas.List.{append-nil}
use Rattle.zmtp_wire.specs.declared.fault.WireFault.TheVariants.{PeerError}
use Rattle.zmtp_wire.specs.declared.traffic.Traffic.{Traffic}
use Rattle.zmtp_wire.specs.Traffic.{is_error}
use Rattle.zmtp_connection.specs.declared.end.ConnectionEnd.TheVariants.{Wire}
use Rattle.zmtp_connection.specs.declared.end.Ending.TheVariants.{Connection, Host}
use Rattle.zmtp_connection.specs.Peer.{IsCalm}
use Rattle.zmtp_connection.specs.Listen.{Hearing, HearsAll}
use Rattle.zmtp_connection.specs.Handing.{HandsFront, HandsUpTo}
use Rattle.zmtp_connection.proofs.TrafficLemmas.{calm_on, hears_on}

-- the traffic handed on so far, and what is left of it
pub record HandedSoFar {Listener End : Type 0} (hears : Hearing Listener End) (old : Listener) (all rest : List Traffic)
    (now : Listener) : Type 0 where
  pub front : List Traffic
  pub split : all ≡ front ++ rest
  pub calm : IsCalm front
  pub handed : HearsAll hears old front now

pub handed_none : {Listener End : Type 0} (hears : Hearing Listener End) (old : Listener) (all : List Traffic)
    → HandedSoFar hears old all all old
handed_none hears old all = record { front = []; split = refl; calm = tt; handed = refl }

-- one more was handed on
pub handed_more : {Listener End : Type 0} (hears : Hearing Listener End) (old : Listener) (all : List Traffic)
    (item : Traffic)
    (rest : List Traffic) (now new : Listener)
    → HandedSoFar hears old all (item ∷ rest) now → is_error item ≡ false → hears now item new (Ok tt)
    → HandedSoFar hears old all rest new
handed_more hears old all item rest now new so_far harmless one = record {
  front = so_far.front ++ item ∷ [];
  split = so_far.split ∙ sym (append_assoc so_far.front (item ∷ []) rest);
  calm = calm_on so_far.front (item ∷ []) so_far.calm (harmless, tt);
  handed = hears_on hears old now new so_far.front (item ∷ []) so_far.handed (new, one, refl);
}

-- all was handed on
pub handed_all : {Listener End : Type 0} (hears : Hearing Listener End) (old : Listener) (all : List Traffic)
    (now : Listener)
    → HandedSoFar hears old all [] now → IsCalm all × HearsAll hears old all now
handed_all hears old all now so_far =
    let same : so_far.front ≡ all = sym (so_far.split ∙ append-nil so_far.front) in
    (subst IsCalm same so_far.calm, subst (λ t. HearsAll hears old t now) same so_far.handed)

up_to : {Listener End : Type 0} (hears : Hearing Listener End) (old : Listener) (all : List Traffic) (item : Traffic)
    (rest : List Traffic) (now : Listener) → HandedSoFar hears old all (item ∷ rest) now
    → HandsUpTo hears old all item now
up_to hears old all item rest now so_far = record {
  front = so_far.front;
  behind = rest;
  split = so_far.split;
  calm = so_far.calm;
  handed = so_far.handed;
}

-- a command ERROR ends it
pub handed_error : {Listener End : Type 0} (hears : Hearing Listener End) (old : Listener) (all : List Traffic)
    (item : Traffic) (rest : List Traffic) (now : Listener) → HandedSoFar hears old all (item ∷ rest) now
    → is_error item ≡ true → HandsFront hears old all now (Connection (Wire PeerError))
handed_error hears old all item rest now so_far error =
    (item, error, refl, up_to hears old all item rest now so_far)

-- the listener ends it
pub handed_off : {Listener End : Type 0} (hears : Hearing Listener End) (old : Listener) (all : List Traffic)
    (item : Traffic) (rest : List Traffic) (now new : Listener) (end : End)
    → HandedSoFar hears old all (item ∷ rest) now → is_error item ≡ false → hears now item new (Err end)
    → HandsFront hears old all new (Host end)
handed_off hears old all item rest now new end so_far harmless one =
    (item, now, harmless, one, up_to hears old all item rest now so_far)
