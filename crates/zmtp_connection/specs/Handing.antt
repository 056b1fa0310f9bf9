-- The steps of listening, by what each of them handed on.
use Rattle.std.specs.Prelude.{◌≡◌, ◌⊎◌, ℕ, ◌+◌, List, [], ◌∷◌, ◌++◌, true, false, Result, Ok, Err, Option, Some}
use Rattle.std.specs.Prelude.{None}
use Rattle.zmtp_wire.specs.declared.fault.WireFault.{WireFault}
use Rattle.zmtp_wire.specs.declared.fault.WireFault.TheVariants.{PeerError}
use Rattle.zmtp_wire.specs.declared.traffic.Traffic.{Traffic}
use Rattle.zmtp_wire.specs.Traffic.{is_error}
use Rattle.zmtp_wire.specs.Decoding.{Decoding, Feeds}
use Rattle.zmtp_connection.specs.declared.end.ConnectionEnd.{ConnectionEnd}
use Rattle.zmtp_connection.specs.declared.end.ConnectionEnd.TheVariants.{Wire}
use Rattle.zmtp_connection.specs.declared.end.Ending.{Ending}
use Rattle.zmtp_connection.specs.declared.end.Ending.TheVariants.{Connection, Host}
use Rattle.zmtp_connection.specs.Peer.{IsCalm}
use Rattle.zmtp_connection.specs.Exchange.{Source, Leg, Reading}
use Rattle.zmtp_connection.specs.Steps.{IsStop}
use Rattle.zmtp_connection.specs.Listen.{Hearing, HearsAll}

-- The traffic before one traffic was handed on, and none of it ended listening.
pub record HandsUpTo {Listener End : Type 0} (hears : Hearing Listener End) (old : Listener) (traffic : List Traffic)
    (last : Traffic) (now : Listener) : Type 0 where
  pub front : List Traffic
  pub behind : List Traffic
  pub split : traffic ≡ front ++ last ∷ behind
  pub calm : IsCalm front
  pub handed : HearsAll hears old front now

-- One traffic ended listening: it was the command ERROR, or the listener ended it there.
abbrev pub HandsFront : {Listener End : Type 0} → Hearing Listener End → Listener → List Traffic → Listener
    → Ending End → Type 0
HandsFront hears old traffic new (Connection end) =
    (last : Traffic) × (is_error last ≡ true) × (end ≡ Wire PeerError) × HandsUpTo hears old traffic last new
HandsFront {Listener} hears old traffic new (Host end) =
    (last : Traffic) × (now : Listener) × (is_error last ≡ false) × hears now last new (Err end)
    × HandsUpTo hears old traffic last now

-- all of the traffic was handed on, or it ended listening
abbrev pub HandsSome : {Listener End : Type 0} → Hearing Listener End → Listener → List Traffic → Listener
    → Result Unit (Ending End) → Type 0
HandsSome hears old traffic new (Ok done) = IsCalm traffic × HearsAll hears old traffic new
HandsSome hears old traffic new (Err ending) = HandsFront hears old traffic new ending

-- All that a piece brought was handed on, or some of it and listening ended there. After all of it the piece's fault
-- ended listening, if it had one. The arguments are those of `HandsSome`, and the fault.
abbrev pub HandsFed : {Listener End : Type 0} → Hearing Listener End → Listener → List Traffic → Option WireFault
    → Listener → Result Unit (Ending End) → Type 0
HandsFed hears old traffic fault new (Ok done) = (fault ≡ None) × (IsCalm traffic × HearsAll hears old traffic new)
HandsFed hears old traffic fault new (Err ending) = HandsFront hears old traffic new ending
    ⊎ ((found : WireFault) × (fault ≡ Some found) × (ending ≡ Connection (Wire found))
    × (IsCalm traffic × HearsAll hears old traffic new))

-- A piece was read in one turn, and what it brought was handed on. The arguments are a listener, a decoder and what is
-- read from, each as it was and as it is then. So they are below.
pub record HandsPiece {Listener End : Type 0} (hears : Hearing Listener End) (old new : Listener)
    (decoder decoder' : Decoding) (source source' : Source) (result : Result Unit (Ending End)) : Type 0 where
  pub octets : List ℕ
  pub traffic : List Traffic
  pub fault : Option WireFault
  pub leg : Leg source source' octets
  pub one : source.turns ≡ source'.turns + 1
  pub fed : decoder.spent ≡ false → Feeds decoder octets traffic fault decoder'
  pub same : decoder'.limits ≡ decoder.limits
  pub hands : HandsFed hears old traffic fault new result

-- A piece was read, and what it brought was handed on. Or reading stopped, which ended listening.
abbrev pub HearsPiece : {Listener End : Type 0} → Hearing Listener End → Listener → Listener → Decoding → Decoding
    → Source → Source → Result Unit (Ending End) → Type 0
HearsPiece hears old new decoder decoder' source source' (Ok done) =
    HandsPiece hears old new decoder decoder' source source' (Ok done)
HearsPiece hears old new decoder decoder' source source' (Err ending) =
    HandsPiece hears old new decoder decoder' source source' (Err ending)
    ⊎ ((end : ConnectionEnd) × (ending ≡ Connection end) × IsStop end × Reading source source' [] end × (new ≡ old))
