-- Listening, by what is seen of the listener.
use Rattle.std.proofs.Common.{ℕ, List, [], ◌∷◌, ◌++◌, Result, Ok, Err, ap}
use Rattle.zmtp_wire.specs.declared.traffic.Traffic.{Traffic}
use Rattle.zmtp_connection.specs.declared.end.ConnectionEnd.{ConnectionEnd}
use Rattle.zmtp_connection.specs.declared.end.Ending.{Ending}
use Rattle.zmtp_connection.specs.declared.end.Ending.TheVariants.{Connection, Host}
use Rattle.zmtp_connection.specs.Exchange.{Source}
use Rattle.zmtp_connection.specs.Listen.{Heard, Hearing, HearsAll, IsBrokenOff, IsHeardOut, Listens}

-- each step of a listener is a step of what is seen of it
abbrev pub Sees : {Listener Other End : Type 0} → (Listener → Other) → Hearing Listener End → Hearing Other End
    → Type 0
Sees {Listener} {End = End} view hears sees = (old new : Listener) (traffic : Traffic) (result : Result Unit End)
    → hears old traffic new result → sees (view old) traffic (view new) result

pub all_seen : {Listener Other End : Type 0} (view : Listener → Other) (hears : Hearing Listener End)
    (sees : Hearing Other End) → Sees view hears sees → (old new : Listener) (traffic : List Traffic)
    → HearsAll hears old traffic new → HearsAll sees (view old) traffic (view new)
all_seen view hears sees steps old new [] same = ap view same
all_seen view hears sees steps old new (first ∷ others) (middle, one, rest) =
    (view middle, steps old middle first (Ok tt) one, all_seen view hears sees steps middle new others rest)

abbrev pub heard_seen : {Listener Other End : Type 0} (view : Listener → Other) (hears : Hearing Listener End)
    (sees : Hearing Other End) → Sees view hears sees → (old new : Listener) (octets : List ℕ)
    → Heard hears old octets new → Heard sees (view old) octets (view new)
heard_seen view hears sees steps old new octets heard = record {
  traffic = heard.traffic;
  rest = heard.rest;
  read = heard.read;
  calm = heard.calm;
  handed = all_seen view hears sees steps old new heard.traffic heard.handed;
}

abbrev pub out_seen : {Listener Other End : Type 0} (view : Listener → Other) (hears : Hearing Listener End)
    (sees : Hearing Other End) → Sees view hears sees → (old : Listener) (before : List ℕ) (source source' : Source)
    (new : Listener) (end : ConnectionEnd) → IsHeardOut hears old before source source' new end
    → IsHeardOut sees (view old) before source source' (view new) end
out_seen view hears sees steps old before source source' new end out = record {
  octets = out.octets;
  reading = out.reading;
  heard = heard_seen view hears sees steps old new (before ++ out.octets) out.heard;
  ends = out.ends;
}

abbrev pub off_seen : {Listener Other End : Type 0} (view : Listener → Other) (hears : Hearing Listener End)
    (sees : Hearing Other End) → Sees view hears sees → (old : Listener) (before : List ℕ) (source source' : Source)
    (new : Listener) (end : End) → IsBrokenOff hears old before source source' new end
    → IsBrokenOff sees (view old) before source source' (view new) end
off_seen view hears sees steps old before source source' new end off = record {
  octets = off.octets;
  leg = off.leg;
  now = view off.now;
  heard = heard_seen view hears sees steps old off.now (before ++ off.octets) off.heard;
  last = off.last;
  comes = off.comes;
  harmless = off.harmless;
  ends = steps off.now new off.last (Err end) off.ends;
  prompt = off.prompt;
}

-- what a listener heard, by what is seen of it
pub listens_seen : {Listener Other End : Type 0} (view : Listener → Other) (hears : Hearing Listener End)
    (sees : Hearing Other End) → Sees view hears sees → (old : Listener) (before : List ℕ) (source source' : Source)
    (new : Listener) (ending : Ending End) → Listens hears old before source source' new ending
    → Listens sees (view old) before source source' (view new) ending
listens_seen view hears sees steps old before source source' new (Connection end) out =
    out_seen view hears sees steps old before source source' new end out
listens_seen view hears sees steps old before source source' new (Host end) off =
    off_seen view hears sees steps old before source source' new end off
