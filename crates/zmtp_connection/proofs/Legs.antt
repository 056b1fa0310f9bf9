-- Reads and writes in turn.
use Rattle.std.proofs.Common.{◌≡◌, ℕ, zero, suc, ◌+◌, List, [], ◌++◌, Option, Some, None, refl, sym, ◌∙◌, ap, arith}
use Rattle.std.proofs.Common.{add-zero, add-suc, length-append, ◌≢◌, subst}
use Rattle.std.proofs.lemmas.List.{append-nil}
use Rattle.std.proofs.KnownBytes.{Appends-nil, Appends-trans, Consumes-nil, Consumes-trans}
use Rattle.zmtp_wire.specs.Device.{Inflow, Outflow, Draws, Puts, risen, risen_by}
use Rattle.zmtp_wire.specs.declared.fault.WireFault.{WireFault}
use Rattle.zmtp_connection.specs.declared.fault.ConnectionFault.TheVariants.{Memory, Turns, Write}
use Rattle.zmtp_connection.specs.declared.end.ConnectionEnd.{ConnectionEnd}
use Rattle.zmtp_connection.specs.declared.end.ConnectionEnd.TheVariants.{Eof, Failed, Wire}
use Rattle.zmtp_connection.specs.Exchange.{Devices, Leg, Reading, ReadingOf, Source, failed_reads}

-- a source with an outlet
abbrev pub over : Source → Outflow → Devices
over source outflow = record { source = source; outflow = outflow }

-- a rise and another
risen_on : (many more count : ℕ) → risen_by more (risen_by many count) ≡ risen_by (many + more) count
risen_on many zero count = ap (λ n. risen_by n count) (sym (add-zero many))
risen_on many (suc more) count = ap risen (risen_on many more count)
    ∙ ap (λ n. risen_by n count) (sym (add-suc many more))

draws_on : (one two three : Inflow) (first second : List ℕ) (turns more fails : ℕ) → Draws one two first turns 0
    → Draws two three second more fails
    → Draws one three (first ++ second) (turns + more) fails
draws_on one two three first second turns more fails a b = record {
  taken = Consumes-trans one.left two.left three.left first second a.taken b.taken;
  reads = b.reads ∙ ap (risen_by more) a.reads ∙ risen_on turns more one.reads;
  fails = b.fails ∙ ap (risen_by fails) a.fails;
}

-- no read
pub leg_none : (old : Source) → Leg old old []
leg_none old = record {
  taken = 0;
  draws = record { taken = Consumes-nil old.inflow.left; reads = refl; fails = refl };
  counted = sym (add-zero old.turns);
  few = omega arith;
}

-- a leg behind another
pub leg_on : (one two three : Source) (first second : List ℕ) → Leg one two first → Leg two three second
    → Leg one three (first ++ second)
leg_on one two three first second a b = record {
  taken = a.taken + b.taken;
  draws = draws_on one.inflow two.inflow three.inflow first second a.taken b.taken 0 a.draws b.draws;
  counted = omega (arith, a.counted, b.counted);
  few = omega (arith, a.few, b.few, length-append first second);
}

-- a last leg behind another
pub reading_on : (one two three : Source) (first second : List ℕ) (end : ConnectionEnd) → Leg one two first
    → Reading two three second end → Reading one three (first ++ second) end
reading_on one two three first second end a b = record {
  taken = a.taken + b.taken;
  draws = draws_on one.inflow two.inflow three.inflow first second a.taken b.taken (failed_reads end) a.draws b.draws;
  counted = omega (arith, a.counted, b.counted);
  few = omega (arith, a.few, b.few, length-append first second);
  spent = b.spent;
  read_out = b.read_out;
}

-- the same, where the connection ended it or not
pub reading_of_on : (one two three : Source) (first second : List ℕ) (end : Option ConnectionEnd) → Leg one two first
    → ReadingOf two three second end → ReadingOf one three (first ++ second) end
reading_of_on one two three first second (Some end) a b = reading_on one two three first second end a b
reading_of_on one two three first second None a b = leg_on one two three first second a b

-- reading that stopped behind a leg
pub stop_on : (one two three : Source) (octets : List ℕ) (end : ConnectionEnd) → Leg one two octets
    → Reading two three [] end → Reading one three octets end
stop_on one two three octets end a b = rw (append-nil octets) at (reading_on one two three octets [] end a b)

-- the end is decided by what came, and not by reading
pub record IsDecided (end : ConnectionEnd) : Type 0 where
  pub reads : failed_reads end ≡ 0
  pub turns : end ≢ Failed Turns
  pub octets : end ≢ Eof

pub wire_decided : (fault : WireFault) → IsDecided (Wire fault)
wire_decided fault = record { reads = refl; turns = λ is. cc; octets = λ is. cc }

pub memory_decided : IsDecided (Failed Memory)
memory_decided = record { reads = refl; turns = λ is. cc; octets = λ is. cc }

pub write_decided : IsDecided (Failed Write)
write_decided = record { reads = refl; turns = λ is. cc; octets = λ is. cc }

-- what was read so far ends nothing
pub decided : (old new : Source) (octets : List ℕ) (end : ConnectionEnd) → IsDecided end → Leg old new octets
    → Reading old new octets end
decided old new octets end is leg = record {
  taken = leg.taken;
  draws = subst (Draws old.inflow new.inflow octets leg.taken) (sym is.reads) leg.draws;
  counted = leg.counted;
  few = omega (arith, leg.few);
  spent = λ stops. absurd (is.turns stops);
  read_out = λ stops. absurd (is.octets stops);
}

-- nothing was written
pub puts_none : (old : Outflow) → Puts old old [] 0
puts_none old = record { added = Appends-nil old.written; fails = refl }

-- what is written behind what was written
pub puts_on : (one two three : Outflow) (first second : List ℕ) (fails : ℕ) → Puts one two first 0
    → Puts two three second fails → Puts one three (first ++ second) fails
puts_on one two three first second fails a b = record {
  added = Appends-trans one.written two.written three.written first second a.added b.added;
  fails = b.fails ∙ ap (risen_by fails) a.fails;
}
