-- Frames and the parts that they are cut into.
use Rattle.std.proofs.Common.{◌≡◌, ℕ, zero, suc, ◌+◌, ◌<◌, ◌≤◌, List, [], ◌∷◌, ◌++◌, length, take, drop, get_or, Option}
use Rattle.std.proofs.Common.{Some, refl, sym, ap, ◌∙◌, append_assoc, arith}
use Rattle.std.specs.Prelude.{position}
use Rattle.std.specs.Global.{Vec}
use Rattle.std.proofs.lemmas.List.{map-append, get_or-map, take-append-drop, length-map, length-take}
use Rattle.listed.specs.Bodies.{bodies}
use Rattle.jmsg_envelope.specs.Envelope.{IsNoEnvelope, IsSplit, IsUncut, IsUnsigned}
use Rattle.jmsg_envelope.specs.declared.fault.EnvelopeFault.{EnvelopeFault}
use Rattle.jmsg_envelope.specs.declared.fault.EnvelopeFault.TheVariants.{NoDelimiter, TooFewParts, BadSignature}
use Rattle.jmsg_envelope.specs.declared.fault.EnvelopeFault.TheVariants.{BadHeader, OutOfMemory}
use Rattle.jmsg_envelope.specs.Split.{is_delimiter, parts_at, parts_of}
use Rattle.jmsg_envelope.specs.declared.split.Split.{Split}
use Rattle.jmsg_envelope.proofs.Delimiters.{first_found, position-map}

-- frames as they are taken off the end, one by one
pub record IsTaken (frames : List (Vec ℕ)) (at : ℕ) (frame : Vec ℕ) (split : Split) : Type 0 where
  pub front : take (at + 6) frames
      ≡ (((((split.identities.items ++ frame ∷ []) ++ split.signature ∷ []) ++ split.header ∷ []) ++ split.parent ∷ [])
      ++ split.metadata ∷ []) ++ split.content ∷ []
  pub back : drop (at + 6) frames ≡ split.buffers.items
  pub place : length split.identities.items ≡ at

-- the frames that were cut
pub whole_cut : (frames : List (Vec ℕ)) (at : ℕ) (frame : Vec ℕ) (split : Split) → IsTaken frames at frame split
    → bodies frames ≡ bodies split.identities.items ++ frame.items ∷ split.signature.items ∷ split.header.items
    ∷ split.parent.items
    ∷ split.metadata.items ∷ split.content.items ∷ bodies split.buffers.items
whole_cut frames at frame split taken =
    let joined = sym (take-append-drop (at + 6) frames) in
    let cut = rw (taken.front, taken.back) at joined in
    ap bodies cut ∙ simp (append_assoc, map-append)

-- frames that were cut at the first delimiter
pub IsSplit-from_taken : (frames : List (Vec ℕ)) (at : ℕ) (frame : Vec ℕ) (split : Split)
    → IsTaken frames at frame split
    → position (λ f. is_delimiter f.items) frames ≡ Some at → IsSplit (bodies frames) (parts_of split)
IsSplit-from_taken frames at frame split taken found =
    let whole = whole_cut frames at frame split taken in
    let len : length (bodies split.identities.items) ≡ at = length-map split.identities.items (λ (f : Vec ℕ). f.items)
    ∙ taken.place in
    let first = first_found (bodies frames) at (position-map is_delimiter (λ (f : Vec ℕ). f.items) frames ∙ found)
    (bodies split.identities.items)
    _ frame.items whole len in
    record {
      whole = whole ∙ ap (λ (f : List ℕ). bodies split.identities.items ++ f ∷ split.signature.items
          ∷ split.header.items ∷ split.parent.items
          ∷ split.metadata.items ∷ split.content.items ∷ bodies split.buffers.items) first.0;
      first = first.1;
    }

-- a place that was found among frames is the same among their bodies
pub bodies_found : (frames : List (Vec ℕ)) (place : Option ℕ) → position (λ f. is_delimiter f.items) frames ≡ place
    → position is_delimiter (bodies frames) ≡ place
bodies_found frames place found = position-map is_delimiter (λ (f : Vec ℕ). f.items) frames ∙ found

-- there are as many bodies as frames
pub length_of_bodies : (frames : List (Vec ℕ)) → length (bodies frames) ≡ length frames
length_of_bodies frames = length-map frames (λ (f : Vec ℕ). f.items)

-- what isn't cut is no envelope under any key
pub uncut_is_none : (key : List ℕ) (frames : List (List ℕ)) (fault : EnvelopeFault) → IsUncut frames fault
    → IsNoEnvelope key frames fault
uncut_is_none key frames NoDelimiter uncut = uncut
uncut_is_none key frames TooFewParts uncut = uncut
uncut_is_none key frames BadSignature uncut = absurd uncut
uncut_is_none key frames BadHeader uncut = absurd uncut
uncut_is_none key frames OutOfMemory uncut = absurd uncut

-- what isn't cut isn't signed under any key
pub uncut_is_unsigned : (key : List ℕ) (frames : List (List ℕ)) (fault : EnvelopeFault) → IsUncut frames fault
    → IsUnsigned key frames fault
uncut_is_unsigned key frames NoDelimiter uncut = uncut
uncut_is_unsigned key frames TooFewParts uncut = uncut
uncut_is_unsigned key frames BadSignature uncut = absurd uncut
uncut_is_unsigned key frames BadHeader uncut = absurd uncut
uncut_is_unsigned key frames OutOfMemory uncut = absurd uncut

-- frames from a place on are the frame there, and those from the next place on
from_here : (frames : List (List ℕ)) (at : ℕ) → at < length frames
    → drop at frames ≡ get_or frames at [] ∷ drop (suc at) frames
from_here [] at within = absurd (omega (arith, within))
from_here (frame ∷ frames) zero within = refl
from_here (frame ∷ frames) (suc at) within = from_here frames at (omega (arith, within))

from_place : (frames : List (List ℕ)) (at next : ℕ) → suc at ≡ next → at < length frames
    → drop at frames ≡ get_or frames at [] ∷ drop next frames
from_place frames at next is within =
    from_here frames at within ∙ ap (λ n. get_or frames at [] ∷ drop n frames) is

-- a frame that was indexed is the one at this place among the bodies
pub body_at : (frames : List (Vec ℕ)) (at : ℕ) (frame : Vec ℕ) → at < length frames → frame ≡ get_or frames at frame
    → frame.items ≡ get_or (bodies frames) at []
body_at frames at frame within is =
    ap (λ (f : Vec ℕ). f.items) is ∙ sym (get_or-map (λ (f : Vec ℕ). f.items) frames at frame [] within)

-- frames with at least five after their first delimiter are their parts
pub split_at_place : (frames : List (List ℕ)) (at : ℕ) → position is_delimiter frames ≡ Some at
    → at + 6 ≤ length frames → IsSplit frames (parts_at frames at)
split_at_place frames at found within =
    let front : length (take at frames) ≡ at = simp length-take (omega arith) in
    let joined : frames ≡ take at frames ++ drop at frames = sym (take-append-drop at frames) in
    let zeroth = from_place frames at (at + 1) (omega arith) (omega arith) in
    let one : drop (at + 1) frames ≡ get_or frames (at + 1) [] ∷ drop (at + 2) frames =
    from_place frames (at + 1) (at + 2) (omega arith) (omega arith) in
    let two : drop (at + 2) frames ≡ get_or frames (at + 2) [] ∷ drop (at + 3) frames =
    from_place frames (at + 2) (at + 3) (omega arith) (omega arith) in
    let three : drop (at + 3) frames ≡ get_or frames (at + 3) [] ∷ drop (at + 4) frames =
    from_place frames (at + 3) (at + 4) (omega arith) (omega arith) in
    let four : drop (at + 4) frames ≡ get_or frames (at + 4) [] ∷ drop (at + 5) frames =
    from_place frames (at + 4) (at + 5) (omega arith) (omega arith) in
    let five : drop (at + 5) frames ≡ get_or frames (at + 5) [] ∷ drop (at + 6) frames =
    from_place frames (at + 5) (at + 6) (omega arith) (omega arith) in
    let whole = joined ∙ ap (λ rest. take at frames ++ rest) (zeroth
    ∙ ap (λ rest. get_or frames at [] ∷ rest) (one ∙ ap (λ rest. get_or frames (at + 1) [] ∷ rest) (two
    ∙ ap (λ rest. get_or frames (at + 2) [] ∷ rest) (three ∙ ap (λ rest. get_or frames (at + 3) [] ∷ rest) (four
    ∙ ap (λ rest. get_or frames (at + 4) [] ∷ rest) five))))) in
    let first = first_found frames at found (take at frames) (drop (at + 1) frames) (get_or frames at [])
    (joined ∙ ap (λ rest. take at frames ++ rest) zeroth) front in
    record {
      whole = whole ∙ ap (λ (frame : List ℕ). take at frames ++ frame ∷ get_or frames (at + 1) []
          ∷ get_or frames (at + 2) [] ∷ get_or frames (at + 3) [] ∷ get_or frames (at + 4) []
          ∷ get_or frames (at + 5) [] ∷ drop (at + 6) frames) first.0;
      first = first.1;
    }
