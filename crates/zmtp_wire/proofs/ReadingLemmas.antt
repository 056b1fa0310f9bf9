-- The grammar's cases are what reading from the front comes to.
use Rattle.std.proofs.Common.{◌≡◌, ◌≢◌, inl, inr, ℕ, suc, ◌+◌, ◌<◌, ◌≤◌, ◌||◌, nat_eq, Bool}
use Rattle.std.proofs.Common.{true, false, cond, List, [], ◌∷◌, ◌++◌, length, take, drop, sum_by, refl, sym, ◌∙◌, ap}
use Rattle.std.proofs.Common.{subst, arith, append_assoc, length-append, add-zero, add-suc}
use Rattle.std.specs.Int.{w64, to_be_bytes, from_be_bytes}
use Rattle.std.proofs.lemmas.Nat.{from_be_bytes-to_be_bytes_8}
use Rattle.std.proofs.lemmas.Bool.{lt-ltb, le-ltb, le-leb, lt-leb, eq-eqb, ne_eqb}
use Rattle.std.proofs.lemmas.List.{append-nil, map-append}
use Rattle.std.proofs.lemmas.List.Sums.{sum_by-append}
use Rattle.std.proofs.Math.Seq.{take-append_seam, drop-append_seam}
use Rattle.std.specs.List.{AllByRecursion}
use Rattle.zmtp_wire.specs.declared.traffic.frame.Frame.{Frame}
use Rattle.zmtp_wire.specs.declared.traffic.limits.Limits.{Limits}
use Rattle.zmtp_wire.specs.declared.traffic.pending.Pending.{Pending}
use Rattle.zmtp_wire.specs.declared.traffic.pending.Stage.{Stage}
use Rattle.zmtp_wire.specs.declared.traffic.pending.Stage.TheVariants as stages
use Rattle.zmtp_wire.specs.declared.traffic.Traffic.{Traffic}
use Rattle.zmtp_wire.specs.declared.traffic.Traffic.TheVariants as traffic
use Rattle.zmtp_wire.specs.declared.fault.WireFault.{WireFault}
use Rattle.zmtp_wire.specs.declared.fault.WireFault.TheVariants as faults
use Rattle.zmtp_wire.specs.Frame.{flags_octet, head_octets, size_octets, size_bound, HasSize, front_octets, bodies_of}
use Rattle.zmtp_wire.specs.Frame.{frame_octets}
use Rattle.zmtp_wire.specs.Grammar.{IsWithin, Spells, AcceptsFlags, IsBadFlags, reserved}
use Rattle.zmtp_wire.specs.Grammar.{command_with_more, command_inside, IsRefused, IsFaulty, IsBadCommand, command_body}
use Rattle.zmtp_wire.specs.Pending.{size_len, stage_octets, pending_octets, bodies_before, IsStage}
use Rattle.zmtp_wire.specs.Pending.{IsPending}
use Rattle.zmtp_wire.proofs.Reading.{waits, refused, command, command_in, whole_in}
use Rattle.zmtp_wire.proofs.Reading.{body_in, size_in, flags_in, look, Verdict, unfinished, faulty, found, walk}
use Rattle.zmtp_wire.proofs.Reading.{walk_on, ComesTo}

-- one more test of what follows
body_too_long : (limits : Limits) (before : List (List ℕ)) (more is_command : Bool) (size : ℕ) (octets : List ℕ)
    → limits.frame < size
    → body_in limits before more is_command size octets ≡ refused faults.FrameTooLong
unfolding body_in
body_too_long limits before more is_command size octets long = rw (lt-ltb limits.frame size long) refl

body_long_message : (limits : Limits) (before : List (List ℕ)) (more : Bool) (size : ℕ) (octets : List ℕ)
    → size ≤ limits.frame
    → limits.message < sum_by length before + size → body_in limits before more false size octets
    ≡ refused faults.MessageTooLong
unfolding body_in
body_long_message limits before more size octets fits long =
    rw (le-ltb limits.frame size fits, lt-ltb limits.message (sum_by length before + size) long) refl

body_waits : (limits : Limits) (before : List (List ℕ)) (more is_command : Bool) (size : ℕ) (octets : List ℕ)
    → size ≤ limits.frame
    → (is_command ≡ false → sum_by length before + size ≤ limits.message) → length octets < size
    → body_in limits before more is_command size octets ≡ waits
unfolding body_in
body_waits limits before more true size octets fits whole cut =
    rw (le-ltb limits.frame size fits, lt-ltb (length octets) size cut) refl
body_waits limits before more false size octets fits whole cut =
    rw (
      le-ltb limits.frame size fits,
      le-ltb limits.message (sum_by length before + size) (whole refl),
      lt-ltb (length octets) size cut,
    ) refl

body_whole : (limits : Limits) (before : List (List ℕ)) (more is_command : Bool) (body after : List ℕ)
    → length body ≤ limits.frame
    → (is_command ≡ false → sum_by length before + length body ≤ limits.message)
    → body_in limits before more is_command (length body) (body ++ after) ≡ whole_in more is_command body after
unfolding body_in
body_whole limits before more true body after fits whole =
    rw (
      le-ltb limits.frame (length body) fits,
      le-ltb (length (body ++ after)) (length body)
          (omega (arith, length-append body after)),
      take-append_seam body after,
      drop-append_seam body after,
    ) refl
body_whole limits before more false body after fits whole =
    rw (
      le-ltb limits.frame (length body) fits,
      le-ltb limits.message (sum_by length before + length body) (whole refl),
      le-ltb (length (body ++ after)) (length body) (omega (arith, length-append body after)),
      take-append_seam body after,
      drop-append_seam body after,
    ) refl

-- a size is read again
size_read : (limits : Limits) (before : List (List ℕ)) (more long is_command : Bool) (size : ℕ) (after : List ℕ)
    → size < size_bound long
    → size_in limits before more long is_command (size_octets long size ++ after)
    ≡ body_in limits before more is_command size after
unfolding size_in
size_read limits before more false is_command size after said = refl
size_read limits before more true is_command size after said =
    let back : from_be_bytes w64 (take 8 (to_be_bytes w64 size ++ after)) ≡ size =
    from_be_bytes-to_be_bytes_8 size said in
    rw (le-ltb (length (to_be_bytes w64 size ++ after)) 8 (omega arith), back) refl

size_waits : (limits : Limits) (before : List (List ℕ)) (more is_command : Bool) (octets : List ℕ) → length octets < 8
    → size_in limits before more true is_command octets ≡ waits
unfolding size_in
size_waits limits before more is_command octets cut = rw (lt-ltb (length octets) 8 cut) refl

no_size_waits : (limits : Limits) (before : List (List ℕ)) (more is_command : Bool) (octets : List ℕ)
    → length octets < 1
    → size_in limits before more false is_command octets ≡ waits
unfolding size_in
no_size_waits limits before more is_command [] cut = refl
no_size_waits limits before more is_command (octet ∷ octets) cut = absurd (omega arith)

-- flags are read again
look_flags : (limits : Limits) (before : List (List ℕ)) (more long is_command : Bool) (octets : List ℕ)
    → look limits before (flags_octet more long is_command ∷ octets)
    ≡ flags_in limits before more long is_command octets
unfolding look
look_flags limits before true true true octets = refl
look_flags limits before true true false octets = refl
look_flags limits before true false true octets = refl
look_flags limits before true false false octets = refl
look_flags limits before false true true octets = refl
look_flags limits before false true false octets = refl
look_flags limits before false false true octets = refl
look_flags limits before false false false octets = refl

flags_accepted : (limits : Limits) (before : List (List ℕ)) (more long is_command : Bool) (octets : List ℕ)
    → AcceptsFlags limits before more is_command
    → flags_in limits before more long is_command octets ≡ size_in limits before more long is_command octets
unfolding flags_in
flags_accepted limits [] true long true octets allowed = absurd (let e = allowed.0 in cc)
flags_accepted limits [] false long true octets allowed = refl
flags_accepted limits (body ∷ before) more long true octets allowed = absurd (let e = allowed.1 in cc)
flags_accepted limits before more long false octets allowed = rw (lt-leb limits.frames (length before) allowed) refl

-- a head that is accepted
look_head : (limits : Limits) (before : List (List ℕ)) (more long is_command : Bool) (size : ℕ) (after : List ℕ)
    → AcceptsFlags limits before more is_command → size < size_bound long
    → look limits before (head_octets more long is_command size ++ after)
    ≡ body_in limits before more is_command size after
look_head limits before more long is_command size after allowed said =
    look_flags limits before more long is_command (size_octets long size ++ after)
    ∙ flags_accepted limits before more long is_command (size_octets long size ++ after) allowed
    ∙ size_read limits before more long is_command size after said

-- a frame that is accepted
look_frame : (limits : Limits) (before : List (List ℕ)) (more is_command : Bool) (frame : Frame) (after : List ℕ)
    → AcceptsFlags limits before more is_command → HasSize frame → length frame.body ≤ limits.frame
    → (is_command ≡ false → sum_by length before + length frame.body ≤ limits.message)
    → look limits before (frame_octets more is_command frame ++ after) ≡ whole_in more is_command frame.body after
look_frame limits before more is_command frame after allowed said fits whole =
    ap (look limits before) (append_assoc (head_octets more frame.long is_command (length frame.body)) frame.body after)
    ∙ look_head limits before more frame.long is_command (length frame.body) (frame.body ++ after) allowed said
    ∙ body_whole limits before more is_command frame.body after fits whole

or_true : {X : Type 0} (b : Bool) (x y : X) → cond (b || true) x y ≡ x
or_true true x y = refl
or_true false x y = refl

-- a command without a name
bad_command_in : (body after : List ℕ) → IsBadCommand body → command_in body after ≡ refused faults.Command
bad_command_in [] after bad = refl
bad_command_in (size ∷ named) after (inl none) = rw (eq-eqb size 0 none) refl
bad_command_in (size ∷ named) after (inr short) =
    rw (lt-ltb (length named) size short) (or_true (nat_eq size 0) (refused faults.Command)
    (command (take size named) (drop size named) after))

-- a command with one
command_in_body : (name rest after : List ℕ) → 0 < length name → command_in (command_body name rest) after
    ≡ command name rest after
command_in_body name rest after named =
    rw (
      ne_eqb (length name) 0 (λ none. omega arith),
      le-ltb (length (name ++ rest)) (length name)
          (omega (arith, length-append name rest)),
      take-append_seam name rest,
      drop-append_seam name rest,
    ) refl

-- flags that are not accepted
reserved_looks : (limits : Limits) (before : List (List ℕ)) (flags : ℕ) (after : List ℕ) → 8 ≤ flags
    → look limits before (flags ∷ after) ≡ refused faults.Flags
unfolding look
reserved_looks limits before flags after h = rw (le-leb 8 flags h) refl

with_more : (limits : Limits) (before : List (List ℕ)) (long : Bool) (after : List ℕ)
    → flags_in limits before true long true after ≡ refused faults.Flags
unfolding flags_in
with_more limits [] long after = refl
with_more limits (body ∷ before) long after = refl

inside : (limits : Limits) (before : List (List ℕ)) (more long : Bool) (after : List ℕ) → before ≢ []
    → flags_in limits before more long true after ≡ refused faults.Flags
unfolding flags_in
inside limits [] more long after some = absurd (some refl)
inside limits (body ∷ before) more long after some = refl

bad_looks : (limits : Limits) (before : List (List ℕ)) (flags : ℕ) (after : List ℕ) → IsBadFlags before flags
    → look limits before (flags ∷ after) ≡ refused faults.Flags
bad_looks limits before _ after (reserved flags h) = reserved_looks limits before flags after h
bad_looks limits before _ after (command_with_more long) = look_flags limits before true long true after
    ∙ with_more limits before long after
bad_looks limits before _ after (command_inside more long some) = look_flags limits before more long true after
    ∙ inside limits before more long after some

too_many : (limits : Limits) (before : List (List ℕ)) (more long : Bool) (after : List ℕ)
    → limits.frames ≤ length before → flags_in limits before more long false after ≡ refused faults.TooManyFrames
unfolding flags_in
too_many limits before more long after many = rw (le-leb limits.frames (length before) many) refl

cut_size : (limits : Limits) (before : List (List ℕ)) (more long is_command : Bool) (octets : List ℕ)
    → length octets < size_len long
    → size_in limits before more long is_command octets ≡ waits
cut_size limits before more false is_command octets cut = no_size_waits limits before more is_command octets cut
cut_size limits before more true is_command octets cut = size_waits limits before more is_command octets cut

-- what is refused is found refused
refused_looks : (limits : Limits) (before : List (List ℕ)) (octets : List ℕ) (fault : WireFault)
    → IsRefused limits before octets fault
    → look limits before octets ≡ refused fault
refused_looks limits before octets faults.Flags (flags, after, is, bad) = ap (look limits before) is
    ∙ bad_looks limits before flags after bad
refused_looks limits before octets faults.TooManyFrames (more, long, after, is, many) =
    ap (look limits before) is ∙ look_flags limits before more long false after
    ∙ too_many limits before more long after many
refused_looks limits before octets faults.FrameTooLong (more, long, is_command, size, after, is, said, allowed, too) =
    ap (look limits before) is ∙ look_head limits before more long is_command size after allowed said
    ∙ body_too_long limits before more is_command size after too
refused_looks limits before octets faults.MessageTooLong (more, long, size, after, is, said, allowed, fits, too) =
    ap (look limits before) is ∙ look_head limits before more long false size after allowed said
    ∙ body_long_message limits before more size after fits too
refused_looks limits before octets faults.Command (frame, after, is, said, none, fits, bad) =
    ap (look limits before) is ∙ look_frame limits before false true frame after (refl, none) said fits (λ e. absurd cc)
    ∙ bad_command_in frame.body after bad
refused_looks limits before octets faults.Signature h = absurd h
refused_looks limits before octets faults.Version h = absurd h
refused_looks limits before octets faults.Mechanism h = absurd h
refused_looks limits before octets faults.Pairing h = absurd h
refused_looks limits before octets faults.PeerError h = absurd h
refused_looks limits before octets faults.Spent h = absurd h
refused_looks limits before octets faults.OutOfMemory h = absurd h

-- what has come of a frame waits
stage_waits : (limits : Limits) (before : List (List ℕ)) (stage : Stage) → IsStage limits before stage
    → look limits before (stage_octets stage) ≡ waits
unfolding look
stage_waits limits before stages.Flags h = refl
stage_waits limits before (stages.Size flags octets) h =
    look_flags limits before flags.more flags.long flags.command octets
    ∙ flags_accepted limits before flags.more flags.long flags.command octets h.0
    ∙ cut_size limits before flags.more flags.long flags.command octets h.1
stage_waits limits before (stages.Body flags size body) h =
    look_head limits before flags.more flags.long flags.command size body.items h.0.allowed h.0.said
    ∙ body_waits limits before flags.more flags.command size body.items h.0.frame h.0.message h.1

-- ---- whole messages

-- a fact of each holds of the one between two lists
all_middle : {X : Type 0} (P : X → Type 0) (xs : List X) (y : X) (ys : List X) → AllByRecursion P (xs ++ y ∷ ys) → P y
all_middle P [] y ys h = h.0
all_middle P (x ∷ xs) y ys h = all_middle P xs y ys h.1

all_front : {X : Type 0} (P : X → Type 0) (xs ys : List X) → AllByRecursion P (xs ++ ys) → AllByRecursion P xs
all_front P [] ys h = tt
all_front P (x ∷ xs) ys h = (h.0, all_front P xs ys h.1)

-- the next body of a message within the limits
record Next (limits : Limits) (before : List (List ℕ)) (body : List ℕ) : Type 0 where
  count : length before < limits.frames
  fits : length body ≤ limits.frame
  whole : sum_by length before + length body ≤ limits.message

next_within : (limits : Limits) (before : List (List ℕ)) (body : List ℕ) (others : List (List ℕ))
    → IsWithin limits (before ++ body ∷ others) → Next limits before body
next_within limits before body others within = record {
  count = omega (arith, within.count, length-append before (body ∷ others));
  fits = all_middle _ before body others within.each;
  whole = omega (
    arith,
    within.whole,
    sum_by-append length before (body ∷ others),
    sum_by-append length (body ∷ []) others,
  );
}

-- going over the frames of a message that goes on
front_walks : (limits : Limits) (turns : ℕ) (before : List (List ℕ)) (front : List Frame) (after : List ℕ)
    → AllByRecursion HasSize front
    → IsWithin limits (before ++ bodies_of front) → walk (turns + length front) limits before
    (front_octets front ++ after) ≡ walk turns limits (before ++ bodies_of front) after
front_walks limits turns before [] after sizes within = rw (add-zero turns, append-nil before) refl
front_walks limits turns before (frame ∷ front) after sizes within =
    let next = next_within limits before frame.body (bodies_of front) within in
    let regrouped : before ++ frame.body ∷ bodies_of front ≡ (before ++ frame.body ∷ []) ++ bodies_of front =
    sym (append_assoc before (frame.body ∷ []) (bodies_of front)) in
    let looked = look_frame limits before true false frame (front_octets front ++ after) next.count sizes.0 next.fits
    (λ e. next.whole) in
    ap (λ n. walk n limits before (front_octets (frame ∷ front) ++ after)) (add-suc turns (length front))
    ∙ ap (walk_on (walk (turns + length front) limits) before)
    (ap (look limits before) (append_assoc (frame_octets true false frame) (front_octets front) after) ∙ looked)
    ∙ front_walks limits turns (before ++ frame.body ∷ []) front after sizes.1
    (subst (IsWithin limits) regrouped within)
    ∙ ap (λ b. walk turns limits b after) (sym regrouped)

front_comes : (limits : Limits) (front : List Frame) (after : List ℕ) (verdict : Verdict) → AllByRecursion HasSize front
    → IsWithin limits (bodies_of front)
    → ((turns : ℕ) → walk (suc turns) limits (bodies_of front) after ≡ verdict)
    → ComesTo limits (front_octets front ++ after) verdict
front_comes limits front after verdict sizes within rest = (
  length front,
  λ others. let count : suc (others + length front) ≡ suc others + length front = omega arith in
      ap (λ n. walk n limits [] (front_octets front ++ after)) count
      ∙ front_walks limits (suc others) [] front after sizes within ∙ rest others,
)

-- what spells traffic is found, whatever follows
pub spelled_comes : (limits : Limits) (octets : List ℕ) (whole : Traffic) (after : List ℕ) → Spells limits octets whole
    → ComesTo limits (octets ++ after) (found whole after)
spelled_comes limits octets (traffic.Command name rest) after spelled = (
  0,
  λ others. let frame : Frame = record { long = spelled.long; body = command_body name rest } in
      ap (walk_on (walk (others + 0) limits) []) (ap (λ o. look limits [] (o ++ after)) spelled.spelled
      ∙ look_frame limits [] false true frame after (refl, refl) spelled.size spelled.within (λ e. absurd cc)
      ∙ command_in_body name rest after spelled.named),
)
spelled_comes limits octets (traffic.Message bodies) after spelled =
    let bodies_are : bodies ≡ bodies_of spelled.front ++ spelled.last.body ∷ [] = spelled.bodies_are
    ∙ map-append (λ (f : Frame). f.body) spelled.front (spelled.last ∷ []) in
    let within = subst (IsWithin limits) bodies_are spelled.within in
    let next = next_within limits (bodies_of spelled.front) spelled.last.body [] within in
    let before : IsWithin limits (bodies_of spelled.front) = record {
      count = omega (arith, next.count);
      each = all_front _ (bodies_of spelled.front) (spelled.last.body ∷ []) within.each;
      whole = omega (arith, next.whole);
    } in
    let grouped : octets ++ after ≡ front_octets spelled.front ++ (frame_octets false false spelled.last ++ after) =
    ap (λ o. o ++ after) spelled.spelled ∙ append_assoc (front_octets spelled.front)
    (frame_octets false false spelled.last) after in
    let last_said : HasSize spelled.last = all_middle HasSize spelled.front spelled.last [] spelled.sizes in
    subst (λ o. ComesTo limits o (found (traffic.Message bodies) after)) (sym grouped)
    (front_comes limits spelled.front (frame_octets false false spelled.last ++ after)
    (found (traffic.Message bodies) after)
    (all_front HasSize spelled.front (spelled.last ∷ []) spelled.sizes) before
    (λ turns. ap (walk_on (walk turns limits) (bodies_of spelled.front))
    (look_frame limits (bodies_of spelled.front) false false spelled.last after next.count last_said next.fits
    (λ e. next.whole))
    ∙ ap (λ b. found (traffic.Message b) after) (sym bodies_are)))

-- what is refused is found refused
pub faulty_comes : (limits : Limits) (octets : List ℕ) (fault : WireFault) → IsFaulty limits octets fault
    → ComesTo limits octets (faulty fault)
faulty_comes limits octets fault h =
    subst (λ o. ComesTo limits o (faulty fault)) (sym h.spelled)
    (front_comes limits h.front h.rest (faulty fault) h.sizes h.within
    (λ turns. ap (walk_on (walk turns limits) (bodies_of h.front))
    (refused_looks limits (bodies_of h.front) h.rest fault h.refused)))

-- what is kept is found unfinished
pub pending_comes : (pending : Pending) → IsPending pending → ComesTo pending.limits (pending_octets pending) unfinished
pending_comes pending h =
    front_comes pending.limits pending.frames.items (stage_octets pending.stage) unfinished h.front.sizes h.front.within
    (λ turns. ap (walk_on (walk turns pending.limits) (bodies_before pending))
    (stage_waits pending.limits (bodies_before pending) pending.stage h.stage))
