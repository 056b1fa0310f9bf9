-- What one step of reading does to the octets that are kept.
use Rattle.std.proofs.Common.{◌≡◌, ◌≢◌, ◌⊎◌, inl, inr, ℕ, ◌+◌, ◌<◌, ◌≤◌, Bool, true, false, List, [], ◌∷◌, ◌++◌}
use Rattle.std.proofs.Common.{length, take, drop, sum_by, Some, None, Result, Ok, Err, IfOk, IfErr, ◌-◌, refl, sym}
use Rattle.std.proofs.Common.{◌∙◌, ap, subst, arith, append_assoc, length-append, get_or}
use Rattle.std.proofs.Math.Seq.{take-add}
use Rattle.std.proofs.lemmas.List.{append-nil, map-append, take-append-drop}
use Rattle.std.proofs.lemmas.List.Sums.{sum_by-append}
use Rattle.std.proofs.lemmas.Grind.{flat_map-append}
use Rattle.std.specs.List.{AllByRecursion}
use Rattle.zmtp_wire.specs.declared.traffic.frame.Frame.{Frame}
use Rattle.zmtp_wire.specs.declared.traffic.limits.Limits.{Limits}
use Rattle.zmtp_wire.specs.declared.traffic.pending.Pending.{Pending}
use Rattle.zmtp_wire.specs.declared.traffic.pending.Step.{Step}
use Rattle.zmtp_wire.specs.declared.traffic.pending.Stage.TheVariants as stages
use Rattle.zmtp_wire.specs.declared.traffic.Traffic.{Traffic}
use Rattle.zmtp_wire.specs.declared.traffic.Traffic.TheVariants as traffic
use Rattle.zmtp_wire.specs.declared.fault.WireFault.{WireFault}
use Rattle.zmtp_wire.specs.declared.fault.WireFault.TheVariants as faults
use Rattle.zmtp_wire.specs.Frame.{flags_octet, head_octets, size_octets, size_bound, HasSize, front_octets, bodies_of}
use Rattle.zmtp_wire.specs.Frame.{frame_octets}
use Rattle.zmtp_wire.specs.Grammar.{IsBadFlags, command_with_more, command_inside, IsWithin, SpellsMessage, Spells}
use Rattle.zmtp_wire.specs.Grammar.{AcceptsFlags, IsRefused, IsFaulty, IsBadCommand}
use Rattle.zmtp_wire.specs.Pending.{size_len, pending_octets, bodies_before, AcceptsSize, IsFront, IsPending, Keeps}
use Rattle.zmtp_wire.specs.Pending.{Refuses, IsCommandOf}

-- what holds of two lists holds of both together
pub all_append : {X : Type 0} (P : X → Type 0) (xs ys : List X) → AllByRecursion P xs → AllByRecursion P ys
    → AllByRecursion P (xs ++ ys)
all_append P [] ys p q = q
all_append P (x ∷ xs) ys p q = (p.0, all_append P xs ys p.1 q)

-- what is refused behind the whole frames is refused, whatever follows
pub refuse : (pending : Pending) (octets whole rest : List ℕ) (fault : WireFault) → IsFront pending
    → whole ≡ front_octets pending.frames.items ++ (octets ++ rest)
    → ((after : List ℕ) → IsRefused pending.limits (bodies_before pending) (octets ++ after) fault)
    → Refuses pending.limits whole fault
refuse pending octets whole rest fault front is refused =
    inr (λ after. record {
      front = pending.frames.items;
      rest = octets ++ (rest ++ after);
      sizes = front.sizes;
      within = front.within;
      spelled = ap (λ o. o ++ after) is ∙ append_assoc (front_octets pending.frames.items) (octets ++ rest) after
          ∙ ap (λ o. front_octets pending.frames.items ++ o) (append_assoc octets rest after);
      refused = refused (rest ++ after);
    })

-- what is refused stays so when more comes
pub refuse_more : (limits : Limits) (octets whole rest : List ℕ) (fault : WireFault) → whole ≡ octets ++ rest
    → Refuses limits octets fault → Refuses limits whole fault
refuse_more limits octets whole rest fault is (inl memory) = inl memory
refuse_more limits octets whole rest fault is (inr faulty) =
    inr (λ after. let P : List ℕ → Type 0 = λ o. IsFaulty limits o fault in
    subst P (sym (ap (λ o. o ++ after) is ∙ append_assoc octets rest after)) (faulty (rest ++ after)))

-- one more body is within the limits
pub within_more : (limits : Limits) (bodies : List (List ℕ)) (body : List ℕ) → IsWithin limits bodies
    → length bodies < limits.frames
    → length body ≤ limits.frame → sum_by length bodies + length body ≤ limits.message
    → IsWithin limits (bodies ++ body ∷ [])
within_more limits bodies body within count size whole = record {
  count = omega (arith, length-append bodies (body ∷ []));
  each = all_append _ bodies (body ∷ []) within.each (size, tt);
  whole = omega (arith, sum_by-append length bodies (body ∷ []));
}

-- frames without bodies are none
pub bodies_nil : (frames : List Frame) → bodies_of frames ≡ [] → frames ≡ []
bodies_nil [] is = refl
bodies_nil (frame ∷ frames) is = cc

-- nothing has come of the next traffic
pub nothing_pending : (pending : Pending) → pending.frames.items ≡ [] → pending.left ≡ pending.limits.message
    → pending.stage ≡ stages.Flags
    → IsPending pending × (pending_octets pending ≡ [])
nothing_pending pending none left stage = (
  record {
    front = record {
      sizes = rw none tt;
      left = rw (none, left) (omega arith);
      within = record { count = rw none (omega arith); each = rw none tt; whole = rw none (omega arith) };
    };
    stage = rw stage tt;
  },
  rw (none, stage) refl,
)

-- a command that is whole
pub command_kept : (pending new : Pending) (more long command : Bool) (body : List ℕ) (whole : Traffic)
    → IsFront pending
    → AcceptsSize pending.limits (bodies_before pending) (record { more = more; long = long; command = command })
    (length body)
    → command ≡ true → IsCommandOf body whole
    → new ≡ record pending { stage = stages.Flags }
    → Keeps pending.limits (front_octets pending.frames.items ++ (head_octets more long command (length body) ++ body))
    new (Some whole)
command_kept pending new more long false body whole front accepted is_command spelled is = absurd cc
command_kept pending new true long true body whole front accepted is_command spelled is =
    absurd (let e = accepted.allowed.0 in cc)
command_kept pending new false long true body (traffic.Message bodies) front accepted is_command spelled is =
    absurd spelled
command_kept pending new false long true body (traffic.Command name rest) front accepted is_command spelled is =
    let none = bodies_nil pending.frames.items accepted.allowed.1 in
    let none_new : new.frames.items ≡ [] = ap (λ (p : Pending). p.frames.items) is ∙ none in
    let left_old : pending.left ≡ pending.limits.message = let e = rw none at front.left in omega arith in
    let left_new : new.left ≡ new.limits.message = ap (λ (p : Pending). p.left) is ∙ left_old
    ∙ sym (ap (λ (p : Pending). p.limits.message) is) in
    let kept = nothing_pending new none_new left_new (ap (λ (p : Pending). p.stage) is) in
    record {
      same = ap (λ (p : Pending). p.limits) is;
      pending = kept.0;
      kept = (
        record {
          long = long;
          named = spelled.0;
          short = spelled.1;
          size = subst (λ (b : List ℕ). length b < size_bound long) spelled.2 accepted.said;
          within = subst (λ (b : List ℕ). length b ≤ pending.limits.frame) spelled.2 accepted.frame;
          spelled = rw none (subst (λ (b : List ℕ). head_octets false long true (length body) ++ body
              ≡ head_octets false long true (length b) ++ b) spelled.2 refl);
        },
        kept.1,
      );
    }

-- a message that is whole
pub message_kept : (pending new : Pending) (more long command : Bool) (body : List ℕ) (whole : Traffic)
    → IsFront pending
    → AcceptsSize pending.limits (bodies_before pending) (record { more = more; long = long; command = command })
    (length body)
    → command ≡ false → more ≡ false
    → whole ≡ traffic.Message (bodies_before pending ++ body ∷ [])
    → new.frames.items ≡ [] → new ≡ record pending {
      frames = new.frames;
      left = pending.limits.message;
      stage = stages.Flags;
    }
    → Keeps pending.limits (front_octets pending.frames.items ++ (head_octets more long command (length body) ++ body))
    new (Some whole)
message_kept pending new more long true body whole front accepted message last is none same = absurd cc
message_kept pending new true long false body whole front accepted message last is none same = absurd cc
message_kept pending new false long false body whole front accepted message last is none same =
    let frame : Frame = record { long = long; body = body } in
    let limits_new : new.limits ≡ pending.limits = ap (λ (p : Pending). p.limits) same in
    let left_new : new.left ≡ new.limits.message = ap (λ (p : Pending). p.left) same
    ∙ sym (ap (λ (l : Limits). l.message) limits_new) in
    let kept = nothing_pending new none left_new (ap (λ (p : Pending). p.stage) same) in
    let bodies_are : bodies_before pending ++ body ∷ [] ≡ bodies_of (pending.frames.items ++ frame ∷ []) =
    sym (map-append (λ (f : Frame). f.body) pending.frames.items (frame ∷ [])) in
    let spelled : SpellsMessage pending.limits (front_octets pending.frames.items
    ++ (head_octets false long false (length body) ++ body)) (bodies_before pending ++ body ∷ []) = record {
      front = pending.frames.items;
      last = frame;
      sizes = all_append HasSize pending.frames.items (frame ∷ []) front.sizes (accepted.said, tt);
      bodies_are = bodies_are;
      within = within_more pending.limits (bodies_before pending) body front.within accepted.allowed accepted.frame
          (accepted.message refl);
      spelled = refl;
    } in
    record {
      same = limits_new;
      pending = kept.0;
      kept = (
        subst (λ (t : Traffic). Spells pending.limits
            (front_octets pending.frames.items ++ (head_octets false long false (length body) ++ body)) t) (sym is)
            spelled,
        kept.1,
      );
    }

-- one more whole frame with MORE
pub frame_kept : (pending new : Pending) (more long command : Bool) (body : List ℕ) → IsFront pending
    → command ≡ false → more ≡ true → IsFront new
    → new.frames.items ≡ pending.frames.items ++ record { long = long; body = body } ∷ []
    → new ≡ record pending { frames = new.frames; left = new.left; stage = stages.Flags }
    → Keeps pending.limits (front_octets pending.frames.items ++ (head_octets more long command (length body) ++ body))
    new None
frame_kept pending new more long true body front message goes_on front_new frames same = absurd cc
frame_kept pending new false long false body front message goes_on front_new frames same = absurd cc
frame_kept pending new true long false body front message goes_on front_new frames same =
    let stage_new : new.stage ≡ stages.Flags = ap (λ (p : Pending). p.stage) same in
    let frame : Frame = record { long = long; body = body } in
    record {
      same = ap (λ (p : Pending). p.limits) same;
      pending = record { front = front_new; stage = rw stage_new tt };
      kept = rw (stage_new, frames) (append-nil (front_octets (pending.frames.items ++ frame ∷ []))
          ∙ flat_map-append (frame_octets true false) pending.frames.items (frame ∷ [])
          ∙ ap (λ o. front_octets pending.frames.items ++ o) (append-nil (frame_octets true false frame)));
    }

-- COMMAND with MORE, or inside a message
pub bad_command : (frames : List Frame) (octet : ℕ) (more long command : Bool) → octet ≡ flags_octet more long command
    → command ≡ true
    → (more ≡ true) ⊎ (frames ≢ []) → IsBadFlags (bodies_of frames) octet
bad_command frames octet more long false is is_command why = absurd cc
bad_command frames octet more long true is is_command (inl goes_on) =
    subst (IsBadFlags (bodies_of frames)) (ap (λ m. flags_octet m long true) (sym goes_on) ∙ sym is)
    (command_with_more long)
bad_command frames octet more long true is is_command (inr inside) =
    subst (IsBadFlags (bodies_of frames)) (sym is) (command_inside more long (λ none. inside (bodies_nil frames none)))

-- a message that its next frame makes too long
pub too_long : (limits : Limits) (before : List (List ℕ)) (more long command : Bool) (size : ℕ) → command ≡ false
    → size < size_bound long
    → AcceptsFlags limits before more command → size ≤ limits.frame → limits.message < sum_by length before + size
    → (after : List ℕ) → IsRefused limits before (head_octets more long command size ++ after) faults.MessageTooLong
too_long limits before more long true size is_message said allowed fits long_message after = absurd cc
too_long limits before more long false size is_message said allowed fits long_message after =
    (more, long, size, after, refl, said, allowed, fits, long_message)

-- a command that has no name
pub command_refused : (pending : Pending) (more long command : Bool) (body : List ℕ) (fault : WireFault)
    → IsFront pending
    → AcceptsSize pending.limits (bodies_before pending) (record { more = more; long = long; command = command })
    (length body)
    → command ≡ true → (fault ≡ faults.OutOfMemory) ⊎ ((fault ≡ faults.Command) × IsBadCommand body)
    → Refuses pending.limits (front_octets pending.frames.items
    ++ (head_octets more long command (length body) ++ body)) fault
command_refused pending more long command body fault front accepted is_command (inl memory) = inl memory
command_refused pending more long false body fault front accepted is_command (inr bad) = absurd cc
command_refused pending true long true body fault front accepted is_command (inr bad) =
    absurd (let e = accepted.allowed.0 in cc)
command_refused pending false long true body fault front accepted is_command (inr bad) =
    let frame : Frame = record { long = long; body = body } in
    refuse pending (head_octets false long true (length body) ++ body) _ [] fault front
    (ap (λ o. front_octets pending.frames.items ++ o) (sym
    (append-nil (head_octets false long true (length body) ++ body))))
    (λ after. subst (IsRefused pending.limits (bodies_before pending)
    ((head_octets false long true (length body) ++ body) ++ after)) (sym bad.0)
    (frame, after, refl, accepted.said, accepted.allowed.1, accepted.frame, bad.1))

-- the octets of a body as far as it has come, and those that make it whole
pub gathered_all : (front : List ℕ) (head : ℕ → List ℕ) (size : ℕ) (body whole octets : List ℕ) (taken : ℕ) → whole
    ≡ body ++ take taken octets
    → length whole ≡ size → front ++ (head size ++ body) ++ octets ≡ (front ++ (head (length whole) ++ whole))
    ++ drop taken octets
gathered_all front head size body whole octets taken is full =
    ap (λ n. front ++ (head n ++ body) ++ octets) (sym full)
    ∙ ap (λ o. front ++ (head (length whole) ++ body) ++ o) (sym (take-append-drop taken octets))
    ∙ (simp append_assoc)
    ∙ ap (λ o. front ++ (head (length whole) ++ o)) (sym (append_assoc body (take taken octets) (drop taken octets))
    ∙ ap (λ o. o ++ drop taken octets) (sym is))
    ∙ (simp append_assoc)

pub gathered : (front : List ℕ) (head : ℕ → List ℕ) (size : ℕ) (body whole octets : List ℕ) (taken : ℕ) → whole ≡ body
    ++ take taken octets
    → length whole ≡ size → front ++ (head (length whole) ++ whole) ≡ front ++ (head size ++ body) ++ take taken octets
gathered front head size body whole octets taken is full =
    ap (λ n. front ++ (head n ++ whole)) full ∙ ap (λ o. front ++ (head size ++ o)) is ∙ (simp append_assoc)

-- a head whose size has eight octets
pub measured_head : (more long command : Bool) (size : ℕ) (octets : List ℕ) → long ≡ true → size_octets true size
    ≡ octets
    → head_octets more long command size ≡ flags_octet more long command ∷ octets
measured_head more false command size octets is_long is = absurd cc
measured_head more true command size octets is_long is = ap (λ o. flags_octet more true command ∷ o) is

-- the octets of a size as far as it has come, and those that make it whole
pub measured_ok : (result : Result Step WireFault) (limits : Limits) (new : Pending) (front short head octets : List ℕ)
    (taken : ℕ)
    → head ≡ short ++ take taken octets
    → IfOk result (λ step. (taken ≤ step.taken) × (step.taken ≤ length octets))
    → IfOk result (λ step. Keeps limits (front ++ head ++ take (step.taken - taken) (drop taken octets)) new
    step.traffic)
    → IfOk result (λ step. Keeps limits (front ++ short ++ take step.taken octets) new step.traffic)
measured_ok (Err fault) limits new front short head octets taken is within kept = tt
measured_ok (Ok step) limits new front short head octets taken is within kept =
    let split : take step.taken octets ≡ take taken octets ++ take (step.taken - taken) (drop taken octets) =
    let sum : taken + (step.taken - taken) ≡ step.taken = omega (arith, within.0) in
    ap (λ n. take n octets) (sym sum) ∙ take-add taken (step.taken - taken) octets in
    let whole : front ++ head ++ take (step.taken - taken) (drop taken octets) ≡ front ++ short
    ++ take step.taken octets = rw (is, split) (simp append_assoc) in
    subst (λ o. Keeps limits o new step.traffic) whole kept

pub measured_err : (result : Result Step WireFault) (limits : Limits) (front short head octets : List ℕ) (taken : ℕ)
    → head ≡ short ++ take taken octets
    → IfErr result (Refuses limits (front ++ head ++ drop taken octets))
    → IfErr result (Refuses limits (front ++ short ++ octets))
measured_err (Ok step) limits front short head octets taken is refused = tt
measured_err (Err fault) limits front short head octets taken is refused =
    let whole : front ++ head ++ drop taken octets ≡ front ++ short ++ octets =
    (rw is (simp append_assoc)) ∙ ap (λ o. front ++ (short ++ o)) (take-append-drop taken octets)
    ∙ (simp append_assoc) in
    subst (λ o. Refuses limits o fault) whole refused

-- a head whose flags octet and size are both there
pub begun_head : (more long command : Bool) (size at : ℕ) (octets : List ℕ) → 0 < length octets → get_or octets 0 0
    ≡ flags_octet more long command
    → size_octets long size ≡ take (size_len long) (drop 1 octets) → at ≡ 1 + size_len long
    → head_octets more long command size ≡ take at octets
begun_head more long command size at [] some is value ends = absurd (omega arith)
begun_head more false command size at (first ∷ rest) some is value ends =
    rw ends (ap (λ o. o ∷ size_octets false size) (sym is) ∙ ap (λ o. first ∷ o) value)
begun_head more true command size at (first ∷ rest) some is value ends =
    rw ends (ap (λ o. o ∷ size_octets true size) (sym is) ∙ ap (λ o. first ∷ o) value)

-- the octets of a head, and those behind it
pub begun_ok : (result : Result Step WireFault) (limits : Limits) (new : Pending) (front head octets : List ℕ) (at : ℕ)
    → head ≡ take at octets
    → IfOk result (λ step. (at ≤ step.taken) × (step.taken ≤ length octets))
    → IfOk result (λ step. Keeps limits (front ++ head ++ take (step.taken - at) (drop at octets)) new step.traffic)
    → IfOk result (λ step. Keeps limits (front ++ take step.taken octets) new step.traffic)
begun_ok result limits new front head octets at is within kept =
    subst (λ (f : List ℕ). IfOk result (λ step. Keeps limits (f ++ take step.taken octets) new step.traffic))
    (append-nil front)
    (measured_ok result limits new front [] head octets at is within kept)

pub begun_err : (result : Result Step WireFault) (limits : Limits) (front head octets : List ℕ) (at : ℕ) → head
    ≡ take at octets
    → IfErr result (Refuses limits (front ++ head ++ drop at octets))
    → IfErr result (Refuses limits (front ++ octets))
begun_err result limits front head octets at is refused =
    subst (λ (f : List ℕ). IfErr result (Refuses limits (f ++ octets))) (append-nil front)
    (measured_err result limits front [] head octets at is refused)

-- a body that stands whole behind its head, and what follows it
pub opened : (front : List ℕ) (head : ℕ → List ℕ) (size : ℕ) (whole behind : List ℕ) → whole ≡ take size behind
    → length whole ≡ size → front ++ (head (length whole) ++ whole) ≡ front ++ head size ++ take size behind
opened front head size whole behind is full =
    ap (λ n. front ++ (head n ++ whole)) full ∙ ap (λ o. front ++ (head size ++ o)) is ∙ (simp append_assoc)

pub opened_all : (front : List ℕ) (head : ℕ → List ℕ) (size : ℕ) (whole behind : List ℕ) → whole ≡ take size behind
    → length whole ≡ size → front ++ head size ++ behind ≡ (front ++ (head (length whole) ++ whole)) ++ drop size behind
opened_all front head size whole behind is full =
    ap (λ n. front ++ head n ++ behind) (sym full)
    ∙ ap (λ o. front ++ head (length whole) ++ o) (sym (take-append-drop size behind)
    ∙ ap (λ o. o ++ drop size behind) (sym is))
    ∙ (simp append_assoc)
