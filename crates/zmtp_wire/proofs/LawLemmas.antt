-- No octets are read in two ways.
use Rattle.std.proofs.Common.{◌≡◌, ◌≢◌, ◌⊎◌, inl, inr, ℕ, ◌^◌, ◌<◌, ◌≤◌, nat_lt, Bool, true, false, List, [], ◌∷◌}
use Rattle.std.proofs.Common.{◌++◌, length, refl, sym, ◌∙◌, ap, subst, arith, append_assoc}
use Rattle.std.proofs.lemmas.List.{append-nil}
use Rattle.std.proofs.lemmas.Bool.{ltb-false}
use Rattle.std.specs.List.{AllByRecursion, flat_map}
use Rattle.zmtp_wire.specs.declared.traffic.frame.Frame.{Frame}
use Rattle.zmtp_wire.specs.declared.traffic.limits.Limits.{Limits}
use Rattle.zmtp_wire.specs.declared.traffic.Traffic.{Traffic}
use Rattle.zmtp_wire.specs.declared.traffic.Traffic.TheVariants as traffic
use Rattle.zmtp_wire.specs.declared.fault.WireFault.{WireFault}
use Rattle.zmtp_wire.specs.declared.fault.WireFault.TheVariants as faults
use Rattle.zmtp_wire.specs.Frame.{text, head_octets, shortest, frame_octets, HasSize, size_bound, front_octets}
use Rattle.zmtp_wire.specs.Frame.{bodies_of}
use Rattle.zmtp_wire.specs.Grammar.{IsWithin, SpellsMessage, Spells, ReadsUpTo, HasNoTraffic, IsRefused}
use Rattle.zmtp_wire.specs.Grammar.{IsFaulty}
use Rattle.zmtp_wire.specs.Decoding.{FeedsInTurn, pieces_of, traffic_of}
use Rattle.zmtp_wire.proofs.Reading.{faulty, found, ComesTo, comes_once}
use Rattle.zmtp_wire.proofs.ReadingLemmas.{spelled_comes, faulty_comes}
use Rattle.zmtp_wire.proofs.FeedLemmas.{reads_append}

-- the first of what is read of octets that begin with spelled traffic is that traffic
pub first_read : (limits : Limits) (octets : List ℕ) (whole : Traffic) (after : List ℕ) (read : List Traffic)
    (rest : List ℕ) → Spells limits octets whole
    → ReadsUpTo limits (octets ++ after) read rest → HasNoTraffic limits rest → (others : List Traffic)
    × (read ≡ whole ∷ others) × ReadsUpTo limits after others rest
first_read limits octets whole after [] rest spelled (front, is, none) ends =
    absurd (ends whole octets after (sym (is ∙ ap (λ o. o ++ rest) none)) spelled)
first_read limits octets whole after (first ∷ others) rest spelled
    (front, is, (head, tail, split, first_spelled, reads)) ends =
    let regrouped : octets ++ after ≡ head ++ (tail ++ rest) = is ∙ ap (λ o. o ++ rest) split
    ∙ append_assoc head tail rest in
    let second : ComesTo limits (octets ++ after) (found first (tail ++ rest)) =
    subst (λ o. ComesTo limits o (found first (tail ++ rest))) (sym regrouped)
    (spelled_comes limits head first (tail ++ rest) first_spelled) in
    let same = comes_once limits (octets ++ after) (found whole after) (found first (tail ++ rest))
    (spelled_comes limits octets whole after spelled) second in
    let same_after : after ≡ tail ++ rest = cc in
    let same_first : first ≡ whole = cc in
    (others, ap (λ t. t ∷ others) same_first, (tail, same_after, reads))

-- two readings are one
pub one_reading : (limits : Limits) (octets : List ℕ) (one other : List Traffic) (rest others : List ℕ)
    → ReadsUpTo limits octets one rest → HasNoTraffic limits rest → ReadsUpTo limits octets other others
    → HasNoTraffic limits others → (one ≡ other) × (rest ≡ others)
one_reading limits octets [] [] rest others (front, is, none) ends (front', is', none') ends' =
    (refl, sym (is ∙ ap (λ o. o ++ rest) none) ∙ is' ∙ ap (λ o. o ++ others) none')
one_reading limits octets [] (first ∷ other) rest others (front, is, none) ends
    (front', is', (head, tail, split, spelled, reads)) ends' =
    absurd (ends first head (tail ++ others) (sym (is ∙ ap (λ o. o ++ rest) none) ∙ is' ∙ ap (λ o. o ++ others) split
    ∙ append_assoc head tail others) spelled)
one_reading limits octets (first ∷ one) other rest others (front, is, (head, tail, split, spelled, reads)) ends second
    ends' =
    let regrouped : octets ≡ head ++ (tail ++ rest) = is ∙ ap (λ o. o ++ rest) split ∙ append_assoc head tail rest in
    let peeled = first_read limits head first (tail ++ rest) other others spelled
    (subst (λ o. ReadsUpTo limits o other others) regrouped second) ends' in
    let later = one_reading limits (tail ++ rest) one peeled.0 rest others (tail, refl, reads) ends peeled.2 ends' in
    (ap (λ ts. first ∷ ts) later.0 ∙ sym peeled.1, later.1)

-- what feeds in turn read
pub any_cutting : (limits : Limits) (kept last : List ℕ) (feeds : List (List ℕ × List Traffic))
    → FeedsInTurn limits kept feeds last
    → ReadsUpTo limits (kept ++ flat_map (λ feed. feed.0) feeds) (flat_map (λ feed. feed.1) feeds) last
any_cutting limits kept last [] is = ([], append-nil kept ∙ is, refl)
any_cutting limits kept last (feed ∷ feeds) (next, (read, is, reads), fed) =
    let later = any_cutting limits next last feeds fed in (
      read ++ later.0,
      sym (append_assoc kept feed.0 (flat_map (λ feed. feed.0) feeds))
          ∙ ap (λ o. o ++ flat_map (λ feed. feed.0) feeds) is
          ∙ append_assoc read next (flat_map (λ feed. feed.0) feeds) ∙ ap (λ o. read ++ o) later.1
          ∙ sym (append_assoc read later.0 last),
      reads_append limits read feed.1 later.0 (flat_map (λ feed. feed.1) feeds) reads later.2,
    )

-- two cuttings of one stream
pub same_cutting : (limits : Limits) (last others : List ℕ) (feeds other : List (List ℕ × List Traffic))
    → pieces_of feeds ≡ pieces_of other
    → FeedsInTurn limits [] feeds last → HasNoTraffic limits last → FeedsInTurn limits [] other others
    → HasNoTraffic limits others
    → (traffic_of feeds ≡ traffic_of other) × (last ≡ others)
same_cutting limits last others feeds other same first ends second ends' =
    one_reading limits (pieces_of feeds) (traffic_of feeds) (traffic_of other) last others
    (any_cutting limits [] last feeds first) ends
    (subst (λ o. ReadsUpTo limits o (traffic_of other) others) (sym same) (any_cutting limits [] others other second))
    ends'

-- one fault
pub fault_once : (limits : Limits) (octets : List ℕ) (one other : WireFault) → IsFaulty limits octets one
    → IsFaulty limits octets other → one ≡ other
fault_once limits octets one other first second =
    let same = comes_once limits octets (faulty one) (faulty other) (faulty_comes limits octets one first)
    (faulty_comes limits octets other second) in cc

pub fault_no_traffic : (limits : Limits) (octets : List ℕ) (fault : WireFault) → IsFaulty limits octets fault
    → HasNoTraffic limits octets
fault_no_traffic limits octets fault refused whole front rest is spelled =
    let found_it : ComesTo limits octets (found whole rest) =
    subst (λ o. ComesTo limits o (found whole rest)) (sym is) (spelled_comes limits front whole rest spelled) in
    let same = comes_once limits octets (faulty fault) (found whole rest) (faulty_comes limits octets fault refused)
    found_it in cc

-- a body that fits in eight octets fits its shortest size
shortest_fits : (body : List ℕ) (long : Bool) → nat_lt 255 (length body) ≡ long → length body < 2 ^ 64
    → length body < size_bound long
shortest_fits body true is fits = fits
shortest_fits body false is fits = omega (arith, ltb-false 255 (length body) is)

-- a text is a spelling
record Text (bodies : List (List ℕ)) : Type 0 where
  front : List Frame
  last : Frame
  sizes : AllByRecursion HasSize (front ++ last ∷ [])
  bodies_are : bodies ≡ bodies_of (front ++ last ∷ [])
  spelled : text bodies ≡ front_octets front ++ frame_octets false false last

spelled_text : (body : List ℕ) (bodies : List (List ℕ)) (limit : ℕ) → limit < 2 ^ 64
    → AllByRecursion (λ b. length b ≤ limit) (body ∷ bodies) → Text (body ∷ bodies)
spelled_text body [] limit small fit = record {
  front = [];
  last = shortest body;
  sizes = (shortest_fits body (nat_lt 255 (length body)) refl (let h = fit.0 in omega arith), tt);
  bodies_are = refl;
  spelled = refl;
}
spelled_text body (next ∷ bodies) limit small fit =
    let later = spelled_text next bodies limit small fit.1 in
    record {
      front = shortest body ∷ later.front;
      last = later.last;
      sizes = (shortest_fits body (nat_lt 255 (length body)) refl (let h = fit.0 in omega arith), later.sizes);
      bodies_are = ap (λ bs. body ∷ bs) later.bodies_are;
      spelled = ap (λ o. frame_octets true false (shortest body) ++ o) later.spelled
          ∙ sym (append_assoc (frame_octets true false (shortest body)) (front_octets later.front)
          (frame_octets false false later.last));
    }

pub text_is_read_first : (limits : Limits) (bodies : List (List ℕ)) (after : List ℕ) (read : List Traffic)
    (rest : List ℕ)
    → bodies ≢ [] → IsWithin limits bodies → limits.frame < 2 ^ 64 → ReadsUpTo limits (text bodies ++ after) read rest
    → HasNoTraffic limits rest
    → (others : List Traffic) × (read ≡ traffic.Message bodies ∷ others) × ReadsUpTo limits after others rest
text_is_read_first limits [] after read rest some within small reads ends = absurd (some refl)
text_is_read_first limits (body ∷ bodies) after read rest some within small reads ends =
    let spelled = spelled_text body bodies limits.frame small within.each in
    let spells : SpellsMessage limits (text (body ∷ bodies)) (body ∷ bodies) = record {
      front = spelled.front;
      last = spelled.last;
      sizes = spelled.sizes;
      bodies_are = spelled.bodies_are;
      within = within;
      spelled = spelled.spelled;
    } in
    first_read limits (text (body ∷ bodies)) (traffic.Message (body ∷ bodies)) after read rest spells reads ends

-- what stands in front is one traffic
pub one_front : (limits : Limits) (octets front others : List ℕ) (one other : Traffic) (rest after : List ℕ)
    → octets ≡ front ++ rest → Spells limits front one → octets ≡ others ++ after → Spells limits others other
    → (one ≡ other) × (rest ≡ after)
one_front limits octets front others one other rest after is spelled is' spelled' =
    let first : ComesTo limits octets (found one rest) =
    subst (λ o. ComesTo limits o (found one rest)) (sym is) (spelled_comes limits front one rest spelled) in
    let second : ComesTo limits octets (found other after) =
    subst (λ o. ComesTo limits o (found other after)) (sym is') (spelled_comes limits others other after spelled')
    in
    let same = comes_once limits octets (found one rest) (found other after) first second in
    (let e : one ≡ other = cc in e, let e : rest ≡ after = cc in e)

-- the same behind one more
goes_on_behind : (limits : Limits) (first second : Traffic) (one other : List Traffic) (rest others : List ℕ) → first
    ≡ second
    → ((more : List Traffic) × (other ≡ one ++ more) × ReadsUpTo limits rest more others)
    ⊎ ((more : List Traffic) × (one ≡ other ++ more) × ReadsUpTo limits others more rest)
    → ((more : List Traffic) × (second ∷ other ≡ (first ∷ one) ++ more) × ReadsUpTo limits rest more others)
    ⊎ ((more : List Traffic) × (first ∷ one ≡ (second ∷ other) ++ more) × ReadsUpTo limits others more rest)
goes_on_behind limits first second one other rest others same (inl (more, is, reads)) =
    inl (more, ap (λ t. second ∷ t) is ∙ ap (λ t. t ∷ (one ++ more)) (sym same), reads)
goes_on_behind limits first second one other rest others same (inr (more, is, reads)) =
    inr (more, ap (λ t. first ∷ t) is ∙ ap (λ t. t ∷ (other ++ more)) same, reads)

-- of two readings of the same octets one goes on where the other ends
pub one_goes_on : (limits : Limits) (octets : List ℕ) (one other : List Traffic) (rest others : List ℕ)
    → ReadsUpTo limits octets one rest → ReadsUpTo limits octets other others
    → ((more : List Traffic) × (other ≡ one ++ more) × ReadsUpTo limits rest more others)
    ⊎ ((more : List Traffic) × (one ≡ other ++ more) × ReadsUpTo limits others more rest)
one_goes_on limits octets [] other rest others (front, is, none) second =
    inl (other, refl, subst (λ o. ReadsUpTo limits o other others) (is ∙ ap (λ o. o ++ rest) none) second)
one_goes_on limits octets (first ∷ one) [] rest others reads (front, is, none) =
    inr (first ∷ one, refl, subst (λ o. ReadsUpTo limits o (first ∷ one) rest) (is ∙ ap (λ o. o ++ others) none) reads)
one_goes_on limits octets (first ∷ one) (second ∷ other) rest others (front, is, (head, tail, split, spelled, reads))
    (front', is', (head', tail', split', spelled', reads')) =
    let regrouped : octets ≡ head ++ (tail ++ rest) = is ∙ ap (λ o. o ++ rest) split ∙ append_assoc head tail rest in
    let regrouped' : octets ≡ head' ++ (tail' ++ others) = is' ∙ ap (λ o. o ++ others) split'
    ∙ append_assoc head' tail' others in
    let same = one_front limits octets head head' first second (tail ++ rest) (tail' ++ others) regrouped spelled
    regrouped' spelled' in
    goes_on_behind limits first second one other rest others same.0
    (one_goes_on limits (tail ++ rest) one other rest others (tail, refl, reads) (tail', same.1, reads'))

-- what is refused is refused however it goes on
refused_stays : (limits : Limits) (before : List (List ℕ)) (octets after : List ℕ) (fault : WireFault)
    → IsRefused limits before octets fault → IsRefused limits before (octets ++ after) fault
refused_stays limits before octets after faults.Flags (flags, rest, is, bad) =
    (flags, rest ++ after, ap (λ o. o ++ after) is, bad)
refused_stays limits before octets after faults.TooManyFrames (more, long, rest, is, many) =
    (more, long, rest ++ after, ap (λ o. o ++ after) is, many)
refused_stays limits before octets after faults.FrameTooLong (more, long, command, size, rest, is, said, allowed, over)
    = (
      more,
      long,
      command,
      size,
      rest ++ after,
      ap (λ o. o ++ after) is
          ∙ append_assoc (head_octets more long command size) rest after,
      said,
      allowed,
      over,
    )
refused_stays limits before octets after faults.MessageTooLong (more, long, size, rest, is, said, flags, fits, over) = (
  more,
  long,
  size,
  rest ++ after,
  ap (λ o. o ++ after) is
      ∙ append_assoc (head_octets more long false size) rest after,
  said,
  flags,
  fits,
  over,
)
refused_stays limits before octets after faults.Command (frame, rest, is, said, none, fits, bad) = (
  frame,
  rest ++ after,
  ap (λ o. o ++ after) is ∙ append_assoc (frame_octets false true frame) rest after,
  said,
  none,
  fits,
  bad,
)
refused_stays limits before octets after faults.Signature never = never
refused_stays limits before octets after faults.Version never = never
refused_stays limits before octets after faults.Mechanism never = never
refused_stays limits before octets after faults.Pairing never = never
refused_stays limits before octets after faults.PeerError never = never
refused_stays limits before octets after faults.Spent never = never
refused_stays limits before octets after faults.OutOfMemory never = never

pub fault_stays : (limits : Limits) (octets after : List ℕ) (fault : WireFault) → IsFaulty limits octets fault
    → IsFaulty limits (octets ++ after) fault
fault_stays limits octets after fault h = record {
  front = h.front;
  rest = h.rest ++ after;
  sizes = h.sizes;
  within = h.within;
  spelled = ap (λ o. o ++ after) h.spelled ∙ append_assoc (front_octets h.front) h.rest after;
  refused = refused_stays limits (bodies_of h.front) h.rest after fault h.refused;
}
