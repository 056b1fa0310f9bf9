-- Frames are cut in one way, so they are opened or refused in one way.
use mathlib.Core.HLevel.{is_prop→PathP}
use Rattle.std.proofs.Props.{props}
use Rattle.std.proofs.Common.{◌≡◌, ℕ, List, [], ◌∷◌, ◌++◌, length, Some, None, refl, sym, ap, ◌∙◌, arith, inl, inr, ◌⊎◌}
use Rattle.std.specs.Prelude.{Contains}
use Rattle.std.proofs.lemmas.List.Elements.{Contains-append_right}
use Rattle.jmsg_envelope.specs.Envelope.{Parts, IsSplit, IsSigned, IsMissigned, IsTooShort, delimiter, parts_with}
use Rattle.jmsg_envelope.specs.Envelope.{signature, lower_case}
use Rattle.hex.specs.Hex.{encode_lower}
use Rattle.jmsg_envelope.specs.Hmac.{hmac}
use Rattle.jmsg_envelope.specs.Header.{header_names}
use Rattle.jmsg_envelope.specs.Laws.{RefusedIsNotOpened, RefusedOnce, OpenedOnce, SealedIsOpened}
use Rattle.jmsg_envelope.specs.declared.envelope.Envelope.{Envelope}
use Rattle.jmsg_envelope.specs.declared.fault.EnvelopeFault.TheVariants.{NoDelimiter, TooFewParts, BadSignature}
use Rattle.jmsg_envelope.specs.declared.fault.EnvelopeFault.TheVariants.{BadHeader, OutOfMemory}
use Rattle.jmsg_envelope.proofs.Delimiters.{Contains-head, Contains-tail}
use Rattle.jmsg_envelope.proofs.HexCase.{lower-encode_lower}

-- two lists around an element that stands in neither front are the same lists
same_cut : (d : List ℕ) (xs ys front back : List (List ℕ)) → ¬ Contains xs d → ¬ Contains ys d → xs ++ d ∷ front ≡ ys
    ++ d ∷ back
    → (xs ≡ ys) × (front ≡ back)
same_cut d [] [] front back free clear h = (refl, cc h)
same_cut d [] (y ∷ ys) front back free clear h =
    let head : d ≡ y = cc h in
    absurd (clear (rw head (Contains-head y ys)))
same_cut d (x ∷ xs) [] front back free clear h =
    let head : d ≡ x = cc h in
    absurd (free (rw head (Contains-head x xs)))
same_cut d (x ∷ xs) (y ∷ ys) front back free clear h =
    let head : x ≡ y = cc h in
    let rest : xs ++ d ∷ front ≡ ys ++ d ∷ back = cc h in
    let same = same_cut d xs ys front back (λ c. free (Contains-tail x d xs c)) (λ c. clear (Contains-tail y d ys c))
    rest in
    (cc (head, same.0), same.1)

-- parts are equal if their fields are
Parts-equal : (p q : Parts) → p.identities ≡ q.identities → p.signature ≡ q.signature → p.header ≡ q.header → p.parent
    ≡ q.parent
    → p.metadata ≡ q.metadata → p.content ≡ q.content → p.buffers ≡ q.buffers → p ≡ q
Parts-equal p q identities signature header parent metadata content buffers = λ i. record {
  identities = identities i;
  signature = signature i;
  header = header i;
  parent = parent i;
  metadata = metadata i;
  content = content i;
  buffers = buffers i;
}

-- envelopes are equal if their fields are
Envelope-equal : (e f : Envelope) → e.identities ≡ f.identities → e.header ≡ f.header → e.msg_id ≡ f.msg_id → e.msg_type
    ≡ f.msg_type
    → e.parent ≡ f.parent → e.metadata ≡ f.metadata → e.content ≡ f.content → e.buffers ≡ f.buffers → e ≡ f
Envelope-equal e f identities header msg_id msg_type parent metadata content buffers = λ i. record {
  identities = identities i;
  header = header i;
  msg_id = msg_id i;
  msg_type = msg_type i;
  parent = parent i;
  metadata = metadata i;
  content = content i;
  buffers = buffers i;
  named = is_prop→PathP (λ j. header_names (header j) ≡ Some (msg_id j, msg_type j)) (λ j. hlevel props)
      e.named f.named i;
}

-- frames are split into one message's parts
same_parts : (frames : List (List ℕ)) (p q : Parts) → IsSplit frames p → IsSplit frames q → p ≡ q
same_parts frames p q hp hq =
    let same = same_cut delimiter p.identities q.identities _ _ hp.first hq.first (sym hp.whole ∙ hq.whole) in
    let rest = same.1 in
    Parts-equal p q same.0 (cc rest) (cc rest) (cc rest) (cc rest) (cc rest) (cc rest)

-- frames that are split have a delimiter
has_delimiter : (frames : List (List ℕ)) (p : Parts) → IsSplit frames p → Contains frames delimiter
has_delimiter frames p h =
    let after = p.signature ∷ p.header ∷ p.parent ∷ p.metadata ∷ p.content ∷ p.buffers in
    rw h.whole (Contains-append_right p.identities (delimiter ∷ after) delimiter (Contains-head delimiter after))

-- frames that are too few have a delimiter
has_delimiter_too_short : (frames : List (List ℕ)) → IsTooShort frames → Contains frames delimiter
has_delimiter_too_short frames h =
    rw h.whole (Contains-append_right h.identities (delimiter ∷ h.after) delimiter (Contains-head delimiter h.after))

-- frames that are split are not too few
not_too_short : (frames : List (List ℕ)) (p : Parts) → IsSplit frames p → IsTooShort frames → ⊥
not_too_short frames p h short =
    let same = same_cut delimiter p.identities short.identities _ short.after h.first short.first
    (sym h.whole ∙ short.whole) in
    let few = short.few in
    omega (arith, ap length same.1)

-- a message is not signed both rightly and wrongly
not_missigned : (key : List ℕ) (p q : Parts) → p ≡ q → IsSigned key p → IsMissigned key q → ⊥
not_missigned key p q same (inl none) wrong = wrong.keyed none
not_missigned key p q same (inr right) wrong = wrong.differs (rw same at right)

-- a header does not name and name nothing
not_nameless : (p q : Parts) → p ≡ q → (names : List ℕ × List ℕ) → header_names p.header ≡ Some names
    → header_names q.header ≡ None → ⊥
not_nameless p q same names some none =
    let here = ap (λ (r : Parts). header_names r.header) same in
    cc (some, none, here)

pub refused_is_not_opened_law : RefusedIsNotOpened
refused_is_not_opened_law key frames e NoDelimiter h opened = h (has_delimiter frames _ opened.split)
refused_is_not_opened_law key frames e TooFewParts h opened = not_too_short frames _ opened.split h
refused_is_not_opened_law key frames e BadSignature h opened =
    not_missigned key _ _ (same_parts frames _ _ opened.split h.split) opened.signed h.missigned
refused_is_not_opened_law key frames e BadHeader h opened =
    not_nameless (parts_with opened.digits e) h.parts (same_parts frames _ _ opened.split h.split) _ opened.named
    h.nameless
refused_is_not_opened_law key frames e OutOfMemory h opened = h

pub refused_once_law : RefusedOnce
refused_once_law key frames NoDelimiter NoDelimiter h k = refl
refused_once_law key frames NoDelimiter TooFewParts h k = absurd (h (has_delimiter_too_short frames k))
refused_once_law key frames NoDelimiter BadSignature h k = absurd (h (has_delimiter frames k.parts k.split))
refused_once_law key frames NoDelimiter BadHeader h k = absurd (h (has_delimiter frames k.parts k.split))
refused_once_law key frames NoDelimiter OutOfMemory h k = absurd k
refused_once_law key frames TooFewParts NoDelimiter h k = absurd (k (has_delimiter_too_short frames h))
refused_once_law key frames TooFewParts TooFewParts h k = refl
refused_once_law key frames TooFewParts BadSignature h k = absurd (not_too_short frames k.parts k.split h)
refused_once_law key frames TooFewParts BadHeader h k = absurd (not_too_short frames k.parts k.split h)
refused_once_law key frames TooFewParts OutOfMemory h k = absurd k
refused_once_law key frames BadSignature NoDelimiter h k = absurd (k (has_delimiter frames h.parts h.split))
refused_once_law key frames BadSignature TooFewParts h k = absurd (not_too_short frames h.parts h.split k)
refused_once_law key frames BadSignature BadSignature h k = refl
refused_once_law key frames BadSignature BadHeader h k =
    absurd (not_missigned key k.parts h.parts (same_parts frames k.parts h.parts k.split h.split) k.signed h.missigned)
refused_once_law key frames BadSignature OutOfMemory h k = absurd k
refused_once_law key frames BadHeader NoDelimiter h k = absurd (k (has_delimiter frames h.parts h.split))
refused_once_law key frames BadHeader TooFewParts h k = absurd (not_too_short frames h.parts h.split k)
refused_once_law key frames BadHeader BadSignature h k =
    absurd (not_missigned key h.parts k.parts (same_parts frames h.parts k.parts h.split k.split) h.signed k.missigned)
refused_once_law key frames BadHeader BadHeader h k = refl
refused_once_law key frames BadHeader OutOfMemory h k = absurd k
refused_once_law key frames OutOfMemory other h k = absurd h

pub opened_once_law : OpenedOnce
opened_once_law key frames e other h k =
    let same = same_parts frames (parts_with h.digits e) (parts_with k.digits other) h.split k.split in
    let headers : e.header ≡ other.header = ap (λ (p : Parts). p.header) same in
    let names = sym h.named ∙ ap header_names headers ∙ k.named in
    let pair : (e.msg_id, e.msg_type) ≡ (other.msg_id, other.msg_type) = cc names in
    Envelope-equal e other
    (ap (λ (p : Parts). p.identities) same)
    headers
    (ap (λ (p : List ℕ × List ℕ). p.0) pair)
    (ap (λ (p : List ℕ × List ℕ). p.1) pair)
    (ap (λ (p : Parts). p.parent) same)
    (ap (λ (p : Parts). p.metadata) same)
    (ap (λ (p : Parts). p.content) same)
    (ap (λ (p : Parts). p.buffers) same)

-- the signature that is written is right
signature-signed : (key : List ℕ) (octets : List ℕ) → (key ≡ [])
    ⊎ (lower_case (signature key octets) ≡ encode_lower (hmac key octets))
signature-signed [] octets = inl refl
signature-signed (first ∷ rest) octets = inr (lower-encode_lower (hmac (first ∷ rest) octets))

pub sealed_is_opened_law : SealedIsOpened
sealed_is_opened_law key prefix parts id kind free named = record {
  digits = signature key (parts.header ++ parts.parent ++ parts.metadata ++ parts.content);
  split = record { whole = refl; first = free };
  signed = signature-signed key (parts.header ++ parts.parent ++ parts.metadata ++ parts.content);
  named = named;
}
