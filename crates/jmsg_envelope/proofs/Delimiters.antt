-- Where the first delimiter stands.
use Rattle.std.proofs.Common.{◌≡◌, ℕ, suc, ◌+◌, ◌-◌, ◌<◌, ◌≤◌, Bool, true, false, not, nat_lt, cond, List, [], ◌∷◌}
use Rattle.std.proofs.Common.{◌++◌, map, length, take, drop, get_or, Some, None, refl, sym, ap, ◌∙◌, arith}
use Rattle.std.proofs.Common.{length-drop}
use Rattle.std.specs.Prelude.{Contains, position}
use Rattle.std.specs.List.{prefix_len, position_or_len}
use Rattle.std.proofs.Math.Seq.{split_at}
use Rattle.std.proofs.lemmas.List.{get_or_append_left, get_or_at, get_or_default, length-map, length-take}
use Rattle.std.proofs.lemmas.List.Elements.{Contains-append_right}
use Rattle.std.proofs.lemmas.List.Quantifiers.{position-Some}
use Rattle.std.proofs.lemmas.List.Sums.{fails_before_first}
use Rattle.std.proofs.lemmas.Slice.Eq.{bytes_eq-Decides}
use Rattle.std.proofs.lemmas.Bool.{false≢true}
use Rattle.jmsg_envelope.specs.Envelope.{delimiter, IsTooShort}
use Rattle.jmsg_envelope.specs.Split.{is_delimiter}

-- a list's first element is in it
pub Contains-head : (x : List ℕ) (xs : List (List ℕ)) → Contains (x ∷ xs) x
Contains-head x xs = (0, omega arith, refl)

-- what is in the rest of a list is in it
pub Contains-tail : (y x : List ℕ) (xs : List (List ℕ)) → Contains xs x → Contains (y ∷ xs) x
Contains-tail y x xs h = Contains-append_right (y ∷ []) xs x h

-- a test before a map, and after it
prefix_len-map : {A B : Type 0} (p : B → Bool) (f : A → B) (xs : List A) → prefix_len p (map f xs)
    ≡ prefix_len (λ x. p (f x)) xs
prefix_len-map p f [] = refl
prefix_len-map p f (x ∷ xs) = ap (λ n. cond (p (f x)) (1 + n) 0) (prefix_len-map p f xs)

pub position-map : {A B : Type 0} (p : B → Bool) (f : A → B) (xs : List A) → position p (map f xs)
    ≡ position (λ x. p (f x)) xs
position-map p f xs =
    rw (prefix_len-map (λ x. not (p x)) f xs, length-map xs f) refl

-- a frame that passes the test is the delimiter, and the delimiter passes
pub delimiter-from_test : (frame : List ℕ) → is_delimiter frame ≡ true → frame ≡ delimiter
delimiter-from_test frame h = (bytes_eq-Decides frame delimiter).0 h

-- no frame before the first that passes is the delimiter
pub none_before : (frames : List (List ℕ)) (n : ℕ) → n ≤ length frames
    → ((k : ℕ) → k < n → is_delimiter (get_or frames k []) ≡ false)
    → (identities after : List (List ℕ)) → frames ≡ identities ++ after → length identities ≡ n
    → ¬ Contains identities delimiter
none_before frames n le fails identities after whole len (k, lt, e) =
    let below : k < n = omega arith in
    let same : get_or identities k delimiter ≡ get_or identities k [] = get_or_default identities k delimiter [] lt in
    let there : get_or (identities ++ after) k [] ≡ get_or identities k [] =
    get_or_append_left identities after [] k lt in
    let is : get_or frames k [] ≡ delimiter = ap (λ fs. get_or fs k []) whole ∙ there ∙ sym same ∙ e in
    false≢true (sym (fails k below) ∙ ap is_delimiter is)

-- where no place is found, none lies below the length
le-from_none : (place size : ℕ) → cond (nat_lt place size) (Some place) None ≡ None → size ≤ place
le-from_none place size h = grind (arith)

-- frames without a place for the delimiter have none
pub none_found : (frames : List (List ℕ)) → position is_delimiter frames ≡ None → ¬ Contains frames delimiter
none_found frames h (k, lt, e) =
    let all = le-from_none (position_or_len is_delimiter frames) (length frames) h in
    let fails = fails_before_first is_delimiter frames k [] (omega arith) in
    let is : get_or frames k [] ≡ delimiter = sym (get_or_default frames k delimiter [] lt) ∙ e in
    false≢true (sym fails ∙ ap is_delimiter is)

-- frames behind which the first delimiter stands are all before it
pub first_found : (frames : List (List ℕ)) (at : ℕ) → position is_delimiter frames ≡ Some at
    → (identities after : List (List ℕ)) (frame : List ℕ) → frames ≡ identities ++ frame ∷ after → length identities
    ≡ at
    → (frame ≡ delimiter) × ¬ Contains identities delimiter
first_found frames at h identities after frame whole len =
    let found = position-Some is_delimiter frames at [] h in
    let there : get_or frames at [] ≡ frame = ap (λ fs. get_or fs at []) whole
    ∙ get_or_at identities frame after [] at len in (
      sym there ∙ delimiter-from_test (get_or frames at []) found.1,
      none_before frames at (omega arith) found.2 identities (frame ∷ after) whole len,
    )

-- frames with a delimiter and too few frames behind it
pub too_short : (frames : List (List ℕ)) (at : ℕ) → position is_delimiter frames ≡ Some at → length frames - at < 6
    → IsTooShort frames
too_short frames at h few =
    let found = position-Some is_delimiter frames at [] h in
    let lt : at < length frames = found.0 in
    let whole = split_at frames at [] lt in
    let len : length (take at frames) ≡ at = simp length-take (omega arith) in
    let first = first_found frames at h (take at frames) (drop (suc at) frames) (get_or frames at []) whole len in
    record {
      identities = take at frames;
      after = drop (suc at) frames;
      whole = whole ∙ ap (λ frame. take at frames ++ frame ∷ drop (suc at) frames) first.0;
      first = first.1;
      few = simp length-drop (omega arith);
    }
