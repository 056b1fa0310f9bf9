-- The octets of a list of properties have one reading, and what was read so far says what is left to read.
use Rattle.std.proofs.Common.{◌≡◌, ◌≢◌, ℕ, ◌^◌, ◌<◌, ◌≤◌, true, false, cond, List, [], ◌∷◌, ◌++◌, length, get_or, take}
use Rattle.std.proofs.Common.{drop, Option, Some, None, refl, sym, ap, subst, ◌∙◌, append_assoc, arith, inl, inr}
use Rattle.std.specs.Prelude.{find}
use Rattle.std.specs.Borrow.{Bor}
use Rattle.std.specs.Option.{option_copied, option_map, option_or}
use Rattle.std.specs.Str.{str_eq_ignore_ascii_case, str_to_ascii_lowercase}
use Rattle.std.proofs.lemmas.Slice.Eq.{bytes_eq-Decides}
use Rattle.std.specs.Int.{w32, from_be_bytes, to_be_bytes}
use Rattle.std.specs.List.{AllByRecursion, flat_map}
use Rattle.std.proofs.lemmas.List.{take_at, drop_at, take-append-drop, length-take, get_or-take, get_or_past}
use Rattle.std.proofs.lemmas.List.{append-nil}
use Rattle.std.proofs.lemmas.Bool.{cases_lt, false_from_ne_true}
use Rattle.std.proofs.lemmas.Nat.{be_bytes_4, from_be_bytes-to_be_bytes_4}
use Rattle.zmtp_wire.specs.Lengths.{short_text, long_text}
use Rattle.zmtp_wire.specs.Ready.{Property, IsProperty, Properties, property_octets, is_named, announced}
use Rattle.zmtp_wire.specs.Ready.{BeginsWithProperty, HasNoProperties}

-- ---- one text behind its length

-- two fronts of one list that are as long as each other are the same
same_front : (a b x y : List ℕ) → length a ≡ length b → a ++ x ≡ b ++ y → (a ≡ b) × (x ≡ y)
same_front a b x y len same = (
  sym (take_at a x (length a) refl) ∙ ap (take (length a)) same ∙ take_at b y (length a) (sym len),
  sym (drop_at a x (length a) refl) ∙ ap (drop (length a)) same ∙ drop_at b y (length a) (sym len),
)

-- what a text behind one octet of length is
same_short_text : (a b x y : List ℕ) → short_text a ++ x ≡ short_text b ++ y → (a ≡ b) × (x ≡ y)
same_short_text a b x y same =
    let len : length a ≡ length b = cc in
    let texts : a ++ x ≡ b ++ y = cc in
    same_front a b x y len texts

-- what a text behind four octets of length is
same_long_text : (a b x y : List ℕ) → length a < 2 ^ 32 → length b < 2 ^ 32 → long_text a ++ x ≡ long_text b ++ y
    → (a ≡ b) × (x ≡ y)
same_long_text a b x y fits_a fits_b same =
    let regrouped : to_be_bytes w32 (length a) ++ (a ++ x) ≡ to_be_bytes w32 (length b) ++ (b ++ y) =
    sym (append_assoc (to_be_bytes w32 (length a)) a x) ∙ same ∙ append_assoc (to_be_bytes w32 (length b)) b y in
    let parts = same_front (to_be_bytes w32 (length a)) (to_be_bytes w32 (length b)) (a ++ x) (b ++ y) refl regrouped in
    let len : length a ≡ length b =
    sym (from_be_bytes-to_be_bytes_4 (length a) fits_a) ∙ ap (from_be_bytes w32) parts.0
    ∙ from_be_bytes-to_be_bytes_4 (length b) fits_b in
    same_front a b x y len parts.1

-- the four octets of a length, and what they say
pub long_text_found : (octets size behind text rest : List ℕ) (n : ℕ) → ((i : ℕ) → get_or octets i 0 < 256)
    → 4 ≤ length octets → size ≡ take 4 octets → behind ≡ drop 4 octets → n ≡ from_be_bytes w32 size → length text ≡ n
    → behind ≡ text ++ rest → (length text < 2 ^ 32) × (octets ≡ long_text text ++ rest)
long_text_found octets size behind text rest n fits long size-is behind-is n-is len split =
    let size_fits : (i : ℕ) → get_or size i 0 < 256 = λ i. rw size-is (elim (cases_lt i 4) [
      | inl lt ↦ rw (get_or-take 4 octets i 0 lt) (fits i)
      | inr le ↦ rw (get_or_past (take 4 octets) i 0 (omega (arith, length-take 4 octets))) (omega arith)
    ]) in
    let size_len : length size ≡ 4 = omega (arith, ap length size-is, length-take 4 octets) in
    let below : n < 2 ^ 32 = omega (arith, n-is, size_fits 0, size_fits 1, size_fits 2, size_fits 3) in
    let size_again : to_be_bytes w32 n ≡ size = be_bytes_4 size n size_len size_fits n-is in
    let whole : octets ≡ to_be_bytes w32 n ++ (text ++ rest) =
    sym (take-append-drop 4 octets) ∙ ap (λ (t : List ℕ). t ++ drop 4 octets) (sym size-is ∙ sym size_again)
    ∙ ap (λ (t : List ℕ). to_be_bytes w32 n ++ t) (sym behind-is ∙ split) in (
      omega arith,
      whole ∙ ap (λ (k : ℕ). to_be_bytes w32 k ++ (text ++ rest)) (sym len)
          ∙ sym (append_assoc (to_be_bytes w32 (length text)) text rest),
    )

-- ---- one property

-- a property at the front, as its name and its value
property_split : (p : Property) (rest : List ℕ) → property_octets p ++ rest ≡ short_text p.name
    ++ (long_text p.value ++ rest)
property_split p rest = append_assoc (short_text p.name) (long_text p.value) rest

-- the octets of a property are no front of another's
same_property : (p q : Property) (x y : List ℕ) → IsProperty p → IsProperty q → property_octets p ++ x
    ≡ property_octets q ++ y → (p ≡ q) × (x ≡ y)
same_property p q x y is_p is_q same =
    let names = same_short_text p.name q.name (long_text p.value ++ x) (long_text q.value ++ y)
    (sym (property_split p x) ∙ same ∙ property_split q y) in
    let values = same_long_text p.value q.value x y is_p.value_fits is_q.value_fits names.1 in (
      ap (λ (n : List ℕ). record { name = n; value = p.value }) names.0
          ∙ ap (λ (v : List ℕ). record { name = q.name; value = v }) values.0,
      values.1,
    )

-- with a name at the front and no value behind it, no property begins there
pub no_value : (octets name behind : List ℕ) → octets ≡ short_text name ++ behind
    → ((text rest : List ℕ) → length text < 2 ^ 32 → behind ≢ long_text text ++ rest) → (p : Property) (rest : List ℕ)
    → ¬ (BeginsWithProperty octets p rest)
no_value octets name behind split none p rest begins =
    let names = same_short_text name p.name behind (long_text p.value ++ rest)
    (sym split ∙ begins.1 ∙ property_split p rest) in
    none p.value rest begins.0.value_fits names.1

-- ---- a list of properties

-- the octets of properties in a row, up to where the first list ends
after : (ps qs : List Property) (left : List ℕ) → AllByRecursion IsProperty ps → AllByRecursion IsProperty qs
    → flat_map property_octets ps ++ left ≡ flat_map property_octets qs → (more : List Property) × (qs ≡ ps ++ more)
    × Properties left more
after [] qs left are_ps are_qs same = (qs, refl, (same, are_qs))
after (p ∷ ps) [] left are_ps are_qs same = absurd cc
after (p ∷ ps) (q ∷ qs) left are_ps are_qs same =
    let heads = same_property p q (flat_map property_octets ps ++ left) (flat_map property_octets qs) are_ps.0 are_qs.0
    (sym (append_assoc (property_octets p) (flat_map property_octets ps) left) ∙ same) in
    let tails = after ps qs left are_ps.1 are_qs.1 heads.1 in
    (tails.0, ap (λ (r : Property). r ∷ qs) (sym heads.0) ∙ ap (λ (rs : List Property). p ∷ rs) tails.1, tails.2)

-- the octets of properties have one reading
pub one_reading : (octets : List ℕ) (ps qs : List Property) → Properties octets ps → Properties octets qs → ps ≡ qs
one_reading octets ps qs left right =
    let rest = after ps qs [] left.1 right.1 (append-nil (flat_map property_octets ps) ∙ sym left.0 ∙ right.0) in
    sym (rest.1 ∙ ap (λ (more : List Property). ps ++ more) (nothing rest.0 rest.2) ∙ append-nil ps)
  where
    nothing : (more : List Property) → Properties [] more → more ≡ []
    nothing [] is = refl
    nothing (p ∷ more) is = absurd cc

-- ---- what was read so far

-- rest is properties that were read, and left; found is the value of the first of those of this name
pub record HasRead (sought rest left : List ℕ) (found : Option (List ℕ)) : Type 0 where
  pub read : List Property
  pub text : rest ≡ flat_map property_octets read ++ left
  pub are : AllByRecursion IsProperty read
  pub value : announced sought read ≡ found

-- the names are the same, without regard to ASCII case
abbrev pub IsSameName : List ℕ → List ℕ → Type 0
IsSameName sought name = str_to_ascii_lowercase name ≡ str_to_ascii_lowercase sought

-- properties, and one more
All_push : (ps : List Property) (p : Property) → AllByRecursion IsProperty ps → IsProperty p
    → AllByRecursion IsProperty (ps ++ p ∷ [])
All_push [] p are is = (is, tt)
All_push (q ∷ ps) p are is = (are.0, All_push ps p are.1 is)

-- the octets of one property more
octets_push : (ps : List Property) (p : Property) (rest : List ℕ) → flat_map property_octets ps
    ++ (property_octets p ++ rest) ≡ flat_map property_octets (ps ++ p ∷ []) ++ rest
octets_push [] p rest = ap (λ (t : List ℕ). t ++ rest) (sym (append-nil (property_octets p)))
octets_push (q ∷ ps) p rest =
    append_assoc (property_octets q) (flat_map property_octets ps) (property_octets p ++ rest)
    ∙ ap (λ (t : List ℕ). property_octets q ++ t) (octets_push ps p rest)
    ∙ sym (append_assoc (property_octets q) (flat_map property_octets (ps ++ p ∷ [])) rest)

-- the first of a name with one property more
announced_push : (sought : List ℕ) (ps : List Property) (p : Property) → announced sought (ps ++ p ∷ [])
    ≡ option_or (announced sought ps) (announced sought (p ∷ []))
announced_push sought [] p = refl
announced_push sought (q ∷ ps) p =
    elim (is_named sought q) as (λ b. option_map (λ r. r.value)
    (cond b (Some q) (find (is_named sought) (ps ++ p ∷ [])))
    ≡ option_or (option_map (λ r. r.value) (cond b (Some q) (find (is_named sought) ps)))
    (announced sought (p ∷ []))) [
      | true ↦ refl
      | false ↦ announced_push sought ps p
    ]

-- one property more was read
read_more : (sought rest left behind : List ℕ) (found : Option (List ℕ)) (p : Property)
    → HasRead sought rest left found → BeginsWithProperty left p behind
    → HasRead sought rest behind (option_or found (announced sought (p ∷ [])))
read_more sought rest left behind found p has begins = record {
  read = has.read ++ p ∷ [];
  text = has.text ∙ ap (λ (t : List ℕ). flat_map property_octets has.read ++ t) begins.1
      ∙ octets_push has.read p behind;
  are = All_push has.read p has.are begins.0;
  value = announced_push sought has.read p
      ∙ ap (λ (o : Option (List ℕ)). option_or o (announced sought (p ∷ []))) has.value;
}

-- the test of a name, by what it compares
named : (sought name : List ℕ) → IsSameName sought name → str_eq_ignore_ascii_case name sought ≡ true
named sought name is = (bytes_eq-Decides (str_to_ascii_lowercase name) (str_to_ascii_lowercase sought)).1 is

-- the same for a name that differs
named_otherwise : (sought name : List ℕ) → ¬ (IsSameName sought name) → str_eq_ignore_ascii_case name sought ≡ false
named_otherwise sought name not = false_from_ne_true _ (λ is. not
    ((bytes_eq-Decides (str_to_ascii_lowercase name) (str_to_ascii_lowercase sought)).0 is))

-- a property of the name was read
pub read_sought : (sought rest left behind name value : List ℕ) (found : Option (List ℕ))
    → HasRead sought rest left found → BeginsWithProperty left (record { name = name; value = value }) behind
    → IsSameName sought name → HasRead sought rest behind (option_or found (Some value))
read_sought sought rest left behind name value found has begins is =
    let test : str_eq_ignore_ascii_case name sought ≡ true = named sought name is in
    let here : announced sought (record { name = name; value = value } ∷ []) ≡ Some value = rw test refl in
    subst (HasRead sought rest behind) (ap (option_or found) here)
    (read_more sought rest left behind found (record { name = name; value = value }) has begins)

-- a property of another name was read
pub read_other : (sought rest left behind name value : List ℕ) (found : Option (List ℕ))
    → HasRead sought rest left found → BeginsWithProperty left (record { name = name; value = value }) behind
    → ¬ (IsSameName sought name) → HasRead sought rest behind found
read_other sought rest left behind name value found has begins not =
    let test : str_eq_ignore_ascii_case name sought ≡ false = named_otherwise sought name not in
    let here : announced sought (record { name = name; value = value } ∷ []) ≡ None = rw test refl in
    subst (HasRead sought rest behind) (ap (option_or found) here ∙ or_none found)
    (read_more sought rest left behind found (record { name = name; value = value }) has begins)
  where
    or_none : (o : Option (List ℕ)) → option_or o None ≡ o
    or_none None = refl
    or_none (Some x) = refl

-- what is left begins with no property: rest is no list of properties
pub read_broken : (sought rest left : List ℕ) (found : Option (List ℕ)) → left ≢ []
    → ((p : Property) (behind : List ℕ) → ¬ (BeginsWithProperty left p behind)) → HasRead sought rest left found
    → HasNoProperties rest
read_broken sought rest left found some none has ps are =
    let more = after has.read ps left has.are are.1 (sym has.text ∙ are.0) in
    broken more.0 more.2
  where
    broken : (more : List Property) → Properties left more → ⊥
    broken [] is = some is.0
    broken (p ∷ more) is = none p (flat_map property_octets more) (is.1.0, is.0)

-- the first of two options of references, by what they point to
pub copied_or : {A : Type 0} (o p : Option (Bor A)) → option_copied (option_or o p)
    ≡ option_or (option_copied o) (option_copied p)
copied_or None p = refl
copied_or (Some x) p = refl
