-- Counts of topics, in a map whose keys are octets.
use Rattle.std.proofs.Common.{◌≡◌, ℕ, ◌+◌, ◌-◌, ◌<◌, ◌≤◌, Bool, true, false, if◌then◌else◌}
use Rattle.std.proofs.Common.{List, [], ◌∷◌, refl, sym, ap, subst, ◌∙◌, arith, Option, Some, None, unwrap_or, bytes_eq}
use Rattle.std.specs.Global.{Vec}
use Rattle.std.specs.Option.{IsSome, IfSome, IfNone, is_some}
use Rattle.std.specs.Ordering.{is_eq, nat_cmp}
use Rattle.std.specs.Cmp.{eq_by_cmp_equiv}
use Rattle.std.specs.Cmp.Lexicographic.{slice_cmp, nat_list_cmp_total, nat_list_eq_equiv}
use Rattle.std.specs.BTreeMap.{BTreeMap, UpdatesBy, get_by, is_at}
use Rattle.std.specs.Map.{lookup, IsKeyTest, AreApart, KeepsOthers}
use Rattle.std.proofs.Common.{length, get_or, cond, nat_lt}
use Rattle.std.proofs.lemmas.Bool.{lt-ltb, le-ltb}
use Rattle.std.specs.List.{swap_remove}
use Rattle.std.proofs.lemmas.List.Sums.{sum_by-swap_remove}
use Rattle.std.proofs.lemmas.Map.Text.{is_eq-slice_cmp}
use Rattle.std.proofs.lemmas.Slice.Eq.{bytes_eq-Decides}
use Rattle.std.proofs.Common.{map}
use Rattle.iopub_relay.specs.Counts.{count_at, counted, listed}

-- a map after what it has at a topic was changed
abbrev pub UpdatesAt : List ℕ → BTreeMap (Vec ℕ) ℕ → BTreeMap (Vec ℕ) ℕ → Option ℕ → Type 0
UpdatesAt topic old new count = UpdatesBy (λ one other. slice_cmp nat_cmp one.items other.items)
    (λ key. slice_cmp nat_cmp topic key.items) old new count

-- octets that differ are at no key together
apart : (topic other key : List ℕ) → bytes_eq topic other ≡ false → is_eq (slice_cmp nat_cmp topic key) ≡ true
    → is_eq (slice_cmp nat_cmp other key) ≡ false
apart topic other key differ same =
    let is_topic : bytes_eq topic key ≡ true = sym (is_eq-slice_cmp topic key) ∙ same in
    is_eq-slice_cmp other key
    ∙ subst (λ (octets : List ℕ). bytes_eq other octets ≡ false) ((bytes_eq-Decides topic key).0 is_topic)
    (nat_list_eq_equiv.symm other topic ∙ differ)

other_entries : {K X : Type 0} (eq : K → K → Bool) (test : K → Bool) (old new : List (K × X))
    → KeepsOthers eq test old new → (other : K → Bool) → IsKeyTest eq other → AreApart test other
    → lookup other new ≡ lookup other old
unfolding KeepsOthers
other_entries eq test old new keeps = keeps

unwrap_if : (test : Bool) (count : ℕ) (other : Option ℕ)
    → unwrap_or (cond test (Some count) other) 0 ≡ (if test then count else unwrap_or other 0)
unwrap_if true count other = refl
unwrap_if false count other = refl

-- the number at a topic, by the list of entries or by the map
at_entries : (entries : List (Vec ℕ × ℕ)) (topic : List ℕ)
    → count_at (map (λ entry. (entry.0.items, entry.1)) entries) topic
    ≡ unwrap_or (lookup (is_at (λ key. slice_cmp nat_cmp topic key.items)) entries) 0
at_entries [] topic = refl
at_entries (entry ∷ entries) topic =
    ap (λ (rest : ℕ). if bytes_eq topic entry.0.items then entry.1 else rest) (at_entries entries topic)
    ∙ ap (λ (b : Bool). if b then entry.1
    else unwrap_or (lookup (is_at (λ key. slice_cmp nat_cmp topic key.items)) entries) 0)
    (sym (is_eq-slice_cmp topic entry.0.items))
    ∙ sym (unwrap_if (is_eq (slice_cmp nat_cmp topic entry.0.items)) entry.1
    (lookup (is_at (λ key. slice_cmp nat_cmp topic key.items)) entries))

-- the number that a map has at a topic is what it finds there, or 0
pub counted_is : (counts : BTreeMap (Vec ℕ) ℕ) (topic : List ℕ)
    → counted counts topic ≡ unwrap_or (get_by (λ key. slice_cmp nat_cmp topic key.items) counts) 0
counted_is counts topic = at_entries counts.entries topic

-- what is counted in a map that has this at a topic, and else what it had
pub counted_after : (old new : BTreeMap (Vec ℕ) ℕ) (topic : List ℕ) (count : Option ℕ)
    → UpdatesAt topic old new count
    → (other : List ℕ) (same : Bool) → bytes_eq topic other ≡ same
    → counted new other ≡ (if same then unwrap_or count 0 else counted old other)
counted_after old new topic count updates other true same =
    subst (λ (octets : List ℕ). counted new octets ≡ unwrap_or count 0) ((bytes_eq-Decides topic other).0 same)
    (counted_is new topic ∙ ap (λ (found : Option ℕ). unwrap_or found 0) updates.1)
counted_after old new topic count updates other false differ =
    counted_is new other ∙ ap (λ (found : Option ℕ). unwrap_or found 0)
    (other_entries _ _ _ _ updates.3 _ (λ one two. (eq_by_cmp_equiv nat_list_cmp_total).congr other one.items two.items)
    (λ key. apart topic other key.items differ)) ∙ sym (counted_is old other)

changed_by : (change : ℕ → ℕ) (old new : BTreeMap (Vec ℕ) ℕ) (topic : List ℕ) (count : Option ℕ)
    → unwrap_or count 0 ≡ change (counted old topic)
    → UpdatesAt topic old new count
    → (other : List ℕ) (same : Bool) → bytes_eq topic other ≡ same
    → counted new other ≡ (if same then change (counted old other) else counted old other)
changed_by change old new topic count is updates other true same =
    counted_after old new topic count updates other true same ∙ is
    ∙ ap (λ (octets : List ℕ). change (counted old octets)) ((bytes_eq-Decides topic other).0 same)
changed_by change old new topic count is updates other false differ =
    counted_after old new topic count updates other false differ

-- the count of a topic was changed, and no other
pub changed : (change : ℕ → ℕ) (old new : BTreeMap (Vec ℕ) ℕ) (topic : List ℕ) (count : Option ℕ)
    → unwrap_or count 0 ≡ change (counted old topic)
    → UpdatesAt topic old new count
    → (other : List ℕ)
    → counted new other ≡ (if bytes_eq topic other then change (counted old other) else counted old other)
changed change old new topic count is updates other =
    changed_by change old new topic count is updates other (bytes_eq topic other) refl

is_there : {found : Option ℕ} (count : ℕ) → Some count ≡ found → IsSome found
is_there count stood = subst (λ (found : Option ℕ). IsSome found) stood refl

-- what is found at a topic is its count
stands : (counts : BTreeMap (Vec ℕ) ℕ) (topic : List ℕ) (count : ℕ)
    → Some count ≡ get_by (λ key. slice_cmp nat_cmp topic key.items) counts → count ≡ counted counts topic
stands counts topic count stood =
    ap (λ (found : Option ℕ). unwrap_or found 0) stood ∙ sym (counted_is counts topic)

-- where nothing is found at a topic it has no count
pub counts_nothing : (counts : BTreeMap (Vec ℕ) ℕ) (topic : List ℕ)
    → None ≡ get_by (λ key. slice_cmp nat_cmp topic key.items) counts → counted counts topic ≡ 0
counts_nothing counts topic found =
    counted_is counts topic ∙ sym (ap (λ (found : Option ℕ). unwrap_or found 0) found)

-- the count that stood at a topic was changed, and no other
pub rewritten : (change : ℕ → ℕ) (old new : BTreeMap (Vec ℕ) ℕ) (topic : List ℕ) (count value : ℕ)
    → Some count ≡ get_by (λ key. slice_cmp nat_cmp topic key.items) old → value ≡ change count
    → (IsSome (get_by (λ key. slice_cmp nat_cmp topic key.items) old)
    → UpdatesAt topic old new (Some value))
    → (other : List ℕ)
    → counted new other ≡ (if bytes_eq topic other then change (counted old other) else counted old other)
rewritten change old new topic count value stood is updates =
    changed change old new topic (Some value) (is ∙ ap change (stands old topic count stood))
    (updates (is_there count stood))

same_either_way : {A : Type 0} (test : Bool) (value : A) → (if test then value else value) ≡ value
same_either_way true value = refl
same_either_way false value = refl

-- the count that stood at a topic was written again
pub kept : (old new : BTreeMap (Vec ℕ) ℕ) (topic : List ℕ) (count : ℕ)
    → Some count ≡ get_by (λ key. slice_cmp nat_cmp topic key.items) old
    → (IsSome (get_by (λ key. slice_cmp nat_cmp topic key.items) old)
    → UpdatesAt topic old new (Some count))
    → (other : List ℕ) → counted new other ≡ counted old other
kept old new topic count stood updates other =
    rewritten (λ same. same) old new topic count count stood refl updates other
    ∙ same_either_way (bytes_eq topic other) (counted old other)

-- a count of one at most was removed, and no other
pub removed : (old middle new : BTreeMap (Vec ℕ) ℕ) (topic : List ℕ) (count : ℕ)
    → Some count ≡ get_by (λ key. slice_cmp nat_cmp topic key.items) old → count ≤ 1
    → ((other : List ℕ) → counted middle other ≡ counted old other)
    → UpdatesAt topic middle new None
    → (other : List ℕ)
    → counted new other ≡ (if bytes_eq topic other then counted old other - 1 else counted old other)
removed old middle new topic count stood few same updates other =
    let stands : counted middle topic ≡ count =
    same topic ∙ sym (stands old topic count stood) in
    let gone : 0 ≡ counted middle topic - 1 = omega (arith, stands, few) in
    changed (λ count. count - 1) middle new topic None gone updates other
    ∙ ap (λ (stood : ℕ). if bytes_eq topic other then stood - 1 else stood) (same other)

-- one is held more
pub held_more : (test : Bool) (new old further : ℕ) → new ≡ (if test then old + 1 else old)
    → new + further ≡ (if test then old + further + 1 else old + further)
held_more true new old further is = omega (arith, is)
held_more false new old further is = ap (λ (n : ℕ). n + further) is

-- one is held less, of those that are counted
pub held_less : (test : Bool) (new old further : ℕ) → new ≡ (if test then old - 1 else old)
    → (test ≡ true → further ≡ 0) → new + further ≡ (if test then old + further - 1 else old + further)
held_less true new old further is none = let no_more = none refl in omega (arith, is, no_more)
held_less false new old further is none = ap (λ (n : ℕ). n + further) is

-- one is held less, of those in the list
pub listed_less : (test : Bool) (count new old : ℕ) → new + (if test then 1 else 0) ≡ old
    → count + new ≡ (if test then count + old - 1 else count + old)
listed_less true count new old is = omega (arith, is)
listed_less false count new old is = omega (arith, is)

-- a topic taken out of a list by its place
pub taken_out : (topics : List (List ℕ)) (place : ℕ) (key topic other : List ℕ) → place < length topics
    → get_or topics place key ≡ topic
    → listed (swap_remove topics place key) other + (if bytes_eq topic other then 1 else 0) ≡ listed topics other
taken_out topics place key topic other within is =
    subst (λ (octets : List ℕ). listed (swap_remove topics place key) other + (if bytes_eq octets other then 1 else 0)
    ≡ listed topics other) is
    (sum_by-swap_remove (λ (octets : List ℕ). cond (bytes_eq octets other) 1 0) topics place key within)

-- whether a topic is held, where it isn't counted: it is where it was found in the list
pub held_by : (found : Option ℕ) (count further : ℕ) → count ≤ 0 → IfSome found (λ place. 0 < further)
    → IfNone found (further ≡ 0) → is_some found ≡ nat_lt 0 (count + further)
held_by (Some place) count further few some none = sym (lt-ltb 0 (count + further) (omega (arith, some)))
held_by None count further few some none = sym (le-ltb 0 (count + further) (omega (arith, few, none)))

lowers_by : (counts : BTreeMap (Vec ℕ) ℕ) (topic other : List ℕ) (same : Bool) → bytes_eq topic other ≡ same
    → counted counts topic ≡ 0
    → counted counts other ≡ (if same then counted counts other - 1 else counted counts other)
lowers_by counts topic other true same none =
    let zero_there : counted counts other ≡ 0 =
    subst (λ (octets : List ℕ). counted counts octets ≡ 0) ((bytes_eq-Decides topic other).0 same) none in
    omega (arith, zero_there)
lowers_by counts topic other false differ none = refl

-- a topic that isn't counted can't be lowered
pub lowers_nothing : (counts : BTreeMap (Vec ℕ) ℕ) (topic other : List ℕ) → counted counts topic ≡ 0
    → counted counts other ≡ (if bytes_eq topic other then counted counts other - 1 else counted counts other)
lowers_nothing counts topic other none = lowers_by counts topic other (bytes_eq topic other) refl none
